use Rattle.std.proofs.Common.{refl, sym, ap, ◌∙◌, replicate}
use Rattle.std.specs.Prelude.{◌*◌}
use Rattle.byte_fields.specs.Sizes.{sector_size}
use Rattle.group_calls.proofs.Stages.{memory_after-start, disk_after-start}
use Rattle.lone_device.proofs.stored.Stored.new.Goals as goal

pub returns-clause-holds : goal.returns-clause-holds
returns-clause-holds c = record {
  made_is = refl;
  memory = c.in_ok-memory.ensures ∙ sym (memory_after-start c.args.made);
  disk = c.in_ok-disk.ensures ∙ ap (λ count. replicate (sector_size * count) 0) c.sectors.ensures ∙ sym (disk_after-start c.args.made);
}
