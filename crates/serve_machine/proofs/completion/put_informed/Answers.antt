use Rattle.std.proofs.Common.{◌∙◌, ap, take}
use Rattle.byte_fields.specs.Places.{bytes_of}
use Rattle.serve_machine.proofs.completion.put_informed.Goals as goal

pub returns : goal.returns
unfolding bytes_of
returns c = c.truncate.ensures ∙ ap (take c.args.writable) c.lent.ensures
