use Rattle.std.proofs.Common.{◌-◌, ◌∙◌, sym}
use Rattle.std.specs.List.{slice_get}
use Rattle.admin_run.proofs.ShortReplies.{acted_short}
use Rattle.admin_run.proofs.group.carry_out.Goals as goal

pub access_done-requires : goal.access_done-requires
access_done-requires c =
    acted_short c.in-Legacy.command (slice_get c.args.members.now.items (c.in-Legacy.member - 1)) c.in-Some.reply (sym c.in_ok-reply-in-Legacy.ensures.reply ∙ c.in-Some.is)
