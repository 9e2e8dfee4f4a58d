use Rattle.std.proofs.Common.{sym, arith}
use Rattle.board_script.proofs.Kept.{line_kept}
use Rattle.board_script.proofs.draft.Draft.add_line.Goals as goal

pub invariant_of-self-2 : goal.invariant_of-self-2
invariant_of-self-2 c =
    let before = c.self.invariant in
    rw c.in_ok-push.ensures.items (before.0, before.1, before.2, line_kept _ c.args.line before.3 (rw (sym c.self.view_is) at c.requires.may) (rw (sym c.self.view_is) at c.requires.before) (omega arith), before.4)
