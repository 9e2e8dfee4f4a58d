use Rattle.std.proofs.Common.{◌≡◌, ◌+◌, ap, ◌∙◌, arith}
use Rattle.script_load.specs.Loaded.{loaded_line, next_state, drawn}
use Rattle.script_load.proofs.Draws.{lines_left, no_lines_left}
use Rattle.script_load.proofs.load.load_lines.Goals as goal

pub lines-preserved : goal.lines-preserved
lines-preserved c =
    let line : c.line.result ≡ loaded_line (6 + c.lines.index) (drawn (next_state c.lines.state)) =
    c.line.ensures ∙ ap (loaded_line (6 + c.lines.index)) (c.drawn.ensures ∙ ap drawn c.next_state-state.ensures) in
    rw (c.in_ok-push.ensures.items, line, c.next_state-state.ensures) (lines_left _ c.lines.lines.items c.args.count c.lines.index 6 c.lines.state (omega arith) c.lines.invariant)

pub returns : goal.returns
returns c = no_lines_left _ c.lines.lines.items c.args.count c.lines.index (6 + c.lines.index) c.lines.state (omega arith) c.lines.invariant
