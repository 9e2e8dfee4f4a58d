-- Lines whose numbers rise are at most as many as there are numbers.
use Rattle.std.proofs.Common.{ℕ, suc, ◌+◌, ◌<◌, ◌≤◌, List, [], ◌∷◌, length, arith}
use Rattle.std.specs.List.{All}
use Rattle.board_script.specs.declared.script.ActorLine.{ActorLine}
use Rattle.board_script.specs.Limits.{line_limit}
use Rattle.board_script.specs.Bounds.{AreNumbered, ScriptsAreShort}

rest_numbered : (line : ActorLine) (lines : List ActorLine) → AreNumbered (line ∷ lines) → AreNumbered lines
rest_numbered line lines are = record {
  in_order = λ i j d lt within. are.in_order (suc i) (suc j) d (omega arith) (omega arith);
  below = λ k d lt. are.below (suc k) d (omega arith);
}

room : (from : ℕ) (lines : List ActorLine) → AreNumbered lines → All (λ l. from ≤ l.number) lines → from ≤ line_limit → from + length lines ≤ line_limit
room from [] are all le = omega arith
room from (line ∷ lines) are all le =
    let first = all 0 line (omega arith) in
    let below = are.below 0 line (omega arith) in
    let behind : All (λ l. from + 1 ≤ l.number) lines = λ k d lt. let later = are.in_order 0 (suc k) d (omega arith) (omega arith) in omega (arith, first, later) in
    let next = room (from + 1) lines (rest_numbered line lines are) behind (omega (arith, first, below)) in
    omega (arith, next)

pub scripts_are_short : ScriptsAreShort
scripts_are_short s is = let few = room 0 s.lines is.numbered (λ k d lt. omega arith) (omega arith) in (omega (arith, few), is.scheduled)
