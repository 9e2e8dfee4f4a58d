use Rattle.std.proofs.Common.{◌≡◌, ◌<◌, ◌≤◌, ◌-◌, ℕ, slice_index, length}
use Rattle.board_text.specs.Floors.{number_for}
use Rattle.owner_core.proofs.steps.spread.Given as goal

abbrev pub invariant-loop-at : goal.invariant-loop-at
invariant-loop-at l = record {
  sized : length l.told ≡ 16;
  filled : (m : ℕ) → 0 < m → m ≤ l.at → slice_index l.told (m - 1) ≡ number_for m l.floors;
}
