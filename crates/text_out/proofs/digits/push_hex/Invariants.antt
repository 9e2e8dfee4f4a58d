use Rattle.std.proofs.Common.{◌≡◌, ◌≤◌, ◌++◌, ◌-◌, length, take, drop}
use Rattle.hex.specs.Hex.{encode_lower}
use Rattle.text_out.proofs.digits.push_hex.Given as goal

-- what was appended and the hex of what is left are the hex of all, and what was there before is there
abbrev pub invariant-parts : goal.invariant-parts
invariant-parts l = record {
  within : l.from ≤ length l.bytes;
  so_far : l.output.items ++ encode_lower (drop l.from l.bytes) ≡ l.fn.output.items ++ encode_lower l.bytes;
  before : l.before ≡ length l.fn.output.items;
  grown : l.before ≤ length l.output.items;
  kept : take l.before l.output.items ≡ l.fn.output.items;
}

abbrev pub decreases-parts : goal.decreases-parts
decreases-parts l = length l.bytes - l.from
