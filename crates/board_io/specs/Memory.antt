-- A source and a sink over memory, as contracts see them. Of this project.
use Rattle.std.specs.Prelude.{◌≡◌, ℕ, min, List}
use Rattle.board_io.specs.declared.source.Taken.{Taken}
use Rattle.board_io.specs.declared.source.Taken.TheVariants.{Bytes, End, Failed}

-- what is left, the number of the next call, the numbers of the calls that fail, how many did, and the length of the longest buffer
pub record SourceState : Type 0 where
  pub left : List ℕ
  pub calls : ℕ
  pub failing : List ℕ
  pub faults : ℕ
  pub widest : ℕ

-- what is held, how many bytes may be held in all, the same numbers, and the length of the longest piece
pub record SinkState : Type 0 where
  pub held : List ℕ
  pub room : ℕ
  pub calls : ℕ
  pub failing : List ℕ
  pub faults : ℕ
  pub widest : ℕ

-- bytes come as many as there is room for, or all that are left
abbrev pub FillsRoom : Taken → ℕ → ℕ → Type 0
FillsRoom (Bytes n) room left = n ≡ min room left
FillsRoom End room left = Unit {0}
FillsRoom Failed room left = Unit {0}
