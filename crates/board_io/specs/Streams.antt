-- A reader or a writer as a source or a sink, as contracts see it. Of this project.
use Rattle.std.specs.Prelude.{ℕ}

-- the reader or the writer, and how often it failed
pub record StreamState (S : Type 0) : Type 0 where
  pub stream : S
  pub faults : ℕ
