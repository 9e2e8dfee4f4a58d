-- What contracts see of a log. Of this project.
use Rattle.std.specs.Prelude.{ℕ, List}

-- the entries, the latest first, and how many fit without more memory
pub record Kept (E : Type 0) : Type 0 where
  pub entries : List E
  pub room : ℕ
