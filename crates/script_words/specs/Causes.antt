-- The causes by name. Of this project.
use Rattle.std.specs.Prelude.{ℕ, List, codes}
use Rattle.script_words.specs.declared.cause.Cause.{Cause}
use Rattle.script_words.specs.declared.cause.Cause.TheVariants as cause

abbrev pub cause_name : Cause → List ℕ
cause_name cause.Word = codes "word"
cause_name cause.Number = codes "number"
cause_name cause.Hex = codes "hex"
cause_name cause.Setup = codes "setup"
cause_name cause.Actor = codes "actor"
cause_name cause.Range = codes "range"
cause_name cause.Kind = codes "kind"
cause_name cause.Limit = codes "limit"
