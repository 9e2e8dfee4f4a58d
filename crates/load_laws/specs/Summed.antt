-- What `load` prints is the summary of what each guest performed. Of this project.
use Rattle.std.specs.Prelude.{◌≡◌, ℕ, ◌≤◌, true, false}
use Rattle.std.specs.List.{All}
use Rattle.legacy_regs.specs.Fields.{common_fields, is_in_one_field}
use Rattle.board_script.specs.declared.script.What.{What}
use Rattle.board_script.specs.declared.script.What.TheVariants as what
use Rattle.board_script.specs.Script.{Whole}
use Rattle.board_script.specs.Bounds.{IsScript}
use Rattle.journal.specs.Journals.{Journal, IsLegalJournal}
use Rattle.journal.specs.Settling.{final_of}
use Rattle.journal.specs.Texts.{summary}
use Rattle.script_load.specs.Loaded.{load_limit, loaded}
use Rattle.load_run.specs.Load.{load_summary, load_text}

-- a read is of one common register, and is tried until its command is posted; no line ends a member or disables I/O
abbrev pub IsSummed : What → Type 0
IsSummed (what.BarRead offset count queue once) = (is_in_one_field (common_fields false) offset count ≡ true) × (once ≡ false)
IsSummed (what.Io on) = on ≡ true
IsSummed (what.Disable member) = ⊥
IsSummed what.Reset = ⊥
IsSummed _ = Unit {0}

-- of each legal journal of a script with such lines, the lines and the members' histories give the summary of what each guest performed and was answered
abbrev pub SummariesAgree : Type 0
SummariesAgree = (s : Whole) (j : Journal) → IsScript s → IsLegalJournal s j → All (λ line. IsSummed line.what) s.lines → load_summary s j ≡ summary s j

-- so what `load SEED COUNT` prints is the summary of the definition's run of the script that the seed makes
abbrev pub LoadIsSummed : Type 0
LoadIsSummed = (seed count : ℕ) → count ≤ load_limit → load_text seed count ≡ summary (loaded seed count) (final_of (loaded seed count))
