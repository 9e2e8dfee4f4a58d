-- The headline of what `step` and `run` put. Of this project.
use Rattle.std.specs.Prelude.{◌≡◌, List, ℕ, Option, Some, Ok, IfSome}
use Rattle.std.specs.Io.KnownBytes.{Appends}
use Rattle.board_script.specs.declared.draft.Use.TheVariants.{Group}
use Rattle.board_script.specs.Script.{Whole, script_of}
use Rattle.journal.specs.Journals.{Journal, IsLegalJournal}
use Rattle.journal.specs.Settling.{final_of}
use Rattle.journal.specs.Texts.{rendered}
use Rattle.journal.specs.Laws.{HasAll}
use Rattle.group_board.specs.declared.words.Command.{Command}
use Rattle.group_board.specs.declared.words.Command.TheVariants.{Admin, Step, Alone}

-- a journal of a script that is legal, and has the headline for each guest, and what holds beside it
pub record IsHeadlined (s : Whole) (j : Journal) : Type 0 where
  pub legal : IsLegalJournal s j
  pub all : HasAll s j

-- the text is that of a script that has such a journal
pub record HasHeadline (text : List ℕ) : Type 0 where
  pub script : Whole
  pub journal : Journal
  pub read : script_of Group text ≡ Ok script
  pub headlined : IsHeadlined script journal

-- which is the definition's run of it under its schedule
abbrev pub HasStepHeadline : List ℕ → Type 0
HasStepHeadline text = (h : HasHeadline text) × (h.journal ≡ final_of h.script)

-- what a command reads has it, where there is one
abbrev pub HasItsHeadline : Command → List ℕ → Type 0
HasItsHeadline Step text = HasStepHeadline text
HasItsHeadline Alone text = Unit {0}
HasItsHeadline Admin text = Unit {0}

-- under `step` a text was read, which is what the source told where it tells, and the sink grew, where it tells, by the text of such a journal
abbrev pub PutsHeadline : Option Command → Option (List ℕ) → Option (List ℕ) → Option (List ℕ) → Type 0
PutsHeadline (Some Step) told old new =
    (text : List ℕ) × (h : HasStepHeadline text) × IfSome told (λ whole. whole ≡ text) × Appends old new (rendered h.0.script h.0.journal)
PutsHeadline _ told old new = Unit {0}
