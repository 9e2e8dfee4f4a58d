-- The definition's run of a script has the headline.
use Rattle.std.proofs.Common.{◌≡◌, ℕ, List, refl}
use Rattle.std.specs.Prelude.{Ok}
use Rattle.board_script.specs.Script.{Whole, script_of}
use Rattle.board_script.specs.Bounds.{IsScript}
use Rattle.journal.specs.Journals.{IsLegalJournal}
use Rattle.journal.specs.Worlds.{schedule}
use Rattle.journal.specs.Settling.{final_of}
use Rattle.world_laws.proofs.Counts.{schedule_short}
use Rattle.world_laws.proofs.Legal.{world_legal}
use Rattle.answer_laws.proofs.Heading.{legal_headline}
use Rattle.board_script.specs.declared.draft.Use.TheVariants.{Group}
use Rattle.group_board.specs.Headline.{IsHeadlined, HasStepHeadline}

pub headlined : (s : Whole) → IsScript s → IsHeadlined s (final_of s)
headlined s script =
    let legal : IsLegalJournal s (final_of s) = (world_legal s (schedule s) script (schedule_short s script)).1 in
    record { legal = legal; all = legal_headline s (final_of s) script legal }

-- so a text that was read as a script has it
pub read_headlined : (text : List ℕ) (s : Whole) → IsScript s → script_of Group text ≡ Ok s → HasStepHeadline text
read_headlined text s script read = (record { script = s; journal = final_of s; read = read; headlined = headlined s script }, refl)
