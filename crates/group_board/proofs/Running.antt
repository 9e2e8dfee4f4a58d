-- A run whose cells, traces and answers are those of a legal journal has the journal's text.
use Rattle.std.proofs.Common.{◌≡◌, ℕ, ◌<◌, List, [], ◌∷◌, length, refl, sym, ap, ◌∙◌, arith}
use Rattle.std.specs.Prelude.{Ok}
use Rattle.board_script.specs.declared.draft.Use.TheVariants.{Group}
use Rattle.board_script.specs.Script.{Whole, script_of}
use Rattle.board_script.specs.Bounds.{IsScript}
use Rattle.journal.specs.Performing.{Performed}
use Rattle.journal.specs.Journals.{Journal, ArePerformed, IsLegalJournal}
use Rattle.journal.specs.Texts.{answer_lines, rendered}
use Rattle.journal.specs.Settling.{final_of}
use Rattle.group_cells.specs.Plain.{Plain}
use Rattle.actor_core.specs.declared.actor.Actor.{Actor}
use Rattle.actor_core.specs.declared.items.LeftItem.{LeftItem}
use Rattle.actor_core.specs.Answered.{ended_of}
use Rattle.board_run.specs.Ran.{IsRun}
use Rattle.board_render.specs.Cells.{AreCells}
use Rattle.board_render.specs.Runs.{run_text, AreRunOf}
use Rattle.board_render.proofs.RunTexts.{run_agrees}
use Rattle.group_board.specs.Output.{output_for, step_text}
use Rattle.group_board.proofs.Headlined.{headlined}

-- all lines have ended, so all are shown
all_shown : (s : Whole) (who : ℕ) (past : List Performed) → ArePerformed s who past → ended_of s who past ≡ past
all_shown s who [] performed = refl
all_shown s who (p ∷ past) performed = rw performed.1 refl

module _ (s : Whole) (j : Journal) (legal : IsLegalJournal s j) (cells : Plain) (actors : List Actor) (left : List LeftItem) (run : IsRun s j cells actors left) where
  of_cells : AreCells s j cells
  of_cells = record {
    owner = sym run.cells_of.owner;
    queue_count = sym run.cells_of.queue_count;
    queues = λ k cell at. sym (run.cells_of.queue k cell at).1;
    member_count = sym run.cells_of.member_count;
    members = λ k cell at. sym (run.cells_of.member k cell at).1;
  }

  pub some_guests : length cells.members < length actors
  some_guests = let members = run.cells_of.member_count in let count = run.count in omega (arith, members, count)

  is_run : AreRunOf s j cells actors left
  is_run = record {
    cells_of = of_cells;
    guests = let count = run.count in omega (arith, count);
    answers = λ g actor guest at. run.answers g actor guest at ∙ ap (answer_lines s g) (all_shown s g (j.past g) (legal.performed g));
    left_of = run.left_of;
  }

  pub same_run_text : run_text cells actors left ≡ rendered s j
  same_run_text = run_agrees s j cells actors left is_run

-- the text of the definition's run of what was read
pub step_made : (text : List ℕ) (s : Whole) (cells : Plain) (actors : List Actor) (left : List LeftItem) → IsScript s → script_of Group text ≡ Ok s → IsRun s (final_of s) cells actors left
    → (output_for step_text (script_of Group text) ≡ Ok (run_text cells actors left)) × (length cells.members < length actors)
step_made text s cells actors left script read run =
    let legal : IsLegalJournal s (final_of s) = (headlined s script).legal in
    let same : run_text cells actors left ≡ step_text s = same_run_text s (final_of s) legal cells actors left run in
    (ap (output_for step_text) read ∙ ap (λ (t : List ℕ). Ok t) (sym same), some_guests s (final_of s) legal cells actors left run)
