-- What is kept of a guest's answers, in words. Of this project.
use Rattle.std.specs.Prelude.{ℕ, ◌%◌, Bool, true, false, List, [], ◌∷◌, codes, flat_map, Option, None, Some}
use Rattle.hex.specs.Hex.{encode_lower}
use Rattle.group_calls.specs.declared.ask.Told.{Told}
use Rattle.vfio_driver.specs.declared.access.Answer.{Answer}
use Rattle.vfio_driver.specs.declared.access.Answer.TheVariants.{Data, Written, Ones, RefusedFull, RefusedMemory}
use Rattle.guest_lines.specs.Lines.{halt_words}
use Rattle.guest_lines.specs.Earlier.{numbered}
use Rattle.journal.specs.Answers.{full_words, told_words}
use Rattle.actor_core.specs.declared.items.Shown.{Shown}
use Rattle.actor_core.specs.declared.items.Shown.TheVariants as shown
use Rattle.actor_core.specs.declared.items.AnswerItem.{AnswerItem}
use Rattle.actor_core.specs.declared.outside.Outside.{Outside}
use Rattle.actor_core.specs.declared.outside.Outside.TheVariants as outside
use Rattle.actor_core.specs.declared.performer.Ending.{Ending}
use Rattle.actor_core.specs.declared.performer.Ending.TheVariants.{Told as IsTold, Answered}

-- the mask of vectors has two digits, since no vector is above 7
abbrev pub shown_words : Shown → List ℕ
shown_words (shown.Bytes bytes) = encode_lower bytes
shown_words shown.Done = codes "ok"
shown_words (shown.Full queue at) = full_words queue at
shown_words (shown.Mask mask) = encode_lower (mask % 256 ∷ [])
shown_words shown.Served = codes "served"
shown_words shown.Empty = codes "empty"
shown_words shown.Idle = codes "idle"
shown_words (shown.Halted halt) = halt_words halt
shown_words shown.Dropped = codes "dropped"
shown_words shown.Gone = codes "gone"

abbrev pub answer_text : AnswerItem → List ℕ
answer_text item = numbered item.line (shown_words item.shown)

abbrev pub answers_text : List AnswerItem → List ℕ
answers_text items = flat_map answer_text items

-- ---- how a line ends

-- what the host answers by itself
abbrev pub host_words : Outside → List ℕ
host_words (outside.Bytes bytes) = encode_lower bytes
host_words outside.Done = codes "ok"

-- want of memory is shown by no word
abbrev pub driver_words : Outside → Answer → List ℕ
driver_words host (Data bytes) = encode_lower bytes
driver_words host Written = codes "ok"
driver_words host Ones = host_words host
driver_words host (RefusedFull queue at) = full_words queue at
driver_words host RefusedMemory = []

abbrev pub ending_words : Outside → Told → Ending → List ℕ
ending_words host told IsTold = told_words told
ending_words host told (Answered answer) = driver_words host answer

-- the line, where it has ended
abbrev pub ending_text : ℕ → Outside → Told → Option Ending → List ℕ
ending_text number host told None = []
ending_text number host told (Some ending) = numbered number (ending_words host told ending)

abbrev pub text_where : Bool → ℕ → List ℕ → List ℕ
text_where true number words = numbered number words
text_where false number words = []
