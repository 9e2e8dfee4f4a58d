-- The word of an actor names it again, and a line says again what the actor does.
use Rattle.std.proofs.Common.{◌≡◌, ℕ, ◌-◌, ◌^◌, ◌<◌, ◌≤◌, Bool, true, false, cond, nat_le, List, [], ◌∷◌, ◌++◌, Option, Some, Ok, refl, ap, ◌∙◌, arith}
use Rattle.std.specs.Prelude.{◌==◌, codes}
use Rattle.std.specs.Fmt.{decimal}
use Rattle.std.proofs.lemmas.Bool.{and_from}
use Rattle.std.proofs.lemmas.Bool.Decides.{nat_tests}
use Rattle.script_words.specs.declared.shape.Act.{Act}
use Rattle.script_words.specs.declared.shape.Shape.TheVariants as line
use Rattle.script_words.specs.declared.words.Head.{Head}
use Rattle.script_words.specs.declared.words.Head.TheVariants as head
use Rattle.script_words.specs.Words.{are_words, head_of}
use Rattle.script_words.specs.Parts.{form}
use Rattle.script_words.specs.Shape.{form_at, guest_form, worker_form, host_form}
use Rattle.board_script.specs.declared.script.ActorLine.{ActorLine}
use Rattle.board_script.specs.declared.script.Board.{Board}
use Rattle.board_script.specs.declared.script.Setup.{Setup}
use Rattle.board_script.specs.declared.script.What.{What}
use Rattle.board_script.specs.Limits.{first_worker, the_host}
use Rattle.board_script.specs.Script.{with_text}
use Rattle.board_script.specs.Shapes.{act_says}
use Rattle.script_writer.specs.Written.{actor_word, what_words}
use Rattle.script_laws.proofs.Numbers.{plain_number, number_digits}
use Rattle.script_laws.proofs.Lines.{line_of}
use Rattle.script_laws.proofs.Steps.{place_of, so_far, line_again}

-- ---- the word of an actor

other_number : (n m : ℕ) → n < m → (n == m) ≡ false
other_number n m lt = grind (arith, nat_tests)

not_from : (n low : ℕ) → n < low → nat_le low n ≡ false
not_from n low lt = grind (arith, nat_tests)

from_low : (n low : ℕ) → low ≤ n → nat_le low n ≡ true
from_low n low le = grind (arith, nat_tests)

pub guest_word : (n : ℕ) → n < first_worker → actor_word n ≡ 103 ∷ decimal n
guest_word n lt =
    ap (λ (t : Bool). cond t (codes "host") (cond (nat_le first_worker n) (119 ∷ decimal (n - first_worker)) (103 ∷ decimal n))) (other_number n the_host (omega arith))
    ∙ ap (λ (t : Bool). cond t (119 ∷ decimal (n - first_worker)) (103 ∷ decimal n)) (not_from n first_worker lt)

pub worker_word : (n : ℕ) → first_worker ≤ n → n < the_host → actor_word n ≡ 119 ∷ decimal (n - first_worker)
worker_word n le lt =
    ap (λ (t : Bool). cond t (codes "host") (cond (nat_le first_worker n) (119 ∷ decimal (n - first_worker)) (103 ∷ decimal n))) (other_number n the_host lt)
    ∙ ap (λ (t : Bool). cond t (119 ∷ decimal (n - first_worker)) (103 ∷ decimal n)) (from_low n first_worker le)

pub guest_head : (n : ℕ) → n < 2 ^ 64 → head_of (103 ∷ decimal n) ≡ head.Guest (decimal n)
guest_head n lt = ap (λ (b : Bool). cond b (head.Guest (decimal n)) (head.Name (103 ∷ decimal n))) (number_digits n lt)

pub worker_head : (n : ℕ) → n < 2 ^ 64 → head_of (119 ∷ decimal n) ≡ head.Worker (decimal n)
worker_head n lt = ap (λ (b : Bool). cond b (head.Worker (decimal n)) (head.Name (119 ∷ decimal n))) (number_digits n lt)

-- ---- a line of an actor

-- Its words are words, and in whatever script has this board and these guests they say again what they were written for.
pub record IsSaid (board : Board) (guests : List Setup) (who : ℕ) (does : What) : Type 0 where
  pub words : are_words (actor_word who ∷ what_words does) ≡ true
  pub again : (number : ℕ) (lines : List ActorLine) → with_text (place_of number) (so_far board guests lines []) (line_of (actor_word who ∷ what_words does))
      ≡ Ok (so_far board guests (lines ++ record { number = number; who = who; what = does } ∷ []) [])

-- an act says what an actor does, in whatever script has this board and these guests
abbrev pub IsActOf : Board → List Setup → ℕ → What → Act → Type 0
IsActOf board guests who does acts = (number : ℕ) (lines : List ActorLine) → act_says (place_of number) (so_far board guests lines []) acts
    ≡ Ok (so_far board guests (lines ++ record { number = number; who = who; what = does } ∷ []) [])

pub guest_says : (board : Board) (guests : List Setup) (who : ℕ) (does : What) (acts : Act) → who < first_worker → are_words (what_words does) ≡ true → guest_form (decimal who) (what_words does) ≡ Some acts
    → IsActOf board guests who does acts → IsSaid board guests who does
guest_says board guests who does acts lt words form_is row =
    let all : are_words ((103 ∷ decimal who) ∷ what_words does) ≡ true = and_from _ _ (plain_number who (omega arith)) words in
    record {
      words = ap (λ (w : List ℕ). are_words (w ∷ what_words does)) (guest_word who lt) ∙ all;
      again = λ number lines.
          ap (λ (w : List ℕ). with_text (place_of number) (so_far board guests lines []) (line_of (w ∷ what_words does))) (guest_word who lt)
          ∙ line_again number (so_far board guests lines []) 103 (decimal who) (what_words does) (line.Acts acts) refl all
          (ap (λ (h : Head). form_at h (what_words does)) (guest_head who (omega arith)) ∙ ap (λ (o : Option Act). form o (λ a. line.Acts a)) form_is)
          ∙ row number lines;
    }

pub worker_says : (board : Board) (guests : List Setup) (who : ℕ) (does : What) (acts : Act) → first_worker ≤ who → who < the_host → are_words (what_words does) ≡ true
    → worker_form (decimal (who - first_worker)) (what_words does) ≡ Some acts → IsActOf board guests who does acts → IsSaid board guests who does
worker_says board guests who does acts le lt words form_is row =
    let all : are_words ((119 ∷ decimal (who - first_worker)) ∷ what_words does) ≡ true = and_from _ _ (plain_number (who - first_worker) (omega arith)) words in
    record {
      words = ap (λ (w : List ℕ). are_words (w ∷ what_words does)) (worker_word who le lt) ∙ all;
      again = λ number lines.
          ap (λ (w : List ℕ). with_text (place_of number) (so_far board guests lines []) (line_of (w ∷ what_words does))) (worker_word who le lt)
          ∙ line_again number (so_far board guests lines []) 119 (decimal (who - first_worker)) (what_words does) (line.Acts acts) refl all
          (ap (λ (h : Head). form_at h (what_words does)) (worker_head (who - first_worker) (omega arith)) ∙ ap (λ (o : Option Act). form o (λ a. line.Acts a)) form_is)
          ∙ row number lines;
    }

pub host_says : (board : Board) (guests : List Setup) (does : What) (acts : Act) → are_words (what_words does) ≡ true → host_form (what_words does) ≡ Some acts
    → IsActOf board guests the_host does acts → IsSaid board guests the_host does
host_says board guests does acts words form_is row = record {
  words = words;
  again = λ number lines.
      line_again number (so_far board guests lines []) 104 (codes "ost") (what_words does) (line.Acts acts) refl words (ap (λ (o : Option Act). form o (λ a. line.Acts a)) form_is)
      ∙ row number lines;
}
