-- One written line, and what the lines say with it.
use Rattle.std.proofs.Common.{◌≡◌, ℕ, ◌+◌, Bool, true, false, cond, List, ◌∷◌, ◌++◌, length, Some, None, Result, Ok, ap, ◌∙◌, arith}
use Rattle.std.specs.Prelude.{◌==◌, ◌||◌, map}
use Rattle.std.proofs.lemmas.Bool.Decides.{nat_tests}
use Rattle.script_words.specs.declared.cause.Cause.{Cause}
use Rattle.script_words.specs.declared.shape.Shape.{Shape}
use Rattle.script_words.specs.Words.{are_words}
use Rattle.script_words.specs.Shape.{form_of, shape_of}
use Rattle.script_words.specs.Texts.{and_then}
use Rattle.board_script.specs.declared.draft.Use.TheVariants as use_of
use Rattle.board_script.specs.declared.script.ActorLine.{ActorLine}
use Rattle.board_script.specs.declared.script.Board.{Board}
use Rattle.board_script.specs.declared.script.Setup.{Setup}
use Rattle.board_script.specs.declared.script.Turns.{Turns}
use Rattle.board_script.specs.SoFar.{SoFar}
use Rattle.board_script.specs.declared.place.Place.{Place}
use Rattle.board_script.specs.Script.{with_text, with_lines}
use Rattle.board_script.specs.Shapes.{shape_says, form_says}
use Rattle.board_script.proofs.Table.{with_text-shape}
use Rattle.script_writer.specs.Written.{spaced}
use Rattle.script_laws.proofs.Lines.{words_again, line_of}

-- where a line of a group's script stands
abbrev pub place_of : ℕ → Place
place_of number = record { used = use_of.Group; number = number }

-- what the lines so far say, with a board
abbrev pub so_far : Board → List Setup → List ActorLine → List Turns → SoFar
so_far board guests lines turns = record { board = Some board; guests = guests; lines = lines; turns = turns }

or_both : (a b : Bool) → a ≡ false → b ≡ false → (a || b) ≡ false
or_both true b p q = absurd cc
or_both false b p q = q

some_byte : (bytes : List ℕ) (letter : ℕ) → (length (letter ∷ bytes) == 0) ≡ false
some_byte bytes letter = grind (arith, nat_tests)

pub shape_again : (first : List ℕ) (others : List (List ℕ)) (shape : Shape) → are_words (first ∷ others) ≡ true → form_of (first ∷ others) ≡ Some shape → shape_of (first ++ spaced others) ≡ Some shape
shape_again first others shape words form =
    ap (λ (w : List (List ℕ)). cond (are_words w) (form_of w) None) (words_again first others words) ∙ ap (λ (b : Bool). cond b (form_of (first ∷ others)) None) words ∙ form

-- A line of a form at its place says what its words say.
pub line_again : (number : ℕ) (d : SoFar) (letter : ℕ) (bytes : List ℕ) (others : List (List ℕ)) (shape : Shape) → (letter == 35) ≡ false → are_words ((letter ∷ bytes) ∷ others) ≡ true
    → form_of ((letter ∷ bytes) ∷ others) ≡ Some shape → with_text (place_of number) d (line_of ((letter ∷ bytes) ∷ others)) ≡ shape_says (place_of number) d shape
line_again number d letter bytes others shape plain words form =
    let text : List ℕ = (letter ∷ bytes) ++ spaced others in
    with_text-shape (place_of number) d text (or_both (length text == 0) (letter == 35) (some_byte (bytes ++ spaced others) letter) plain)
    ∙ ap (form_says (place_of number) d) (shape_again (letter ∷ bytes) others shape words form)

-- the first line of several
pub one_line : (number : ℕ) (d next : SoFar) (words : List (List ℕ)) (rest : List (List (List ℕ))) → with_text (place_of number) d (line_of words) ≡ Ok next
    → with_lines use_of.Group number d (map line_of (words ∷ rest)) ≡ with_lines use_of.Group (number + 1) next (map line_of rest)
one_line number d next words rest e = ap (λ (r : Result SoFar Cause). and_then number r (λ then. with_lines use_of.Group (number + 1) then (map line_of rest))) e
