-- The words of a line. Of this project.
use Rattle.std.specs.Prelude.{ℕ, ◌==◌, ◌&&◌, nat_le, Bool, false, if◌then◌else◌, List, [], ◌∷◌, Option, Some, None}
use Rattle.std.specs.List.{slice_split, list_all}
use Rattle.std.specs.Char.{is_ascii_digit}
use Rattle.script_words.specs.declared.words.Head.{Head}
use Rattle.script_words.specs.declared.words.Head.TheVariants.{Guest, Worker, Name}

-- the words of a line, which are apart by one space
abbrev pub words_of : List ℕ → List (List ℕ)
words_of line = slice_split (λ byte. byte == 32) line

abbrev pub is_printable : ℕ → Bool
is_printable byte = nat_le 33 byte && nat_le byte 126

-- One or more bytes of printable ASCII. Where a space stands at an end of a line, or next to another, a word is empty.
abbrev pub is_word : List ℕ → Bool
is_word [] = false
is_word (byte ∷ bytes) = list_all is_printable (byte ∷ bytes)

abbrev pub are_words : List (List ℕ) → Bool
are_words words = list_all is_word words

-- what follows `@`
abbrev pub after_at_of : List ℕ → Option (List ℕ)
after_at_of [] = None
after_at_of (first ∷ rest) = if first == 64 then Some rest else None

-- one digit or more
abbrev pub are_digits : List ℕ → Bool
are_digits [] = false
are_digits (digit ∷ digits) = list_all is_ascii_digit (digit ∷ digits)

-- `g` or `w` with digits after it: a guest or a worker by its digits. Any other word is a name.
abbrev pub head_of : List ℕ → Head
head_of [] = Name []
head_of (letter ∷ digits) =
    if are_digits digits then (if letter == 103 then Guest digits else if letter == 119 then Worker digits else Name (letter ∷ digits)) else Name (letter ∷ digits)

-- the words where they are just so many
abbrev pub one_of : List (List ℕ) → Option (List ℕ)
one_of (a ∷ []) = Some a
one_of [] = None
one_of (a ∷ b ∷ more) = None

abbrev pub two_of : List (List ℕ) → Option (List ℕ × List ℕ)
two_of (a ∷ b ∷ []) = Some (a, b)
two_of [] = None
two_of (a ∷ []) = None
two_of (a ∷ b ∷ c ∷ more) = None

abbrev pub three_of : List (List ℕ) → Option (List ℕ × List ℕ × List ℕ)
three_of (a ∷ b ∷ c ∷ []) = Some (a, b, c)
three_of [] = None
three_of (a ∷ []) = None
three_of (a ∷ b ∷ []) = None
three_of (a ∷ b ∷ c ∷ d ∷ more) = None
