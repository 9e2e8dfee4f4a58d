-- The forms of a line, each known by its fixed words and its number of words, in the order of the table of forms. Of this project.
use Rattle.std.specs.Prelude.{ℕ, unwrap_or, if◌then◌else◌, List, [], ◌∷◌, codes, Option, None, Result, Err}
use Rattle.std.specs.Str.{bytes_eq}
use Rattle.script_words.specs.declared.cause.Cause.{Cause}
use Rattle.script_words.specs.declared.cause.Cause.TheVariants as cause
use Rattle.script_words.specs.declared.words.Head.{Head}
use Rattle.script_words.specs.declared.words.Head.TheVariants as head
use Rattle.script_words.specs.Words.{are_words, head_of, one_of, two_of, three_of}
use Rattle.script_words.specs.Parts.{form, none_of, switch_of, access_of, block_of, pairs_of}
use Rattle.board_script.specs.declared.place.Place.{Place}
use Rattle.board_script.specs.declared.script.What.TheVariants as what
use Rattle.board_script.specs.SoFar.{SoFar}
use Rattle.board_script.specs.Lines.{board_says, block_says, net_says, in_says, out_says, mem_says, peek_says, guest_says, cfg_says, poll_says, serve_says, worker_poll_says, frame_says, flr_says, disable_says, reset_says, go_says}

-- What a form makes of a first word and the words behind it: nothing where they aren't of the form, and else what all lines say with them, or the first cause.
abbrev pub Form : Type 0
Form = Head → List (List ℕ) → Option (Result SoFar Cause)

-- words that begin with this one, and behind it those of the form
abbrev pub then_word : {A : Type 0} → List ℕ → (List (List ℕ) → Option A) → (A → Result SoFar Cause) → List (List ℕ) → Option (Result SoFar Cause)
then_word name others says [] = None
then_word name others says (word ∷ rest) = if bytes_eq word name then form (others rest) says else None

-- a line that begins with a name
abbrev pub named : {A : Type 0} → List ℕ → (List (List ℕ) → Option A) → (A → Result SoFar Cause) → Head → List (List ℕ) → Option (Result SoFar Cause)
named name others says (head.Name word) rest = then_word name others says (word ∷ rest)
named name others says first rest = None

-- `guest N` and the kind of its member
abbrev pub of_guest : {A : Type 0} → List ℕ → (List (List ℕ) → Option A) → (List ℕ → A → Result SoFar Cause) → List (List ℕ) → Option (Result SoFar Cause)
of_guest name others says [] = None
of_guest name others says (number ∷ rest) = then_word name others (says number) rest

abbrev pub guest_with : {A : Type 0} → List ℕ → (List (List ℕ) → Option A) → (List ℕ → A → Result SoFar Cause) → Head → List (List ℕ) → Option (Result SoFar Cause)
guest_with name others says (head.Name word) rest = if bytes_eq word (codes "guest") then of_guest name others says rest else None
guest_with name others says first rest = None

-- `gN` and what the guest does
abbrev pub guest_line : {A : Type 0} → List ℕ → (List (List ℕ) → Option A) → (List ℕ → A → Result SoFar Cause) → Head → List (List ℕ) → Option (Result SoFar Cause)
guest_line name others says (head.Guest guest) rest = then_word name others (says guest) rest
guest_line name others says first rest = None

-- `wK` and what the worker does
abbrev pub worker_line : {A : Type 0} → List ℕ → (List (List ℕ) → Option A) → (List ℕ → A → Result SoFar Cause) → Head → List (List ℕ) → Option (Result SoFar Cause)
worker_line name others says (head.Worker worker) rest = then_word name others (says worker) rest
worker_line name others says first rest = None

-- `host` and what the host does
abbrev pub host_line : {A : Type 0} → List ℕ → (List (List ℕ) → Option A) → (A → Result SoFar Cause) → Head → List (List ℕ) → Option (Result SoFar Cause)
host_line name others says (head.Name word) rest = if bytes_eq word (codes "host") then then_word name others says rest else None
host_line name others says first rest = None

-- The table of forms. None has the words of another.
abbrev pub forms : Place → SoFar → List Form
forms at d =
    named (codes "board") three_of (λ w. board_says d w.0 w.1 w.2)
    ∷ guest_with (codes "block") block_of (λ n w. block_says d n w.0 w.1 w.2)
    ∷ guest_with (codes "net") two_of (λ n w. net_says d n w.0 w.1)
    ∷ guest_line (codes "in") access_of (λ g w. in_says at d g w.0 w.1 w.2)
    ∷ guest_line (codes "out") access_of (λ g w. out_says at d g w.0 w.1 w.2)
    ∷ guest_line (codes "mem") two_of (λ g w. mem_says at d g w.0 w.1)
    ∷ guest_line (codes "peek") two_of (λ g w. peek_says at d g w.0 w.1)
    ∷ guest_line (codes "msix") switch_of (λ g on. guest_says at d g (what.Msix on))
    ∷ guest_line (codes "io") switch_of (λ g on. guest_says at d g (what.Io on))
    ∷ guest_line (codes "cfg") two_of (λ g w. cfg_says at d g w.0 w.1)
    ∷ guest_line (codes "irqs") none_of (λ g none. guest_says at d g what.Irqs)
    ∷ guest_line (codes "poll") one_of (λ g v. poll_says at d g v)
    ∷ worker_line (codes "serve") one_of (λ k q. serve_says at d k q)
    ∷ worker_line (codes "poll") two_of (λ k w. worker_poll_says at d k w.0 w.1)
    ∷ host_line (codes "frame") two_of (λ w. frame_says at d w.0 w.1)
    ∷ host_line (codes "flr") one_of (λ n. flr_says at d n)
    ∷ host_line (codes "disable") one_of (λ n. disable_says at d n)
    ∷ host_line (codes "reset") none_of (λ none. reset_says at d)
    ∷ named (codes "go") pairs_of (λ pairs. go_says d pairs)
    ∷ []

-- what the form says that words are of; `word` where they are of none
abbrev pub first_of : List Form → Head → List (List ℕ) → Result SoFar Cause
first_of [] first rest = Err cause.Word
first_of (a ∷ others) first rest = unwrap_or (a first rest) (first_of others first rest)

-- what a line of these words says
unfoldable pub line_says : Place → SoFar → List (List ℕ) → Result SoFar Cause
line_says at d [] = Err cause.Word
line_says at d (first ∷ rest) = if are_words (first ∷ rest) then first_of (forms at d) (head_of first) rest else Err cause.Word
