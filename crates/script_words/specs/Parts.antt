-- The words of a form that aren't fixed: how many they are, and which may be left out. Of this project.
use Rattle.std.specs.Prelude.{ℕ, ◌==◌, ◌&&◌, Bool, true, false, if◌then◌else◌, List, [], ◌∷◌, length, codes, Option, Some, None}
use Rattle.std.specs.Str.{bytes_eq}
use Rattle.script_words.specs.declared.words.Head.{Head}
use Rattle.script_words.specs.declared.words.Head.TheVariants as head
use Rattle.script_words.specs.declared.shape.Tail.{Tail}
use Rattle.script_words.specs.Words.{after_at_of, head_of, one_of}

-- what is made of the words of a form, if they are of it
abbrev pub form : {A B : Type 0} → Option A → (A → B) → Option B
form None make = None
form (Some words) make = Some (make words)

-- no word
abbrev pub none_of : List (List ℕ) → Option (Unit {0})
none_of words = if length words == 0 then Some tt else None

abbrev pub on_or_off : Option (List ℕ) → Option Bool
on_or_off None = None
on_or_off (Some a) = if bytes_eq a (codes "on") then Some true else if bytes_eq a (codes "off") then Some false else None

-- `on` or `off`
abbrev pub switch_of : List (List ℕ) → Option Bool
switch_of words = on_or_off (one_of words)

-- `@K`
abbrev pub queue_tail : Option (List ℕ) → Bool → Option Tail
queue_tail None once = None
queue_tail (Some queue) once = Some (record { queue = Some queue; once = once })

-- `[@K] [once]`
abbrev pub tail_of : List (List ℕ) → Option Tail
tail_of [] = Some (record { queue = None; once = false })
tail_of (a ∷ []) = if bytes_eq a (codes "once") then Some (record { queue = None; once = true }) else queue_tail (after_at_of a) false
tail_of (a ∷ b ∷ []) = if bytes_eq b (codes "once") then queue_tail (after_at_of a) true else None
tail_of (a ∷ b ∷ c ∷ more) = None

-- `OFF LEN [@K] [once]` and `OFF HEX [@K] [once]`
abbrev pub access_of : List (List ℕ) → Option (List ℕ × List ℕ × Tail)
access_of [] = None
access_of (offset ∷ []) = None
access_of (offset ∷ word ∷ tail) = form (tail_of tail) (λ t. (offset, word, t))

-- `PAGES SECTORS [ro]`
abbrev pub block_of : List (List ℕ) → Option (List ℕ × List ℕ × Bool)
block_of [] = None
block_of (pages ∷ []) = None
block_of (pages ∷ sectors ∷ []) = Some (pages, sectors, false)
block_of (pages ∷ sectors ∷ a ∷ []) = if bytes_eq a (codes "ro") then Some (pages, sectors, true) else None
block_of (pages ∷ sectors ∷ a ∷ b ∷ more) = None

-- a guest, a worker or `host`
abbrev pub is_actor_word : Head → Bool
is_actor_word (head.Guest digits) = true
is_actor_word (head.Worker digits) = true
is_actor_word (head.Name word) = bytes_eq word (codes "host")

-- `ACTOR COUNT`, as often as it may be
abbrev pub are_pairs : List (List ℕ) → Bool
are_pairs [] = true
are_pairs (actor ∷ []) = false
are_pairs (actor ∷ count ∷ rest) = is_actor_word (head_of actor) && are_pairs rest

-- `ACTOR COUNT`, once or more often
abbrev pub pairs_of : List (List ℕ) → Option (List (List ℕ))
pairs_of [] = None
pairs_of (actor ∷ rest) = if are_pairs (actor ∷ rest) then Some (actor ∷ rest) else None
