-- The form of a line, with its words that aren't fixed. The code's own.
use Rattle.std.specs.Prelude.{ℕ, if◌then◌else◌, List, [], ◌∷◌, codes, Option, Some, None}
use Rattle.std.specs.Str.{bytes_eq}
use Rattle.script_words.specs.declared.words.Head.{Head}
use Rattle.script_words.specs.declared.words.Head.TheVariants as head
use Rattle.script_words.specs.declared.shape.Shape.{Shape}
use Rattle.script_words.specs.declared.shape.Shape.TheVariants as line
use Rattle.script_words.specs.declared.shape.Act.{Act}
use Rattle.script_words.specs.declared.shape.Act.TheVariants as act
use Rattle.script_words.specs.declared.shape.Member.{Member}
use Rattle.script_words.specs.declared.shape.Member.TheVariants as member
use Rattle.script_words.specs.Words.{words_of, are_words, head_of, one_of, two_of, three_of}
use Rattle.script_words.specs.Parts.{form, none_of, switch_of, access_of, block_of, pairs_of}

abbrev pub in_of : List ℕ → List (List ℕ) → Option Act
in_of guest words = form (access_of words) (λ a. act.In guest a.0 a.1 a.2)

abbrev pub out_of : List ℕ → List (List ℕ) → Option Act
out_of guest words = form (access_of words) (λ a. act.Out guest a.0 a.1 a.2)

-- `gN` and then
abbrev pub guest_form : List ℕ → List (List ℕ) → Option Act
guest_form guest [] = None
guest_form guest (name ∷ rest) =
    if bytes_eq name (codes "in") then in_of guest rest
    else if bytes_eq name (codes "out") then out_of guest rest
    else if bytes_eq name (codes "mem") then form (two_of rest) (λ w. act.Mem guest w.0 w.1)
    else if bytes_eq name (codes "peek") then form (two_of rest) (λ w. act.Peek guest w.0 w.1)
    else if bytes_eq name (codes "msix") then form (switch_of rest) (λ on. act.Msix guest on)
    else if bytes_eq name (codes "io") then form (switch_of rest) (λ on. act.Io guest on)
    else if bytes_eq name (codes "cfg") then form (two_of rest) (λ w. act.Cfg guest w.0 w.1)
    else if bytes_eq name (codes "irqs") then form (none_of rest) (λ none. act.Irqs guest)
    else if bytes_eq name (codes "poll") then form (one_of rest) (λ queue. act.Poll guest queue)
    else None

-- `wK` and then
abbrev pub worker_form : List ℕ → List (List ℕ) → Option Act
worker_form worker [] = None
worker_form worker (name ∷ rest) =
    if bytes_eq name (codes "serve") then form (one_of rest) (λ queue. act.Serve worker queue)
    else if bytes_eq name (codes "poll") then form (two_of rest) (λ w. act.WorkerPoll worker w.0 w.1)
    else None

-- `host` and then
abbrev pub host_form : List (List ℕ) → Option Act
host_form [] = None
host_form (name ∷ rest) =
    if bytes_eq name (codes "frame") then form (two_of rest) (λ w. act.Frame w.0 w.1)
    else if bytes_eq name (codes "flr") then form (one_of rest) (λ m. act.Flr m)
    else if bytes_eq name (codes "disable") then form (one_of rest) (λ m. act.Disable m)
    else if bytes_eq name (codes "reset") then form (none_of rest) (λ none. act.Reset)
    else None

abbrev pub member_block : List (List ℕ) → Option Member
member_block words = form (block_of words) (λ m. member.Block m.0 m.1 m.2)

-- `guest` and then
abbrev pub setup_form : List (List ℕ) → Option Shape
setup_form [] = None
setup_form (number ∷ []) = None
setup_form (number ∷ kind ∷ rest) =
    if bytes_eq kind (codes "block") then form (member_block rest) (λ m. line.Guest number m)
    else if bytes_eq kind (codes "net") then form (two_of rest) (λ w. line.Guest number (member.Net w.0 w.1))
    else None

abbrev pub named_form : List ℕ → List (List ℕ) → Option Shape
named_form name rest =
    if bytes_eq name (codes "board") then form (three_of rest) (λ w. line.Board w.0 w.1 w.2)
    else if bytes_eq name (codes "guest") then setup_form rest
    else if bytes_eq name (codes "host") then form (host_form rest) (λ a. line.Acts a)
    else if bytes_eq name (codes "go") then form (pairs_of rest) (λ pairs. line.Go pairs)
    else None

abbrev pub form_at : Head → List (List ℕ) → Option Shape
form_at (head.Guest digits) rest = form (guest_form digits rest) (λ a. line.Acts a)
form_at (head.Worker digits) rest = form (worker_form digits rest) (λ a. line.Acts a)
form_at (head.Name name) rest = named_form name rest

abbrev pub form_of : List (List ℕ) → Option Shape
form_of [] = None
form_of (first ∷ rest) = form_at (head_of first) rest

-- The form of a line with its words that aren't fixed. None is the cause `word`.
abbrev pub shape_of : List ℕ → Option Shape
shape_of text = if are_words (words_of text) then form_of (words_of text) else None
