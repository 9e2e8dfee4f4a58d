-- Where the board stands in its lines.
use Rattle.std.proofs.Common.{◌≡◌, ℕ, ◌+◌, ◌-◌, ◌<◌, ◌≤◌, zero, suc, Bool, true, false, List, [], ◌∷◌, ◌++◌, length, map, drop, None, Some, refl, sym, ap, ◌∙◌, subst, arith, add-one, length-append}
use Rattle.std.specs.Prelude.{flat_map, nat_le}
use Rattle.std.specs.List.{slice_get}
use Rattle.std.proofs.lemmas.Bool.Decides.{nat_tests}
use Rattle.std.proofs.lemmas.Option.{slice_get_past}
use Rattle.legacy_regs.specs.Registers.{queue_count}
use Rattle.board_script.specs.Script.{Whole}
use Rattle.board_script.specs.declared.script.Setup.{Setup}
use Rattle.journal.specs.Lines.{Line as JournalLine, counts_members, brings_up, empties, finishes, kind_of, made_by, numbers, first_lines, last_lines, finishing_lines, lines_of}
use Rattle.actor_core.specs.declared.lines.Line.{Line}
use Rattle.actor_core.specs.declared.lines.Line.TheVariants as line
use Rattle.actor_core.specs.declared.lines.Lines.TheVariants.{OfBoard}
use Rattle.actor_core.specs.Boards.{LineFits, IsLeft, IsLineOf, Follows, line_of, first_from, last_from, lines_from, is_end_now, lines_due, lines_now, begun_with}

-- ---- numbers

pub none_counted : {X : Type 0} (f : ℕ → X) (from n : ℕ) → n ≡ 0 → map f (numbers from n) ≡ []
none_counted f from n none = ap (λ k. map f (numbers from k)) none

pub one_counted : {X : Type 0} (f : ℕ → X) (from n k : ℕ) → n ≡ suc k → map f (numbers from n) ≡ f from ∷ map f (numbers (from + 1) k)
one_counted f from n k some = ap (λ i. map f (numbers from i)) some

pub as_many : {X : Type 0} (f : ℕ → X) (from n k : ℕ) → n ≡ k → map f (numbers from n) ≡ map f (numbers from k)
as_many f from n k same = ap (λ i. map f (numbers from i)) same

pub none_joined : {X : Type 0} (f : ℕ → List X) (from n : ℕ) → n ≡ 0 → flat_map f (numbers from n) ≡ []
none_joined f from n none = ap (λ k. flat_map f (numbers from k)) none

pub one_joined : {X : Type 0} (f : ℕ → List X) (from n k : ℕ) → n ≡ suc k → flat_map f (numbers from n) ≡ f from ++ flat_map f (numbers (from + 1) k)
one_joined f from n k some = ap (λ i. flat_map f (numbers from i)) some

pub as_many_joined : {X : Type 0} (f : ℕ → List X) (from n k : ℕ) → n ≡ k → flat_map f (numbers from n) ≡ flat_map f (numbers from k)
as_many_joined f from n k same = ap (λ i. flat_map f (numbers from i)) same

pub how_many : (from n : ℕ) → length (numbers from n) ≡ n
how_many from zero = refl
how_many from (suc n) = ap suc (how_many (from + 1) n)

map_length : {A B : Type 0} (f : A → B) (xs : List A) → length (map f xs) ≡ length xs
map_length f [] = refl
map_length f (x ∷ xs) = ap suc (map_length f xs)

pub counted_length : {X : Type 0} (f : ℕ → X) (from n : ℕ) → length (map f (numbers from n)) ≡ n
counted_length f from n = map_length f (numbers from n) ∙ how_many from n

-- ---- a member's queues

pub kind_there : (s : Whole) (member : ℕ) (setup : Setup) → slice_get s.guests (member - 1) ≡ Some setup → kind_of s member ≡ setup.kind
kind_there s member setup there = ap (λ o. (made_by member o).kind) there

pub finishing_length : (s : Whole) (member : ℕ) → length (finishing_lines s member) ≡ queue_count (kind_of s member)
finishing_length s member = counted_length (finishes member) 0 (queue_count (kind_of s member))

-- so many lines, and those of the queues
pub all_counted : (s : Whole) (count : ℕ) → count ≡ 2 + length s.guests + s.board.queues → count + length (flat_map (finishing_lines s) (numbers 1 (length s.guests))) ≡ length (lines_of s 0)
all_counted s count is =
    let first : length (map brings_up (numbers 0 (length s.guests + 1))) ≡ length s.guests + 1 = counted_length brings_up 0 (length s.guests + 1) in
    let queues : length (map empties (numbers 0 s.board.queues)) ≡ s.board.queues = counted_length empties 0 s.board.queues in
    let last : List JournalLine = flat_map (finishing_lines s) (numbers 1 (length s.guests)) in
    let behind : length (last_lines s) ≡ length (map empties (numbers 0 s.board.queues)) + length last = length-append (map empties (numbers 0 s.board.queues)) last in
    let whole : length (lines_of s 0) ≡ length (first_lines s) + length (last_lines s) = length-append (first_lines s) (last_lines s) in
    let head : length (first_lines s) ≡ suc (length (map brings_up (numbers 0 (length s.guests + 1)))) = refl in
    omega arith

pub one_member_counted : (s : Whole) (count member n k total : ℕ) → n ≡ suc k → count + length (flat_map (finishing_lines s) (numbers member n)) ≡ total
    → count + queue_count (kind_of s member) + length (flat_map (finishing_lines s) (numbers (member + 1) k)) ≡ total
one_member_counted s count member n k total some is =
    let rest : List JournalLine = flat_map (finishing_lines s) (numbers (member + 1) k) in
    let parts : length (finishing_lines s member ++ rest) ≡ length (finishing_lines s member) + length rest = length-append (finishing_lines s member) rest in
    let own = finishing_length s member in
    let here : length (flat_map (finishing_lines s) (numbers member n)) ≡ length (finishing_lines s member ++ rest) = ap length (one_joined (finishing_lines s) member n k some) in
    omega arith

-- ---- lists from a place on

pub front_there : {X : Type 0} (xs : List X) (n : ℕ) (x : X) (rest : List X) → drop n xs ≡ x ∷ rest → slice_get xs n ≡ Some x
front_there [] zero x rest is = absurd (cc)
front_there [] (suc n) x rest is = absurd (cc)
front_there (y ∷ xs) zero x rest is = let e : y ≡ x = cc in ap Some e
front_there (y ∷ xs) (suc n) x rest is = front_there xs n x rest is

pub front_none : {X : Type 0} (xs : List X) (n : ℕ) → drop n xs ≡ [] → slice_get xs n ≡ None
front_none [] zero is = refl
front_none [] (suc n) is = refl
front_none (y ∷ xs) zero is = absurd (cc)
front_none (y ∷ xs) (suc n) is = front_none xs n is

pub there_front : {X : Type 0} (xs : List X) (n : ℕ) (x : X) → slice_get xs n ≡ Some x → drop n xs ≡ x ∷ drop (suc n) xs
there_front [] n x is = absurd (cc)
there_front (y ∷ xs) zero x is = let e : y ≡ x = cc in ap (λ z. z ∷ xs) e
there_front (y ∷ xs) (suc n) x is = there_front xs n x is

pub none_front : {X : Type 0} (xs : List X) (n : ℕ) → slice_get xs n ≡ None → drop n xs ≡ []
none_front [] zero is = refl
none_front [] (suc n) is = refl
none_front (y ∷ xs) zero is = absurd (cc)
none_front (y ∷ xs) (suc n) is = none_front xs n is

rest_left_at : {X : Type 0} (xs : List X) (n : ℕ) (x : X) (rest : List X) → drop n xs ≡ x ∷ rest → drop (suc n) xs ≡ rest
rest_left_at [] zero x rest is = absurd (cc)
rest_left_at [] (suc n) x rest is = absurd (cc)
rest_left_at (y ∷ xs) zero x rest is = let e : xs ≡ rest = cc in e
rest_left_at (y ∷ xs) (suc n) x rest is = rest_left_at xs n x rest is

rest_left : {X : Type 0} (xs : List X) (n : ℕ) (x : X) (rest : List X) → drop n xs ≡ x ∷ rest → drop (n + 1) xs ≡ rest
rest_left xs n x rest is = ap (λ k. drop k xs) (add-one n) ∙ rest_left_at xs n x rest is

none_left_at : {X : Type 0} (xs : List X) (n : ℕ) → drop n xs ≡ [] → drop (suc n) xs ≡ []
none_left_at [] n is = refl
none_left_at (y ∷ xs) zero is = absurd (cc)
none_left_at (y ∷ xs) (suc n) is = none_left_at xs n is

none_left : {X : Type 0} (xs : List X) (n : ℕ) → drop n xs ≡ [] → drop (n + 1) xs ≡ []
none_left xs n is = ap (λ k. drop k xs) (add-one n) ∙ none_left_at xs n is

abbrev pub is_nil : {X : Type 0} → List X → Bool
is_nil [] = true
is_nil (x ∷ xs) = false

pub all_dropped : {X : Type 0} (xs : List X) (n : ℕ) → is_nil (drop n xs) ≡ nat_le (length xs) n
all_dropped [] zero = refl
all_dropped [] (suc n) = zero_first (suc n)
  where
    zero_first : (k : ℕ) → true ≡ nat_le 0 k
    zero_first k = grind (arith, nat_tests)
all_dropped (y ∷ xs) zero = none_below (length xs)
  where
    none_below : (k : ℕ) → false ≡ nat_le (suc k) 0
    none_below k = grind (arith, nat_tests)
all_dropped (y ∷ xs) (suc n) = all_dropped xs n ∙ sucs (length xs) n
  where
    sucs : (m k : ℕ) → nat_le m k ≡ nat_le (suc m) (suc k)
    sucs m k = grind (arith, nat_tests)

-- ---- the line that the board begins

-- it is the next of all
pub taken_of_all : (s : Whole) (begun : ℕ) (line new : Line) → IsLeft s begun line → Follows s line new → slice_get (lines_of s 0) begun ≡ line_of s line
taken_of_all s begun line.CountsMembers new left follows = front_there (lines_of s 0) begun counts_members (map brings_up (numbers 0 (length s.guests + 1)) ++ last_lines s) left.all
taken_of_all s begun (line.BringsUp member) new left follows =
    front_there (lines_of s 0) begun (brings_up member) (first_from s new ++ last_lines s) (left.all ∙ ap (λ xs. xs ++ last_lines s) follows.0)
taken_of_all s begun (line.Empties queue) new left follows = front_there (lines_of s 0) begun (empties queue) (last_from s new) (left.all ∙ follows.1)
taken_of_all s begun (line.Finishes member queue) new left follows = front_there (lines_of s 0) begun (finishes member queue) (last_from s new) (left.all ∙ follows.1)
taken_of_all s begun (line.Performs index) new left follows = absurd left.fits
taken_of_all s begun line.Ends new left follows = front_none (lines_of s 0) begun left.all

-- and of bring-up, where it isn't the drain's
pub taken_of_first : (s : Whole) (begun : ℕ) (line new : Line) → IsLeft s begun line → Follows s line new → is_end_now line false ≡ false → slice_get (first_lines s) begun ≡ line_of s line
taken_of_first s begun line.CountsMembers new left follows first = front_there (first_lines s) begun counts_members (map brings_up (numbers 0 (length s.guests + 1))) left.first
taken_of_first s begun (line.BringsUp member) new left follows first = front_there (first_lines s) begun (brings_up member) (first_from s new) (left.first ∙ follows.0)
taken_of_first s begun (line.Empties queue) new left follows first = absurd (cc)
taken_of_first s begun (line.Finishes member queue) new left follows first = absurd (cc)
taken_of_first s begun (line.Performs index) new left follows first = absurd left.fits
taken_of_first s begun line.Ends new left follows first = absurd (cc)

-- behind it its follower and what is behind that are left
pub left_behind : (s : Whole) (begun : ℕ) (line new : Line) → IsLeft s begun line → Follows s line new → LineFits s new → IsLeft s (begun_with line begun) new
left_behind s begun line.CountsMembers new left follows fits = record {
  fits = fits;
  first = rest_left (first_lines s) begun counts_members (first_from s new) (left.first ∙ follows.0);
  all = rest_left (lines_of s 0) begun counts_members (lines_from s new) (left.all ∙ ap (λ xs. xs ++ last_lines s) follows.0 ∙ ap (λ xs. counts_members ∷ (first_from s new ++ xs)) (sym follows.1));
}
left_behind s begun (line.BringsUp member) new left follows fits = record {
  fits = fits;
  first = rest_left (first_lines s) begun (brings_up member) (first_from s new) (left.first ∙ follows.0);
  all = rest_left (lines_of s 0) begun (brings_up member) (lines_from s new) (left.all ∙ ap (λ xs. xs ++ last_lines s) follows.0 ∙ ap (λ xs. brings_up member ∷ (first_from s new ++ xs)) (sym follows.1));
}
left_behind s begun (line.Empties queue) new left follows fits = record {
  fits = fits;
  first = none_left (first_lines s) begun left.first ∙ sym follows.0;
  all = rest_left (lines_of s 0) begun (empties queue) (last_from s new) (left.all ∙ follows.1) ∙ ap (λ xs. xs ++ last_from s new) (sym follows.0);
}
left_behind s begun (line.Finishes member queue) new left follows fits = record {
  fits = fits;
  first = none_left (first_lines s) begun left.first ∙ sym follows.0;
  all = rest_left (lines_of s 0) begun (finishes member queue) (last_from s new) (left.all ∙ follows.1) ∙ ap (λ xs. xs ++ last_from s new) (sym follows.0);
}
left_behind s begun (line.Performs index) new left follows fits = absurd left.fits
left_behind s begun line.Ends new left follows fits = subst (IsLeft s begun) (sym follows) left

-- ---- no line more

some_counted : {X : Type 0} (f : ℕ → X) (from n k : ℕ) (rest : List X) → n ≡ suc k → is_nil (map f (numbers from n) ++ rest) ≡ false
some_counted f from n k rest some = ap (λ xs. is_nil (xs ++ rest)) (one_counted f from n k some)

some_counted_alone : {X : Type 0} (f : ℕ → X) (from n k : ℕ) → n ≡ suc k → is_nil (map f (numbers from n)) ≡ false
some_counted_alone f from n k some = ap is_nil (one_counted f from n k some)

-- of all
end_of_all : (s : Whole) (line : Line) → LineFits s line → is_nil (lines_from s line) ≡ is_end_now line true
end_of_all s line.CountsMembers fits = refl
end_of_all s (line.BringsUp member) fits = some_counted brings_up member (length s.guests + 1 - member) (length s.guests - member) (last_lines s) (omega (arith, fits))
end_of_all s (line.Empties queue) fits =
    some_counted empties queue (s.board.queues - queue) (s.board.queues - queue - 1) (flat_map (finishing_lines s) (numbers 1 (length s.guests))) (omega (arith, fits))
end_of_all s (line.Finishes member queue) fits =
    let low : queue < queue_count (kind_of s member) = fits.2 in
    some_counted (finishes member) queue (queue_count (kind_of s member) - queue) (queue_count (kind_of s member) - queue - 1) (flat_map (finishing_lines s) (numbers (member + 1) (length s.guests - member))) (omega arith)
end_of_all s (line.Performs index) fits = absurd fits
end_of_all s line.Ends fits = refl

-- of bring-up
end_of_first : (s : Whole) (line : Line) → LineFits s line → is_nil (first_from s line) ≡ is_end_now line false
end_of_first s line.CountsMembers fits = refl
end_of_first s (line.BringsUp member) fits = some_counted_alone brings_up member (length s.guests + 1 - member) (length s.guests - member) (omega (arith, fits))
end_of_first s (line.Empties queue) fits = refl
end_of_first s (line.Finishes member queue) fits = refl
end_of_first s (line.Performs index) fits = absurd fits
end_of_first s line.Ends fits = refl

pub end_now : (s : Whole) (who begun : ℕ) (next : Line) (drains : Bool) → who ≡ 0 → IsLeft s begun next → is_end_now next drains ≡ nat_le (lines_due s who (OfBoard next drains)) begun
end_now s who begun next true board left =
    sym (end_of_all s next left.fits) ∙ ap is_nil (sym left.all) ∙ all_dropped (lines_of s 0) begun ∙ ap (λ n. nat_le (length (lines_of s n)) begun) (sym board)
end_now s who begun next false board left = sym (end_of_first s next left.fits) ∙ ap is_nil (sym left.first) ∙ all_dropped (first_lines s) begun

past_all : (n k : ℕ) → true ≡ nat_le n k → n ≤ k
past_all n k is = grind (arith, nat_tests)

pub none_now : (s : Whole) (who begun : ℕ) (next : Line) (drains : Bool) → who ≡ 0 → IsLeft s begun next → is_end_now next drains ≡ true → slice_get (lines_now s who (OfBoard next drains)) begun ≡ None
none_now s who begun next drains board left ends =
    slice_get_past (lines_now s who (OfBoard next drains)) begun (past_all (lines_due s who (OfBoard next drains)) begun (sym ends ∙ end_now s who begun next drains board left))

pub taken_now : (s : Whole) (who begun : ℕ) (line new : Line) (drains : Bool) → who ≡ 0 → IsLeft s begun line → Follows s line new → is_end_now line drains ≡ false → slice_get (lines_now s who (OfBoard line drains)) begun ≡ line_of s line
taken_now s who begun line new true board left follows goes = ap (λ n. slice_get (lines_of s n) begun) board ∙ taken_of_all s begun line new left follows
taken_now s who begun line new false board left follows goes = taken_of_first s begun line new left follows goes

-- the board's own lines are the board's
pub boards_line : (s : Whole) (who begun : ℕ) (line : Line) → who ≡ 0 → IsLeft s begun line → IsLineOf who line
boards_line s who begun line.CountsMembers board left = board
boards_line s who begun (line.BringsUp member) board left = board
boards_line s who begun (line.Empties queue) board left = board
boards_line s who begun (line.Finishes member queue) board left = board
boards_line s who begun (line.Performs index) board left = absurd left.fits
boards_line s who begun line.Ends board left = tt

-- ---- what follows

pub member_begins : (s : Whole) (member : ℕ) → member ≤ length s.guests
    → last_from s (line.Finishes member 0) ≡ flat_map (finishing_lines s) (numbers member (length s.guests + 1 - member))
member_begins s member few =
    ap (λ xs. xs ++ flat_map (finishing_lines s) (numbers (member + 1) (length s.guests - member))) (as_many (finishes member) 0 (queue_count (kind_of s member) - 0) (queue_count (kind_of s member)) (omega arith))
    ∙ sym (one_joined (finishing_lines s) member (length s.guests + 1 - member) (length s.guests - member) (omega arith))

pub brings_next : (s : Whole) (member : ℕ) (new : Line) → member ≤ length s.guests → first_from s new ≡ map brings_up (numbers (member + 1) (length s.guests + 1 - (member + 1)))
    → first_from s (line.BringsUp member) ≡ brings_up member ∷ first_from s new
brings_next s member new few first =
    one_counted brings_up member (length s.guests + 1 - member) (length s.guests + 1 - (member + 1)) (omega arith) ∙ ap (λ xs. brings_up member ∷ xs) (sym first)

pub empties_next : (s : Whole) (queue : ℕ) (new : Line) → queue < s.board.queues
    → last_from s new ≡ map empties (numbers (queue + 1) (s.board.queues - (queue + 1))) ++ flat_map (finishing_lines s) (numbers 1 (length s.guests))
    → last_from s (line.Empties queue) ≡ empties queue ∷ last_from s new
empties_next s queue new few last =
    ap (λ xs. xs ++ flat_map (finishing_lines s) (numbers 1 (length s.guests))) (one_counted empties queue (s.board.queues - queue) (s.board.queues - (queue + 1)) (omega arith)) ∙ ap (λ xs. empties queue ∷ xs) (sym last)
