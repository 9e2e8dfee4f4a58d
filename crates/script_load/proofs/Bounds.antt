-- The script that is made keeps to the bounds of scripts.
use Rattle.std.proofs.Common.{ℕ, zero, suc, ◌+◌, ◌/◌, ◌%◌, ◌<◌, ◌≤◌, Bool, true, false, cond, List, [], ◌∷◌, refl, arith}
use Rattle.std.specs.Prelude.{◌==◌}
use Rattle.std.specs.List.{All, AllPairs}
use Rattle.std.proofs.lemmas.List.Kept.{AllPairs-cons}
use Rattle.hex.specs.Hex.{IsBytes}
use Rattle.board_script.specs.declared.script.ActorLine.{ActorLine}
use Rattle.board_script.specs.Limits.{line_limit}
use Rattle.board_script.specs.Bounds.{IsGuest, IsSetup, IsScript, IsTurns, MayAsk}
use Rattle.script_load.specs.Loaded.{load_limit, reads, selects, loaded_board, loaded_line, loaded_lines, loaded_guests, loaded, block_setup, net_setup, next_state, drawn}

none_of : {A : Type 0} (P : A → Type 0) → All P []
none_of P k d lt = absurd (omega arith)

more_of : {A : Type 0} (P : A → Type 0) (x : A) (xs : List A) → P x → All P xs → All P (x ∷ xs)
more_of P x xs first others zero d lt = first
more_of P x xs first others (suc k) d lt = others k d (omega arith)

no_byte : IsBytes []
no_byte i = omega arith

one_byte : (byte : ℕ) (bytes : List ℕ) → byte < 256 → IsBytes bytes → IsBytes (byte ∷ bytes)
one_byte byte bytes fits each zero = fits
one_byte byte bytes fits each (suc i) = each i

-- ---- the guests

is_block : IsSetup block_setup
is_block = record { a_page = omega arith; few_pages = omega arith; kind = omega arith }

is_net : (number : ℕ) → number < 256 → IsSetup (net_setup number)
is_net number fits = record {
  a_page = omega arith;
  few_pages = omega arith;
  kind = (
    refl,
    one_byte 2 (0 ∷ 0 ∷ 0 ∷ 0 ∷ number ∷ []) (omega arith)
        (one_byte 0 (0 ∷ 0 ∷ 0 ∷ number ∷ []) (omega arith) (one_byte 0 (0 ∷ 0 ∷ number ∷ []) (omega arith) (one_byte 0 (0 ∷ number ∷ []) (omega arith) (one_byte 0 (number ∷ []) (omega arith) (one_byte number [] fits no_byte))))),
  );
}

are_guests : All IsSetup loaded_guests
are_guests = more_of IsSetup block_setup (net_setup 2 ∷ block_setup ∷ net_setup 4 ∷ []) is_block
    (more_of IsSetup (net_setup 2) (block_setup ∷ net_setup 4 ∷ []) (is_net 2 (omega arith)) (more_of IsSetup block_setup (net_setup 4 ∷ []) is_block (more_of IsSetup (net_setup 4) [] (is_net 4 (omega arith)) (none_of IsSetup))))

-- ---- the lines

abbrev MayLoad : ActorLine → Type 0
MayLoad line = MayAsk loaded_board.queues loaded_board.workers loaded_guests line.who line.what

may_choose : (first second third : Bool) (who number : ℕ) → IsGuest loaded_guests who → number < 256
    → MayAsk loaded_board.queues loaded_board.workers loaded_guests who (cond first (reads 18 1) (cond second (selects number) (cond third (reads 12 2) (reads 19 1))))
may_choose true second third who number is fits = (is, omega arith, refl, tt)
may_choose false true third who number is fits = (is, omega arith, one_byte number (0 ∷ []) fits (one_byte 0 [] (omega arith) no_byte), refl, tt)
may_choose false false true who number is fits = (is, omega arith, refl, tt)
may_choose false false false who number is fits = (is, omega arith, refl, tt)

may_load : (number d : ℕ) → MayLoad (loaded_line number d)
may_load number d = may_choose (d / 4 % 4 == 0) (d / 4 % 4 == 1) (d / 4 % 4 == 2) (1 + d % 4) (d / 16 % 4) (record { low = omega arith; exists = omega arith }) (omega arith)

all_may : (count number x : ℕ) → All MayLoad (loaded_lines count number x)
unfolding loaded_lines
all_may zero number x = none_of MayLoad
all_may (suc count) number x = more_of MayLoad (loaded_line number (drawn (next_state x))) (loaded_lines count (number + 1) (next_state x)) (may_load number (drawn (next_state x))) (all_may count (number + 1) (next_state x))

-- ---- the numbers of the lines

rest_from : (number : ℕ) (lines : List ActorLine) → All (λ l. number + 1 ≤ l.number) lines → All (λ l. number ≤ l.number) lines
rest_from number lines later k d lt = let le = later k d lt in omega (arith, le)

numbers_from : (count number x : ℕ) → All (λ l. number ≤ l.number) (loaded_lines count number x)
unfolding loaded_lines
numbers_from zero number x = none_of (λ l. number ≤ l.number)
numbers_from (suc count) number x =
    more_of (λ l. number ≤ l.number) (loaded_line number (drawn (next_state x))) (loaded_lines count (number + 1) (next_state x)) (omega arith)
    (rest_from number (loaded_lines count (number + 1) (next_state x)) (numbers_from count (number + 1) (next_state x)))

all_later : (number : ℕ) (lines : List ActorLine) → All (λ l. number + 1 ≤ l.number) lines → All (λ l. number < l.number) lines
all_later number lines later k d lt = let le = later k d lt in omega (arith, le)

no_pairs : AllPairs (λ (earlier : ActorLine) (later : ActorLine). earlier.number < later.number) []
no_pairs i j d lt within = absurd (omega arith)

numbers_rise : (count number x : ℕ) → AllPairs (λ earlier later. earlier.number < later.number) (loaded_lines count number x)
unfolding loaded_lines
numbers_rise zero number x = no_pairs
numbers_rise (suc count) number x =
    AllPairs-cons (λ earlier later. earlier.number < later.number) (loaded_line number (drawn (next_state x))) (loaded_lines count (number + 1) (next_state x))
    (all_later number (loaded_lines count (number + 1) (next_state x)) (numbers_from count (number + 1) (next_state x))) (numbers_rise count (number + 1) (next_state x))

numbers_below : (count number x : ℕ) → number + count ≤ line_limit → All (λ l. l.number < line_limit) (loaded_lines count number x)
unfolding loaded_lines
numbers_below zero number x fits = none_of (λ l. l.number < line_limit)
numbers_below (suc count) number x fits =
    more_of (λ l. l.number < line_limit) (loaded_line number (drawn (next_state x))) (loaded_lines count (number + 1) (next_state x)) (omega (arith, fits)) (numbers_below count (number + 1) (next_state x) (omega (arith, fits)))

pub loaded_is_script : (seed count : ℕ) → count ≤ load_limit → IsScript (loaded seed count)
loaded_is_script seed count few = record {
  board = record { a_queue = omega arith; few_queues = omega arith; queue_size = refl; few_workers = omega arith };
  few_guests = omega arith;
  guests = are_guests;
  lines = all_may count 6 seed;
  numbered = record { in_order = numbers_rise count 6 seed; below = numbers_below count 6 seed (omega (arith, few)) };
  turns = none_of (IsTurns loaded_board.workers loaded_guests);
  scheduled = omega arith;
}
