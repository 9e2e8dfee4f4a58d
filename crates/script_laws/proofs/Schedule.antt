-- The lines of actors and of the schedule say them again.
use Rattle.std.proofs.Common.{◌≡◌, ℕ, suc, ◌+◌, ◌-◌, ◌<◌, ◌≤◌, inl, inr, Bool, true, cond, nat_le, List, [], ◌∷◌, ◌++◌, length, Some, None, Result, Ok, refl, sym, ap, subst, ◌∙◌, arith, append_assoc, zero-add}
use Rattle.std.specs.Prelude.{map}
use Rattle.std.specs.List.{All, list_all, sum_by}
use Rattle.std.specs.Fmt.{decimal}
use Rattle.std.proofs.lemmas.Bool.{and_from}
use Rattle.std.proofs.lemmas.List.{append-nil}
use Rattle.std.proofs.lemmas.List.Sums.{sum_by-append, sum_by-cons}
use Rattle.script_words.specs.declared.cause.Cause.{Cause}
use Rattle.script_words.specs.declared.cause.Cause.TheVariants as cause
use Rattle.script_words.specs.declared.shape.Shape.TheVariants as line
use Rattle.script_words.specs.declared.words.Head.{Head}
use Rattle.script_words.specs.declared.words.Head.TheVariants as head
use Rattle.script_words.specs.Words.{is_word, head_of}
use Rattle.script_words.specs.Parts.{form, is_actor_word}
use Rattle.script_words.specs.Shape.{form_of}
use Rattle.script_words.specs.Values.{◌>>=◌, when, number_in}
use Rattle.board_script.specs.declared.draft.Use.TheVariants as use_of
use Rattle.board_script.specs.declared.script.ActorLine.{ActorLine}
use Rattle.board_script.specs.declared.script.Board.{Board}
use Rattle.board_script.specs.declared.script.Setup.{Setup}
use Rattle.board_script.specs.declared.script.Turns.{Turns}
use Rattle.board_script.specs.Limits.{first_worker, the_host, turns_limit}
use Rattle.board_script.specs.SoFar.{SoFar, worker_at, scheduled}
use Rattle.board_script.specs.Bounds.{IsGuest, IsWorker, IsActor, IsTurns, MayAsk}
use Rattle.board_script.specs.Lines.{actor_at, with_pair, with_pairs}
use Rattle.board_script.specs.Script.{with_text, with_lines}
use Rattle.script_writer.specs.Written.{actor_word, actor_words, turns_words}
use Rattle.script_laws.specs.Again.{numbered}
use Rattle.script_laws.proofs.Numbers.{number_word, plain_number}
use Rattle.script_laws.proofs.Values.{then_ok, when_holds, upto, number_in_again}
use Rattle.script_laws.proofs.Lines.{line_of, is_line}
use Rattle.script_laws.proofs.Steps.{place_of, so_far, line_again, one_line}
use Rattle.script_laws.proofs.Actors.{guest_word, worker_word, guest_head, worker_head}
use Rattle.script_laws.proofs.Whats.{IsMade, few_guests, guest_again, worker_again, is_who, says}

-- ---- the lines of actors

abbrev pub IsAsked : Board → List Setup → ActorLine → Type 0
IsAsked board guests line = MayAsk board.queues board.workers guests line.who line.what

rest_of : {A : Type 0} (P : A → Type 0) (x : A) (xs : List A) → All P (x ∷ xs) → All P xs
rest_of P x xs all = λ k d lt. all (suc k) d (omega arith)

pub actors_are_lines : (board : Board) (guests : List Setup) (lines : List ActorLine) → IsMade board guests → All (IsAsked board guests) lines → list_all is_line (map actor_words lines) ≡ true
actors_are_lines board guests [] made all = refl
actors_are_lines board guests (line ∷ lines) made all =
    and_from _ _ (says board guests line.who line.what made (all 0 line (omega arith))).words (actors_are_lines board guests lines made (rest_of (IsAsked board guests) line lines all))

-- After the lines of actors, they stand behind those before, with their numbers.
pub actors_again : (number : ℕ) (board : Board) (guests : List Setup) (before lines : List ActorLine) (rest : List (List (List ℕ))) → IsMade board guests → All (IsAsked board guests) lines
    → with_lines use_of.Group number (so_far board guests before []) (map line_of (map actor_words lines ++ rest))
    ≡ with_lines use_of.Group (number + length lines) (so_far board guests (before ++ numbered number lines) []) (map line_of rest)
actors_again number board guests before [] rest made all =
    ap (λ (n : ℕ). with_lines use_of.Group n (so_far board guests before []) (map line_of rest)) (omega arith)
    ∙ ap (λ (l : List ActorLine). with_lines use_of.Group (number + 0) (so_far board guests l []) (map line_of rest)) (sym (append-nil before))
actors_again number board guests before (line ∷ lines) rest made all =
    let said : ActorLine = record line { number = number } in
    let after : List ActorLine = before ++ said ∷ [] in
    let number_is : number + 1 + length lines ≡ number + length (line ∷ lines) = omega arith in
    one_line number (so_far board guests before []) (so_far board guests after []) (actor_words line) (map actor_words lines ++ rest)
    ((says board guests line.who line.what made (all 0 line (omega arith))).again number before)
    ∙ actors_again (number + 1) board guests after lines rest made (rest_of (IsAsked board guests) line lines all)
    ∙ ap (λ (n : ℕ). with_lines use_of.Group n (so_far board guests (after ++ numbered (number + 1) lines) []) (map line_of rest)) number_is
    ∙ ap (λ (l : List ActorLine). with_lines use_of.Group (number + length (line ∷ lines)) (so_far board guests l []) (map line_of rest)) (append_assoc before (said ∷ []) (numbered (number + 1) lines))

-- ---- the pairs of the schedule

-- the word of an actor is one, and names the actor
pub record IsNamed (board : Board) (guests : List Setup) (who : ℕ) : Type 0 where
  pub word : is_word (actor_word who) ≡ true
  pub actor : is_actor_word (head_of (actor_word who)) ≡ true
  pub named : (lines : List ActorLine) (turns : List Turns) → actor_at (record { board = Some board; guests = guests; lines = lines; turns = turns }) (head_of (actor_word who)) ≡ Ok who

guest_named : (board : Board) (guests : List Setup) (who : ℕ) → IsMade board guests → IsGuest guests who → IsNamed board guests who
guest_named board guests who made is =
    let few = few_guests guests who made.few is in
    let spelt : actor_word who ≡ 103 ∷ decimal who = guest_word who (omega arith) in
    let read : head_of (103 ∷ decimal who) ≡ head.Guest (decimal who) = guest_head who (omega arith) in
    record {
      word = ap is_word spelt ∙ plain_number who (omega arith);
      actor = ap (λ (w : List ℕ). is_actor_word (head_of w)) spelt ∙ ap is_actor_word read;
      named = λ lines turns.
          ap (λ (w : List ℕ). actor_at (so_far board guests lines turns) (head_of w)) spelt ∙ ap (actor_at (so_far board guests lines turns)) read ∙ guest_again board guests lines who made.few is;
    }

worker_named : (board : Board) (guests : List Setup) (who : ℕ) → IsMade board guests → IsWorker board.workers who → IsNamed board guests who
worker_named board guests who made is =
    let last : who < the_host = omega (arith, is.exists, made.is_board.few_workers) in
    let spelt : actor_word who ≡ 119 ∷ decimal (who - first_worker) = worker_word who is.low last in
    let read : head_of (119 ∷ decimal (who - first_worker)) ≡ head.Worker (decimal (who - first_worker)) = worker_head (who - first_worker) (omega arith) in
    record {
      word = ap is_word spelt ∙ plain_number (who - first_worker) (omega arith);
      actor = ap (λ (w : List ℕ). is_actor_word (head_of w)) spelt ∙ ap is_actor_word read;
      named = λ lines turns.
          ap (λ (w : List ℕ). actor_at (so_far board guests lines turns) (head_of w)) spelt ∙ ap (actor_at (so_far board guests lines turns)) read
          ∙ then_ok (worker_at (so_far board guests lines turns) (decimal (who - first_worker))) (who - first_worker) (λ n. Ok (first_worker + n)) (worker_again board guests lines who made.is_board.few_workers is)
          ∙ ap (λ (n : ℕ). Ok n) (is_who who is.low);
    }

host_named : (board : Board) (guests : List Setup) → IsNamed board guests the_host
host_named board guests = record { word = refl; actor = refl; named = λ lines turns. refl }

named : (board : Board) (guests : List Setup) (who : ℕ) → IsMade board guests → IsActor board.workers guests who → IsNamed board guests who
named board guests who made is =
    elim is [
      | inl guest ↦ guest_named board guests who made guest
      | inr other ↦
          (elim other [
            | inl worker ↦ worker_named board guests who made worker
            | inr host ↦ subst (IsNamed board guests) (sym host) (host_named board guests)
          ])
    ]

abbrev pub turns_sum : List Turns → ℕ
turns_sum turns = sum_by (λ t. t.count) turns

turns_is_line : (board : Board) (guests : List Setup) (turns : Turns) → IsMade board guests → IsTurns board.workers guests turns → is_line (turns_words turns) ≡ true
turns_is_line board guests turns made is =
    let few : turns.count ≤ turns_limit = is.count in
    and_from _ _ (named board guests turns.who made is.actor).word (and_from _ _ (number_word turns.count (omega arith)) refl)

pub turns_are_lines : (board : Board) (guests : List Setup) (turns : List Turns) → IsMade board guests → All (IsTurns board.workers guests) turns → list_all is_line (map turns_words turns) ≡ true
turns_are_lines board guests [] made all = refl
turns_are_lines board guests (first ∷ turns) made all =
    and_from _ _ (turns_is_line board guests first made (all 0 first (omega arith))) (turns_are_lines board guests turns made (rest_of (IsTurns board.workers guests) first turns all))

go_form_again : (board : Board) (guests : List Setup) (turns : Turns) → IsNamed board guests turns.who → form_of (turns_words turns) ≡ Some (line.Go (actor_word turns.who ∷ decimal turns.count ∷ []))
go_form_again board guests turns is = ap (λ (b : Bool). form (cond b (Some (actor_word turns.who ∷ decimal turns.count ∷ [])) None) (λ pairs. line.Go pairs)) (and_from _ true is.actor refl)

pair_said : (board : Board) (guests : List Setup) (lines : List ActorLine) (before : List Turns) (turns : Turns) → IsNamed board guests turns.who → turns.count ≤ turns_limit
    → with_pair (so_far board guests lines before) (actor_word turns.who) (decimal turns.count) ≡ Ok (so_far board guests lines (before ++ turns ∷ []))
pair_said board guests lines before turns is few =
    then_ok (actor_at (so_far board guests lines before) (head_of (actor_word turns.who))) turns.who _ (is.named lines before)
    ∙ then_ok (number_in 0 turns_limit (decimal turns.count)) turns.count _ (number_in_again 0 turns_limit turns.count (omega arith) few (omega arith))

turns_again_line : (number : ℕ) (board : Board) (guests : List Setup) (lines : List ActorLine) (before : List Turns) (turns : Turns) → IsMade board guests → IsTurns board.workers guests turns → turns_sum (before ++ turns ∷ []) ≤ turns_limit
    → with_text (place_of number) (so_far board guests lines before) (line_of (turns_words turns)) ≡ Ok (so_far board guests lines (before ++ turns ∷ []))
turns_again_line number board guests lines before turns made is within =
    let who = named board guests turns.who made is.actor in
    line_again number (so_far board guests lines before) 103 (111 ∷ []) (actor_word turns.who ∷ decimal turns.count ∷ []) (line.Go (actor_word turns.who ∷ decimal turns.count ∷ [])) refl
    (turns_is_line board guests turns made is) (go_form_again board guests turns who)
    ∙ ap (λ (r : Result SoFar Cause). (r >>= (λ next. with_pairs next [])) >>= (λ next. when (nat_le (scheduled next) turns_limit) cause.Limit next)) (pair_said board guests lines before turns who is.count)
    ∙ when_holds (nat_le (turns_sum (before ++ turns ∷ [])) turns_limit) cause.Limit (so_far board guests lines (before ++ turns ∷ [])) (upto (turns_sum (before ++ turns ∷ [])) turns_limit within)

one_more : (before : List Turns) (turns : Turns) → turns_sum (before ++ turns ∷ []) ≡ turns_sum before + turns.count
one_more before turns = sum_by-append (λ t. t.count) before (turns ∷ []) ∙ ap (λ (n : ℕ). turns_sum before + n) (zero-add turns.count)

front_fits : (before : List Turns) (first : Turns) (turns : List Turns) → turns_sum before + turns_sum (first ∷ turns) ≤ turns_limit → turns_sum (before ++ first ∷ []) + turns_sum turns ≤ turns_limit
front_fits before first turns within =
    let more = one_more before first in
    let split : turns_sum (first ∷ turns) ≡ first.count + turns_sum turns = sum_by-cons (λ t. t.count) first turns in
    omega (arith, more, split, within)

-- After the lines of the schedule, its pairs stand behind those before.
pub turns_again : (number : ℕ) (board : Board) (guests : List Setup) (lines : List ActorLine) (before turns : List Turns) → IsMade board guests → All (IsTurns board.workers guests) turns → turns_sum before + turns_sum turns ≤ turns_limit
    → with_lines use_of.Group number (so_far board guests lines before) (map line_of (map turns_words turns)) ≡ Ok (so_far board guests lines (before ++ turns))
turns_again number board guests lines before [] made all within = ap (λ (t : List Turns). Ok (so_far board guests lines t)) (sym (append-nil before))
turns_again number board guests lines before (first ∷ turns) made all within =
    let fits = front_fits before first turns within in
    one_line number (so_far board guests lines before) (so_far board guests lines (before ++ first ∷ [])) (turns_words first) (map turns_words turns)
    (turns_again_line number board guests lines before first made (all 0 first (omega arith)) (omega (arith, fits)))
    ∙ turns_again (number + 1) board guests lines (before ++ first ∷ []) turns made (rest_of (IsTurns board.workers guests) first turns all) fits
    ∙ ap (λ (t : List Turns). Ok (so_far board guests lines t)) (append_assoc before (first ∷ []) turns)
