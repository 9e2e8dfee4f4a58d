-- What a line that is read keeps of the bounds.
use Rattle.std.proofs.Common.{◌≡◌, ℕ, ◌+◌, ◌<◌, ◌≤◌, List, ◌∷◌, [], ◌++◌, sym, subst, arith}
use Rattle.std.proofs.lemmas.List.Elements.{All-push}
use Rattle.std.proofs.lemmas.List.Quantifiers.{all_pairs_push}
use Rattle.board_script.specs.declared.script.ActorLine.{ActorLine}
use Rattle.board_script.specs.declared.script.Turns.{Turns}
use Rattle.board_script.specs.Limits.{line_limit, turns_limit}
use Rattle.board_script.specs.SoFar.{SoFar, queues_at, workers_at, scheduled}
use Rattle.board_script.specs.Bounds.{MayAsk, AreNumbered, IsSoFar}
use Rattle.board_script.specs.Shapes.{AreBefore, Keeps}

numbered_kept : (lines : List ActorLine) (line : ActorLine) → AreNumbered lines → AreBefore line.number lines → line.number < line_limit → AreNumbered (lines ++ line ∷ [])
numbered_kept lines line are before fits = record {
  in_order = all_pairs_push (λ earlier later. earlier.number < later.number) lines line are.in_order before;
  below = All-push (λ l. l.number < line_limit) lines line are.below fits;
}

pub line_kept : (d : SoFar) (line : ActorLine) → IsSoFar d → MayAsk (queues_at d.board) (workers_at d.board) d.guests line.who line.what → AreBefore line.number d.lines → line.number < line_limit
    → IsSoFar (record d { lines = d.lines ++ line ∷ [] })
line_kept d line kept may before fits = record {
  board = kept.board;
  few_guests = kept.few_guests;
  guests = kept.guests;
  lines = All-push (λ l. MayAsk (queues_at d.board) (workers_at d.board) d.guests l.who l.what) d.lines line kept.lines may;
  numbered = numbered_kept d.lines line kept.numbered before fits;
  turns = kept.turns;
}

before_next : (number : ℕ) (lines : List ActorLine) → AreBefore number lines → AreBefore (number + 1) lines
before_next number lines before = λ k d lt. let earlier = before k d lt in omega (arith, earlier)

-- a line of an actor
pub line_keeps : (line : ActorLine) (d : SoFar) → Keeps line.number d (record d { lines = d.lines ++ line ∷ [] })
line_keeps line d = record {
  limit = λ few. few;
  before = λ before. All-push (λ l. l.number < line.number + 1) d.lines line (before_next line.number d.lines before) (omega arith);
}

-- a line of another kind
pub same_lines_keep : (number : ℕ) (old new : SoFar) → new.lines ≡ old.lines → (scheduled old ≤ turns_limit → scheduled new ≤ turns_limit) → Keeps number old new
same_lines_keep number old new lines few = record {
  limit = few;
  before = λ before. subst (AreBefore (number + 1)) (sym lines) (before_next number old.lines before);
}

pub same_turns : (old new : SoFar) → new.turns ≡ old.turns → scheduled old ≤ turns_limit → scheduled new ≤ turns_limit
same_turns old new turns few = rw turns few
