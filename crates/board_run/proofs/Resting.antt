-- What an actor has to do, and so may do in its turn.
use Rattle.std.proofs.Common.{◌≡◌, ℕ, inl, inr, Bool, true, List, sym, ap, ◌∙◌, subst}
use Rattle.board_script.specs.Script.{Whole}
use Rattle.journal.specs.Performing.{Performed}
use Rattle.journal.specs.Journals.{Journal}
use Rattle.actor_core.specs.declared.actor.Actor.{Actor}
use Rattle.actor_core.specs.Boards.{lines_due}
use Rattle.board_run.specs.declared.phases.Rest.{Rest}
use Rattle.board_run.specs.Running.{MayTurn}
use Rattle.board_run.specs.Finishing.{test_due, MayRest}

-- the board has turns only for its lines
pub may_turn : (s : Whole) (who : ℕ) (rest : Rest) (j : Journal) (a : Actor) → MayRest who rest → test_due rest (lines_due s who a.lines) s who (j.past who) ≡ true → MayTurn s who j a
may_turn s who rest j a (inl some) more = inl some
may_turn s who rest j a (inr lines) more = inr (subst (λ (r : Rest). test_due r (lines_due s who a.lines) s who (j.past who) ≡ true) lines more)

-- what was found of as many lines
pub found : (s : Whole) (who : ℕ) (rest : Rest) (now before : ℕ) (past : List Performed) → now ≡ before → {b : Bool} → test_due rest now s who past ≡ b → test_due rest before s who past ≡ b
found s who rest now before past same is = ap (λ (n : ℕ). test_due rest n s who past) (sym same) ∙ is
