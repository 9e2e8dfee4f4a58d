-- Lines of a script name its actors only.
use Rattle.std.proofs.Common.{◌≡◌, ◌≢◌, ◌==◌, ℕ, inl, inr, Bool, cond, List, [], ◌∷◌, map, filter, refl, ap, ◌∙◌, subst, ne_eqb}
use Rattle.std.specs.List.{AllByRecursion}
use Rattle.std.proofs.lemmas.List.Elements.{recursion_from_All}
use Rattle.board_script.specs.declared.script.ActorLine.{ActorLine}
use Rattle.board_script.specs.declared.script.Setup.{Setup}
use Rattle.board_script.specs.declared.script.What.{What}
use Rattle.board_script.specs.declared.script.What.TheVariants as what
use Rattle.board_script.specs.Script.{Whole}
use Rattle.board_script.specs.Bounds.{IsActor, MayAsk}
use Rattle.journal.specs.Lines.{performs, lines_by}
use Rattle.thread_laws.specs.Idle.{OthersAreIdle}

-- who may ask anything is an actor
asks_as_actor : (queues workers : ℕ) (guests : List Setup) (who : ℕ) (w : What) → MayAsk queues workers guests who w → IsActor workers guests who
asks_as_actor queues workers guests who (what.BarRead offset count queue once) m = inl m.0
asks_as_actor queues workers guests who (what.BarWrite offset bytes queue once) m = inl m.0
asks_as_actor queues workers guests who (what.Mem addr bytes) m = inl m.0
asks_as_actor queues workers guests who (what.Peek addr count) m = inl m.0
asks_as_actor queues workers guests who (what.Msix on) m = inl m
asks_as_actor queues workers guests who (what.Io on) m = inl m
asks_as_actor queues workers guests who (what.Cfg offset count) m = inl m.0
asks_as_actor queues workers guests who what.Irqs m = inl m
asks_as_actor queues workers guests who (what.Poll queue) m = inl m.0
asks_as_actor queues workers guests who (what.Serve queue) m = inr (inl m.0)
asks_as_actor queues workers guests who (what.WorkerPoll member queue) m = inr (inl m.0)
asks_as_actor queues workers guests who (what.Frame member frame) m = inr (inr m.0)
asks_as_actor queues workers guests who (what.Flr member) m = inr (inr m.0)
asks_as_actor queues workers guests who (what.Disable member) m = inr (inr m.0)
asks_as_actor queues workers guests who what.Reset m = inr (inr m)

module _ (s : Whole) (who : ℕ) (none : IsActor s.board.workers s.guests who → ⊥) where
  no_lines : (lines : List ActorLine) → AllByRecursion (λ (line : ActorLine). MayAsk s.board.queues s.board.workers s.guests line.who line.what) lines → filter (λ line. line.who == who) lines ≡ []
  no_lines [] may = refl
  no_lines (line ∷ lines) may = ap (λ (b : Bool). cond b (line ∷ filter (λ line. line.who == who) lines) (filter (λ line. line.who == who) lines)) (ne_eqb line.who who other) ∙ no_lines lines may.1
    where
      other : line.who ≢ who
      other same = none (subst (IsActor s.board.workers s.guests) same (asks_as_actor s.board.queues s.board.workers s.guests line.who line.what may.0))

pub others_idle : OthersAreIdle
others_idle s who script other none = ap (lines_by s who) (ne_eqb who 0 other) ∙ ap (map performs) (no_lines s who none s.lines (recursion_from_All _ s.lines script.lines))
