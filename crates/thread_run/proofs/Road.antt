-- The road of a run: the board brings the group up, all others perform their lines, and the board drains it.
use Rattle.std.proofs.Common.{◌≡◌, ◌≢◌, ◌⊎◌, inl, inr, ℕ, ◌-◌, ◌<◌, ◌≤◌, true, false, List, [], ◌∷◌, ◌++◌, length, Some, slice_get, sym, ap, ◌∙◌, subst, arith}
use Rattle.std.proofs.lemmas.Bool.{cases_eq}
use Rattle.std.proofs.lemmas.List.{length-map}
use Rattle.history.specs.Limits.{actor_limit}
use Rattle.board_script.specs.Script.{Whole}
use Rattle.board_script.specs.Bounds.{IsScript}
use Rattle.group_cells.specs.Cells.{IsSoundSight}
use Rattle.group_cells.specs.Shared.{Sites, KeySet, IsKeySetOf, sight_of}
use Rattle.group_cells.specs.Ring.{Ring, with_floors}
use Rattle.group_cells.specs.Opening.{AreHome, IsMadeBy, no_floors}
use Rattle.group_cells.specs.Closing.{AllHome, IsClosed}
use Rattle.group_cells.specs.Plain.{Plain, plain_sight}
use Rattle.group_cells.proofs.Leasts.{floors_of}
use Rattle.journal.specs.Lines.{lines_of, first_lines}
use Rattle.journal.specs.Performing.{Performed}
use Rattle.journal.specs.Settling.{has_ended}
use Rattle.journal.specs.Journals.{Journal, IsLegalJournal}
use Rattle.answer_laws.proofs.Heading.{legal_headline}
use Rattle.actor_core.specs.declared.actor.Actor.{Actor}
use Rattle.actor_core.specs.declared.items.LeftItem.{LeftItem}
use Rattle.actor_core.specs.declared.performer.Performer.{Performer}
use Rattle.actor_core.specs.Boards.{lines_now}
use Rattle.actor_core.specs.Found.{FitsActor}
use Rattle.actor_core.specs.Actors.{StandsWhole}
use Rattle.actor_drive.specs.Driven.{IsBeside, HasEnded}
use Rattle.board_run.specs.Places.{actor_count}
use Rattle.thread_laws.specs.Gathered.{IsThrough, GatheredIsLegal}
use Rattle.thread_laws.specs.Idle.{OthersAreIdle}
use Rattle.thread_run.specs.declared.job.Job.{Job}
use Rattle.thread_run.specs.Jobs.{IsReady}
use Rattle.thread_run.specs.Through.{HasPerformed, HavePerformed}
use Rattle.thread_run.specs.Runs.{IsLegalRun}
use Rattle.thread_run.proofs.Order.{all_jobs}
use Rattle.thread_run.proofs.Views.{view_by, AreFloorsOf, IsBelow, IsGrown, grown}
use Rattle.thread_run.proofs.Made.{cells_of}
use Rattle.thread_run.proofs.Starts.{starts}
use Rattle.thread_run.proofs.Ended.{through, is_up, then_more, still_beside}
use Rattle.thread_run.proofs.Closed.{is_view, holds, legal_cells}
use Rattle.thread_run.proofs.Own.{own_who, own_group, own_home, own_else, own_floors, own_below, still_fresh, first_floors}
use Rattle.thread_run.proofs.Others.{IsEnough, IsOther, other, others_group, others_floors, board_home}
use Rattle.thread_run.proofs.Together.{IsBoards, IsPart, part, all_at, gathered, past_of, whole}
use Rattle.thread_run.proofs.Summary.{is_run}

-- a group that was opened, and the board before its first line
pub record IsOpened (s : Whole) (g : Sites) (r : Ring) (first : Actor) : Type 0 where
  pub made : IsMadeBy s g
  pub group : r.group ≡ g
  pub floors : r.floors ≡ no_floors s
  pub home : AreHome g 0 r.keys
  pub stands : StandsWhole s 0 [] first
  pub now : lines_now s 0 first.lines ≡ first_lines s

-- the board with the drain's lines
pub record IsAgain (s : Whole) (upped again : Actor) : Type 0 where
  pub stands : (past : List Performed) → StandsWhole s 0 past upped → StandsWhole s 0 past again
  pub due : lines_now s 0 again.lines ≡ lines_of s 0
  pub short : again.short ≡ upped.short

module _ (s : Whole) (g : Sites) (r0 : Ring) (first : Actor) (o : IsOpened s g r0 first) where
  abbrev h0 : KeySet
  h0 = (o.home 0 (omega arith) (omega arith)).0

  at0 : slice_get r0.keys 0 ≡ Some (Some h0)
  at0 = (o.home 0 (omega arith) (omega arith)).1

  who0 : h0.who ≡ 0
  who0 = (o.home 0 (omega arith) (omega arith)).2

  beside0 : IsBeside s [] first (sight_of (with_floors r0.floors h0))
  beside0 = starts s first h0 r0.floors (o.home 0 (omega arith) (omega arith)).4 (subst (λ (n : ℕ). StandsWhole s n [] first) (sym who0) o.stands)

  floors0 : AreFloorsOf g r0.floors
  floors0 = first_floors s g r0.floors o.made o.floors

  pub first_ready : FitsActor s first → (h : KeySet) × (slice_get r0.keys 0 ≡ Some (Some h)) × IsReady s g first (with_floors r0.floors h)
  first_ready fits =
      let of = floors_of g r0.floors h0 (o.home 0 (omega arith) (omega arith)).3 in
      (h0, at0, record { fits = fits; number = o.stands.performer.who_is ∙ sym who0; of = of; cells = cells_of s g o.made (with_floors r0.floors h0) of; beside = λ enough. ([], beside0) })

  module _ (r1 : Ring) (upped : Actor) (brought : (h : KeySet) → slice_get r0.keys 0 ≡ Some (Some h) → HasPerformed s r0 h first r1 upped) where
    u : HasPerformed s r0 h0 first r1 upped
    u = brought h0 at0

    up_who : u.keys.who ≡ 0
    up_who = own_who s r0 r1 h0 first upped who0 at0 u

    pub up_fits : FitsActor s upped
    up_fits = u.done.fits

    up_of : IsKeySetOf g u.keys
    up_of = subst (λ (z : Sites). IsKeySetOf z u.keys) o.group u.done.of

    pub up_group : r1.group ≡ g
    up_group = own_group s r0 r1 h0 first upped who0 at0 u ∙ o.group

    pub up_floors : AreFloorsOf g r1.floors
    up_floors = own_floors s r0 r1 h0 first upped who0 at0 u g floors0

    up_below : IsBelow (view_by u.keys) r1.floors
    up_below = own_below s r0 r1 h0 first upped who0 at0 u (subst (λ (z : Sites). AreFloorsOf z r0.floors) (sym o.group) floors0)

    pub up_fresh : AreHome g 1 r1.keys
    up_fresh = subst (λ (z : Sites). AreHome z 1 r1.keys) o.group (still_fresh s r0 r1 h0 first upped who0 at0 u (subst (λ (z : Sites). AreHome z 0 r0.keys) (sym o.group) o.home))

    up_ended : upped.short ≡ false → (past : List Performed) × HasEnded s past upped (sight_of u.keys)
    up_ended enough = let x = u.done.ended [] beside0 enough in (x.0, x.1.0)

    module _ (script : IsScript s) (r2 : Ring) (others : List Actor) (x : HavePerformed s r1 r2 others) where
      pub mid_group : r2.group ≡ g
      mid_group = others_group s script g r1 r2 others up_group up_fresh up_floors x

      mid_floors : AreFloorsOf g r2.floors
      mid_floors = others_floors s script g r1 r2 others up_group up_fresh up_floors x

      mid_home : slice_get r2.keys 0 ≡ Some (Some u.keys)
      mid_home = board_home s script g r1 r2 others up_group up_fresh up_floors x ∙ own_home s r0 r1 h0 first upped who0 at0 u

      each_other : (who : ℕ) → 1 ≤ who → who < actor_limit → IsOther s script g r1 r2 others up_group up_fresh up_floors x who
      each_other = other s script g r1 r2 others up_group up_fresh up_floors x

      module _ (again : Actor) (a : IsAgain s upped again) where
        due_at : lines_now s u.keys.who again.lines ≡ lines_of s u.keys.who
        due_at = subst (λ (n : ℕ). lines_now s n again.lines ≡ lines_of s n) (sym up_who) a.due

        beside_again : (past : List Performed) → HasEnded s past upped (sight_of u.keys) → IsBeside s past again (sight_of (with_floors r2.floors u.keys))
        beside_again past ended = still_beside s past upped again r2.floors u.keys (subst (λ (n : ℕ). StandsWhole s n past again) (sym up_who) (a.stands past (subst (λ (n : ℕ). StandsWhole s n past upped) up_who ended.beside.stands))) due_at ended.beside

        pub ready_again : FitsActor s again → again.performer ≡ upped.performer → (h : KeySet) × (slice_get r2.keys 0 ≡ Some (Some h)) × IsReady s g again (with_floors r2.floors h)
        ready_again fits same =
            let of = floors_of g r2.floors u.keys up_of in (
              u.keys,
              mid_home,
              record {
                fits = fits;
                number = ap (λ (p : Performer). p.who) same ∙ (u.done.number ∙ (o.stands.performer.who_is ∙ sym up_who));
                of = of;
                cells = cells_of s g o.made (with_floors r2.floors u.keys) of;
                beside = λ enough. let up = up_ended (sym a.short ∙ enough) in (up.0, beside_again up.0 up.1);
              },
            )

        module _ (r3 : Ring) (ended : Actor) (drained : (h : KeySet) → slice_get r2.keys 0 ≡ Some (Some h) → HasPerformed s r2 h again r3 ended) where
          d : HasPerformed s r2 u.keys again r3 ended
          d = drained u.keys mid_home

          end_who : d.keys.who ≡ 0
          end_who = own_who s r2 r3 u.keys again ended up_who mid_home d

          end_of : IsKeySetOf g d.keys
          end_of = subst (λ (z : Sites). IsKeySetOf z d.keys) mid_group d.done.of

          end_here : slice_get r3.keys 0 ≡ Some (Some d.keys)
          end_here = own_home s r2 r3 u.keys again ended up_who mid_home d

          end_else : (k : ℕ) → k ≢ 0 → slice_get r3.keys k ≡ slice_get r2.keys k
          end_else = own_else s r2 r3 u.keys again ended up_who mid_home d

          pub end_group : r3.group ≡ g
          end_group = own_group s r2 r3 u.keys again ended up_who mid_home d ∙ mid_group

          pub end_home : AllHome r3.keys
          end_home k below = go (cases_eq k 0)
            where
              go : (k ≡ 0) ⊎ (k ≡ 0 → ⊥) → (h : KeySet) × (slice_get r3.keys k ≡ Some (Some h))
              go (inl board) = (d.keys, ap (slice_get r3.keys) board ∙ end_here)
              go (inr one) = let y = each_other k (omega (arith, one)) below in (y.keys, end_else k one ∙ y.has.home)

          module _ (cells : Plain) (closed : IsClosed g r3.keys cells) (enough : ended.short ≡ false) where
            again_enough : again.short ≡ false
            again_enough = d.done.short enough

            up : (past : List Performed) × HasEnded s past upped (sight_of u.keys)
            up = up_ended (sym a.short ∙ again_enough)

            end : (past : List Performed) × (HasEnded s past ended (sight_of d.keys) × ((news : List Performed) × (past ≡ news ++ up.0)))
            end =
                let x = d.done.ended up.0 (beside_again up.0 up.1) enough in
                (x.0, (x.1.0, then_more s d.keys.who up.0 x.0 (subst (λ (n : ℕ). has_ended s n up.0 ≡ true) (up_who ∙ sym end_who) up.1.over) x.1.1 x.1.0.beside.begun))

            boards : IsBoards s r1.floors r2.floors cells ended
            boards = record {
              first = view_by u.keys;
              view = view_by d.keys;
              first_past = up.0;
              past = end.0;
              news = end.1.1.0;
              all = end.1.1.1;
              is_up = is_up s up.0 upped (sight_of u.keys) up_who (u.done.due s 0 ∙ o.now) up.1;
              below = up_below;
              seen = λ pasts. is_view g r3.keys cells closed pasts 0 d.keys (omega arith) end_here end_who end_of;
              through = subst (λ (n : ℕ). IsThrough s n end.0 (view_by d.keys)) end_who (through s end.0 ended (sight_of d.keys) due end.1.0);
              stands = subst (λ (n : ℕ). StandsWhole s n end.0 ended) end_who end.1.0.beside.stands;
              grown = subst (λ (n : ℕ). IsGrown r2.floors n (view_by u.keys) (view_by d.keys)) up_who (grown g r2.floors u.keys d.keys end_of mid_floors d.done.onward);
            }
              where
                due : length (lines_now s d.keys.who ended.lines) ≡ length (lines_of s d.keys.who)
                due = subst (λ (n : ℕ). length (lines_now s n ended.lines) ≡ length (lines_of s n)) (sym end_who) (ap length (d.done.due s 0 ∙ a.due))

            module _ (law : GatheredIsLegal) (idle : OthersAreIdle) (all_enough : IsEnough s script g r1 r2 others up_group up_fresh up_floors x) (sound : IsSoundSight (plain_sight cells)) where
              parts : (who : ℕ) → who ≢ 0 → IsPart s r1 r2 others cells who
              parts = part s script idle g r1 r2 r3 others cells up_group up_fresh up_floors x end_else all_enough closed

              abbrev journal : Journal
              journal = whole s r1 r2 others cells ended boards parts

              legal : IsLegalJournal s journal
              legal = law s journal script (gathered s r1 r2 others cells ended boards parts (legal_cells g r3.keys cells closed (past_of s r1 r2 others cells ended boards parts) s o.made sound))

              many : length others ≡ actor_count s - 1
              many = ap length x.actors_of ∙ (length-map x.ends (λ (job : Job). job.actor) ∙ (x.done.as_many ∙ all_jobs s x.jobs x.order))

              -- the journal of the whole run
              pub legal_run : (board : Actor) (left : List LeftItem) → board.performer ≡ ended.performer → board.kept.trace ≡ ended.kept.trace → left ≡ ended.kept.left.items.items → IsLegalRun s cells (board ∷ others) left
              legal_run board left performer trace left_is = record {
                journal = journal;
                legal = legal;
                all = legal_headline s journal script legal;
                run = is_run s script journal others many (all_at s r1 r2 others cells ended boards parts) ended board left
                    boards.stands performer trace left_is cells (holds g r3.keys cells closed (past_of s r1 r2 others cells ended boards parts) s o.made);
              }
