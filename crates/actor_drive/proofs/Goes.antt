-- An actor goes on beside the cells that it asks.
use Rattle.std.proofs.Common.{◌≡◌, ℕ, ◌≤◌, true, false, List, [], ◌∷◌, length, Option, None, Some, IfSome, sym, refl, ap, ◌∙◌, subst, arith}
use Rattle.std.specs.Prelude.{Bool, IsTrue, ◌↔◌}
use Rattle.group_calls.specs.declared.ask.Ask.{Ask}
use Rattle.group_calls.specs.declared.ask.Told.{Told}
use Rattle.group_calls.specs.Asks.{AnswersAsk}
use Rattle.board_script.specs.Script.{Whole}
use Rattle.board_script.specs.Bounds.{IsScript}
use Rattle.group_cells.specs.Cells.{Sight, IsSoundSight}
use Rattle.journal.specs.Lines.{Line, lines_of}
use Rattle.journal.specs.Performing.{Performed, all_asked}
use Rattle.journal.specs.Journals.{AreBegun, lines_then}
use Rattle.actor_core.specs.declared.actor.Actor.{Actor}
use Rattle.actor_core.specs.Boards.{OwnLines, lines_now}
use Rattle.actor_core.specs.Kept.{is_answer}
use Rattle.actor_core.specs.Stands.{IsNear}
use Rattle.actor_core.specs.Actors.{StandsWhole, Upcoming, upcoming_in, and_asked}
use Rattle.actor_drive.specs.Bounds.{IsOfGroup, AreToldNear, ToldNear}
use Rattle.actor_drive.specs.Shown.{shown_journal, frame_of, queue_least, member_least, AreCellsOf}
use Rattle.actor_drive.specs.Told.{IsLeft, IsToldBy}
use Rattle.actor_drive.specs.Driven.{AreLeft, AreHeard, IsBeside, HasEnded, IsFurther, AreOnward}
use Rattle.actor_drive.proofs.Asked.{all_legal}
use Rattle.actor_drive.proofs.Comes.{now_first, Comes, IsNext, upcoming_comes, comes_within}
use Rattle.actor_drive.proofs.Fed.{told_near, told_placed, left_more, heard_more, added_none, added_then, AreAdded}

-- ---- what is next

-- what `next` says
abbrev pub ComesNext : Whole → Actor → Actor → Option Ask → Type 0
ComesNext w a b result = (who : ℕ) (past : List Performed) → StandsWhole w who past a → b.short ≡ false → (let comes = upcoming_in w who (lines_now w who a.lines) past in IfSome comes.ask IsNear → (result ≡ comes.ask) × StandsWhole w who comes.past b)

-- behind these lines the actor is then, and this is its ask
pub record IsAtNext (w : Whole) (past : List Performed) (b : Actor) (c : Sight) (result : Option Ask) : Type 0 where
  pub now : List Performed
  pub beside : IsBeside w now b c
  pub further : IsFurther past now
  pub ended : result ≡ None → HasEnded w now b c
  pub asks : IfSome result (λ ask. IsOfGroup w ask × IsNext w c.who record { ask = result; past = now } ask)

module _ (w : Whole) (script : IsScript w) where
  pub at_next : (past : List Performed) (a b : Actor) (c : Sight) (result : Option Ask) → OwnLines c.who a.lines → ((s : Whole) (who : ℕ) → lines_now s who b.lines ≡ lines_now s who a.lines) → ComesNext w a b result → b.short ≡ false → IsBeside w past a c → IsAtNext w past b c result
  at_next past a b c result own due stands short x =
      let now = lines_now w c.who a.lines in
      let u : Upcoming = upcoming_in w c.who now past in
      let tail = now_first w c.who a.lines own in
      let comes : Comes w c.who (length now) past u = upcoming_comes w c.who now tail.0 x.lines.0 past tail.1 x.lines.1 x.within x.begun in
      let within = comes_within w script c.who (length now) past u x.near comes in
      let at = stands c.who past x.stands short (near u.ask within) in
      let due_length : length (lines_now w c.who b.lines) ≡ length now = ap length (due w c.who) in
      let size = comes.size in
      let beside : IsBeside w u.past b c = record {
        stands = at.1;
        begun = comes.begun;
        lines = (comes.rest, comes.lines);
        within = omega (arith, due_length, size);
        near = subst (AreToldNear w) (sym comes.asked) x.near;
        left = subst (λ l. AreLeft c.who l (shown_journal c)) (sym comes.asked) x.left;
        heard = subst (λ l. AreHeard w (shown_journal c) c.who l) (sym comes.asked) x.heard;
      } in
      record {
        now = u.past;
        beside = beside;
        further = comes.further;
        ended = λ none. let o = comes.over (sym at.0 ∙ none) in let l = o.1 in record { beside = beside; over = o.0; all = omega (arith, due_length, size, l) };
        asks = subst (λ (r : Option Ask). IfSome r (λ ask. IsOfGroup w ask × IsNext w c.who record { ask = r; past = u.past } ask)) (sym at.0) (both u.ask within comes.ask);
      }
    where
      near : (o : Option Ask) → IfSome o (λ ask. IsOfGroup w ask × IsNear ask) → IfSome o IsNear
      near None x = tt
      near (Some ask) x = x.1

      both : (o : Option Ask) → IfSome o (λ ask. IsOfGroup w ask × IsNear ask) → IfSome o (IsNext w c.who (upcoming_in w c.who (lines_now w c.who a.lines) past)) → IfSome o (λ ask. IsOfGroup w ask × IsNext w c.who record { ask = o; past = (upcoming_in w c.who (lines_now w c.who a.lines) past).past } ask)
      both None x y = tt
      both (Some ask) x y = (x.0, record { latest = y.latest; earlier = y.earlier; past = y.past; next = y.next })

  -- ---- an ask and its answer

  -- as an actor of this number
  record IsBesideAs (n : ℕ) (past : List Performed) (a : Actor) (c : Sight) : Type 0 where
    stands : StandsWhole w n past a
    begun : AreBegun w n past
    lines : (rest : List Line) × (lines_of w n ≡ lines_then past rest)
    within : length past ≤ length (lines_now w n a.lines)
    near : AreToldNear w (all_asked past)
    left : AreLeft n (all_asked past) (shown_journal c)
    heard : AreHeard w (shown_journal c) n (all_asked past)

  as_beside : (past : List Performed) (a : Actor) (c : Sight) → IsBesideAs c.who past a c → IsBeside w past a c
  as_beside past a c x = record { stands = x.stands; begun = x.begun; lines = x.lines; within = x.within; near = x.near; left = x.left; heard = x.heard }

  pub at_fed : (now : List Performed) (b d : Actor) (c e : Sight) (ask : Ask) (told : Told) → IsBeside w now b c → IsNext w c.who record { ask = Some ask; past = now } ask
      → ((performed : Performed) (past : List Performed) → StandsWhole w c.who (performed ∷ past) b → StandsWhole w c.who (and_asked ask told performed ∷ past) d)
      → d.lines ≡ b.lines → is_answer told ≡ true → e.who ≡ c.who → IsLeft c.who ask told (shown_journal c) (shown_journal e) → AnswersAsk ask told
      → IsToldBy w (frame_of c) (shown_journal c) (shown_journal e) ask told → AreCellsOf w (frame_of e) → IsSoundSight e → (after : List Performed) × (IsBeside w after d e × IsFurther now after)
  at_fed now b d c e ask told x next fed lines answered who left answers by cells sound =
      let x1 : IsBeside w (next.latest ∷ next.earlier) b c = subst (λ l. IsBeside w l b c) next.past x in
      let p = next.latest in
      let past = next.earlier in
      let more : List Performed = and_asked ask told p ∷ past in
      let near : ToldNear w told = told_near w (frame_of c) (shown_journal c) (shown_journal e) ask told (all_legal w e cells sound) answers by in
      let within = x1.within in
      let same : length (lines_now w c.who d.lines) ≡ length (lines_now w c.who b.lines) = ap (λ l. length (lines_now w c.who l)) lines in (
        more,
        (
          as_beside more d e (subst (λ n. IsBesideAs n more d e) (sym who) record {
            stands = fed p past x1.stands;
            begun = ((next.next, answers, told_placed w (frame_of c) (shown_journal c) (shown_journal e) ask told answers answered by, x1.begun.0), x1.begun.1);
            lines = x1.lines;
            within = omega (arith, within, same);
            near = (near, x1.near);
            left = left_more c.who ask told (all_asked (p ∷ past)) (shown_journal c) (shown_journal e) left x1.left;
            heard = heard_more w (frame_of c) c.who ask told (all_asked (p ∷ past)) (shown_journal c) (shown_journal e) left by x1.left x1.heard;
          }),
          subst (λ l. IsFurther l more) (sym next.past) ([], (ask, told) ∷ [], refl),
        ),
      )

-- ---- the cells

pub onward_same : (c : Sight) → AreOnward c c
onward_same c = record {
  frame = refl;
  owner = added_none c.who c.owner.least c.owner.shown;
  queue = λ k. added_none c.who (queue_least (frame_of c) k) ((shown_journal c).queue k);
  member = λ m. added_none c.who (member_least (frame_of c) m) ((shown_journal c).member m);
}

pub onward_then : (w : Whole) (s c e : Sight) → AreOnward s c → frame_of e ≡ frame_of c → AreAdded w (frame_of c) c.who (shown_journal c) (shown_journal e) → AreOnward s e
onward_then w s c e x same a =
    let b : AreAdded w (frame_of s) s.who (shown_journal c) (shown_journal e) = subst (λ (f : Sight). AreAdded w f f.who (shown_journal c) (shown_journal e)) x.frame a in
    record {
      frame = same ∙ x.frame;
      owner = added_then s.who s.owner.least s.owner.shown c.owner.shown e.owner.shown x.owner b.owner;
      queue = λ k. added_then s.who (queue_least (frame_of s) k) ((shown_journal s).queue k) ((shown_journal c).queue k) ((shown_journal e).queue k) (x.queue k) (b.queue k);
      member = λ m. added_then s.who (member_least (frame_of s) m) ((shown_journal s).member m) ((shown_journal c).member m) ((shown_journal e).member m) (x.member m) (b.member m);
    }

-- ---- a test that failed

pub refused : (b : Bool) (P : Type 0) → b ≡ false → (IsTrue b ↔ P) → P → ⊥
refused b P h e p = let good = e.1 p in absurd (cc)

pub passed : (b : Bool) (P : Type 0) → b ≡ true → (IsTrue b ↔ P) → P
passed b P h e = e.0 h
