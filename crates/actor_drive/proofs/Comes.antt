-- What comes next for an actor: the lines behind which it is, and its ask.
use Rattle.std.proofs.Common.{◌≡◌, ℕ, zero, suc, ◌+◌, ◌-◌, ◌≤◌, true, false, List, [], ◌∷◌, ◌++◌, length, drop, Option, None, Some, IfSome, sym, refl, ap, ◌∙◌, subst, arith, append_assoc}
use Rattle.std.specs.Prelude.{is_none}
use Rattle.std.specs.List.{AllByRecursion}
use Rattle.std.proofs.lemmas.List.{append-nil, length-map}
use Rattle.group_calls.specs.declared.ask.Ask.{Ask}
use Rattle.group_calls.specs.declared.ask.Ask.TheVariants.{Owner, Queue, Member}
use Rattle.group_calls.specs.declared.owner.OwnerCall.TheVariants.{SetVfs, Judge, Gone as IsGone, Reset as ResetOwner}
use Rattle.group_calls.specs.declared.queue.RingCall.{RingCall}
use Rattle.group_calls.specs.declared.queue.RingCall.TheVariants.{Post, Pop, Complete, Take, Reset}
use Rattle.group_calls.specs.declared.queue.RingReply.{RingReply}
use Rattle.group_calls.specs.declared.member.MemberMade.{MemberMade}
use Rattle.group_calls.specs.declared.member.MemberCall.{MemberCall}
use Rattle.group_calls.specs.declared.member.MemberReply.{MemberReply}
use Rattle.group_calls.specs.Asks.{Exchange}
use Rattle.group_calls.specs.Queue.{queue_may}
use Rattle.board_script.specs.Script.{Whole}
use Rattle.board_script.specs.Bounds.{IsScript}
use Rattle.group_cells.specs.Cells.{Sight, IsSoundSight, shows}
use Rattle.journal.specs.Lines.{Line, lines_of, last_lines}
use Rattle.journal.specs.Performing.{Performed, all_asked, next_ask}
use Rattle.journal.specs.Settling.{has_ended}
use Rattle.journal.specs.Journals.{AreBegun, ArePerformed, lines_then}
use Rattle.world_laws.proofs.Beginnings.{LineFine, LinesFine, lines_fine}
use Rattle.world_laws.proofs.Turns.{dropped, rest_fine}
use Rattle.actor_core.specs.declared.lines.Lines.{Lines}
use Rattle.actor_core.specs.declared.lines.Lines.TheVariants.{OfScript, OfBoard}
use Rattle.actor_core.specs.Boards.{OwnLines, lines_now}
use Rattle.actor_core.specs.Stands.{ask_behind, IsNear}
use Rattle.actor_core.specs.Actors.{Upcoming, begun, from_line, upcoming_in}
use Rattle.actor_drive.specs.Bounds.{QueueNear, IsOfGroup, AreToldNear}
use Rattle.actor_drive.specs.Shown.{frame_of, AreCellsOf}
use Rattle.actor_drive.specs.Told.{MayAsk}
use Rattle.actor_drive.specs.Driven.{IsFurther}
use Rattle.actor_drive.proofs.Bounds.{next_of_group}
use Rattle.actor_drive.proofs.Asked.{there}

-- ---- an actor's lines begin with those that it performs for now

module _ (w : Whole) where
  pub now_first : (who : ℕ) (lines : Lines) → OwnLines who lines → (tail : List Line) × (lines_of w who ≡ lines_now w who lines ++ tail)
  now_first who (OfScript lines) own = ([], sym (append-nil (lines_of w who)))
  now_first who (OfBoard next true) own = ([], sym (append-nil (lines_of w who)))
  now_first who (OfBoard next false) own = (last_lines w, ap (lines_of w) own)

-- ---- lines that ask nothing are performed on the way

drop_front : {X : Type 0} (n : ℕ) (xs ys : List X) → n ≤ length xs → drop n (xs ++ ys) ≡ drop n xs ++ ys
drop_front zero xs ys low = refl
drop_front (suc n) [] ys low = absurd (omega (arith, low))
drop_front (suc n) (x ∷ xs) ys low = drop_front n xs ys (omega (arith, low))

dropped_length : {X : Type 0} (n : ℕ) (xs : List X) → n ≤ length xs → n + length (drop n xs) ≡ length xs
dropped_length zero xs low = omega arith
dropped_length (suc n) [] low = absurd (omega (arith, low))
dropped_length (suc n) (x ∷ xs) low = let r = dropped_length n xs (omega (arith, low)) in omega (arith, r)

pub further_same : (past : List Performed) → IsFurther past past
further_same [] = tt
further_same (p ∷ past) = ([], [], refl)

further_line : (past now : List Performed) (p : Performed) → IsFurther (p ∷ past) now → IsFurther past now
further_line [] now p f = tt
further_line (q ∷ past) now p (news, more, is) = (news ++ record { line = p.line; asked = more ++ p.asked } ∷ [], [], is ∙ sym (append_assoc news (record { line = p.line; asked = more ++ p.asked } ∷ []) (q ∷ past)))

further_step : (news past : List Performed) (more : List Exchange) (p : Performed) (a b : List Performed) → a ≡ news ++ record { line = p.line; asked = more ++ p.asked } ∷ past → IsFurther a b → (n : List Performed) × (m : List Exchange) × (b ≡ n ++ record { line = p.line; asked = m ++ p.asked } ∷ past)
further_step [] past more p a b is f =
    let g : IsFurther (record { line = p.line; asked = more ++ p.asked } ∷ past) b = subst (λ (l : List Performed). IsFurther l b) is f in
    (g.0, g.1 ++ more, g.2 ∙ ap (λ (l : List Exchange). g.0 ++ record { line = p.line; asked = l } ∷ past) (sym (append_assoc g.1 more p.asked)))
further_step (n ∷ news) past more p a b is f =
    let rest : List Performed = news ++ record { line = p.line; asked = more ++ p.asked } ∷ past in
    let g : IsFurther (n ∷ rest) b = subst (λ (l : List Performed). IsFurther l b) is f in
    let x : Performed = record { line = n.line; asked = g.1 ++ n.asked } in
    (g.0 ++ x ∷ news, more, g.2 ∙ sym (append_assoc g.0 (x ∷ news) (record { line = p.line; asked = more ++ p.asked } ∷ past)))

pub further_then : (past a b : List Performed) → IsFurther past a → IsFurther a b → IsFurther past b
further_then [] a b f g = tt
further_then (p ∷ past) a b (news, more, is) g = further_step news past more p a b is g

module _ (w : Whole) (who : ℕ) where
  -- an ask of the latest line
  pub record IsNext (u : Upcoming) (ask : Ask) : Type 0 where
    pub latest : Performed
    pub earlier : List Performed
    pub past : u.past ≡ latest ∷ earlier
    pub next : next_ask w who earlier latest.line latest.asked ≡ Some ask

  pub record Comes (total : ℕ) (past : List Performed) (u : Upcoming) : Type 0 where
    pub rest : List Line
    pub lines : lines_of w who ≡ lines_then u.past rest
    pub left : ℕ
    pub size : length u.past + left ≡ total
    pub begun : AreBegun w who u.past
    pub asked : all_asked u.past ≡ all_asked past
    pub further : IsFurther past u.past
    pub over : u.ask ≡ None → (has_ended w who u.past ≡ true) × (left ≡ 0)
    pub ask : IfSome u.ask (IsNext u)

  performed_begun : (past : List Performed) → ArePerformed w who past → AreBegun w who past
  performed_begun [] p = tt
  performed_begun (q ∷ past) p = (p.0, p.2)

  performed_ended : (past : List Performed) → ArePerformed w who past → has_ended w who past ≡ true
  performed_ended [] p = refl
  performed_ended (q ∷ past) p = p.1

  from_line_comes : (tail ls : List Line) (past : List Performed) → lines_of w who ≡ lines_then past (ls ++ tail) → ArePerformed w who past → Comes (length past + length ls) past (from_line w who ls past)
  from_line_comes tail [] past lines p = record {
    rest = tail;
    lines = lines;
    left = 0;
    size = refl;
    begun = performed_begun past p;
    asked = refl;
    further = further_same past;
    over = λ e. (performed_ended past p, refl);
    ask = tt;
  }
  from_line_comes tail (line ∷ ls) past lines p = go (next_ask w who past line []) refl (λ (over : is_none (next_ask w who past line []) ≡ true). from_line_comes tail ls (begun line ∷ past) lines (tt, over, p))
    where
      more : (m n : ℕ) → m + suc n ≡ suc m + n
      more m n = omega arith

      go : (o : Option Ask) → next_ask w who past line [] ≡ o → (is_none (next_ask w who past line []) ≡ true → Comes (suc (length past) + length ls) (begun line ∷ past) (from_line w who ls (begun line ∷ past)))
          → Comes (length past + suc (length ls)) past (elim o [ Some ask ↦ record { ask = Some ask; past = begun line ∷ past } | None ↦ from_line w who ls (begun line ∷ past) ])
      go (Some ask) is deeper = record {
        rest = ls ++ tail;
        lines = lines;
        left = length ls;
        size = sym (more (length past) (length ls));
        begun = (tt, p);
        asked = refl;
        further = further_line past (begun line ∷ past) (begun line) (further_same (begun line ∷ past));
        over = λ e. absurd (cc);
        ask = record { latest = begun line; earlier = past; past = refl; next = is };
      }
      go None is deeper =
          let d = deeper (ap is_none is) in
          record {
            rest = d.rest;
            lines = d.lines;
            left = d.left;
            size = d.size ∙ sym (more (length past) (length ls));
            begun = d.begun;
            asked = d.asked;
            further = further_line past _ (begun line) d.further;
            over = d.over;
            ask = d.ask;
          }

  over_behind : (past : List Performed) → AreBegun w who past → ask_behind w who past ≡ None → ArePerformed w who past
  over_behind [] b is = tt
  over_behind (p ∷ past) b is = (b.0, ap is_none is, b.1)

  next_behind : (past : List Performed) (ask : Ask) → ask_behind w who past ≡ Some ask → IsNext (record { ask = Some ask; past = past }) ask
  next_behind [] ask is = absurd (cc)
  next_behind (p ∷ past) ask is = record { latest = p; earlier = past; past = refl; next = is }

  pub upcoming_comes : (now tail rest : List Line) (past : List Performed) → lines_of w who ≡ now ++ tail → lines_of w who ≡ lines_then past rest → length past ≤ length now → AreBegun w who past → Comes (length now) past (upcoming_in w who now past)
  upcoming_comes now tail rest past all lines within b = go (ask_behind w who past) refl
    where
      left : List Line
      left = drop (length past) now

      rest_is : rest ≡ left ++ tail
      rest_is = sym (dropped past rest) ∙ (ap (drop (length past)) (sym lines ∙ all) ∙ drop_front (length past) now tail within)

      total : length past + length left ≡ length now
      total = dropped_length (length past) now within

      go : (o : Option Ask) → ask_behind w who past ≡ o → Comes (length now) past (elim o [ Some ask ↦ record { ask = Some ask; past = past } | None ↦ from_line w who left past ])
      go (Some ask) is = record {
        rest = rest;
        lines = lines;
        left = length left;
        size = total;
        begun = b;
        asked = refl;
        further = further_same past;
        over = λ e. absurd (cc);
        ask = next_behind past ask is;
      }
      go None is = subst (λ (n : ℕ). Comes n past (from_line w who left past)) total (from_line_comes tail left past (lines ∙ ap (lines_then past) rest_is) (over_behind past b is))

-- ---- what comes is of the group

each_front : {X : Type 0} (P : X → Type 0) (xs ys : List X) → AllByRecursion P (xs ++ ys) → AllByRecursion P xs
each_front P [] ys f = tt
each_front P (x ∷ xs) ys f = (f.0, each_front P xs ys f.1)

module _ (w : Whole) (script : IsScript w) (who : ℕ) where
  line_of : (p : Performed) (past : List Performed) (rest : List Line) → lines_of w who ≡ lines_then (p ∷ past) rest → LineFine w who p.line
  line_of p past rest lines = (rest_fine w who past (p.line ∷ rest) (subst (LinesFine w who) lines (lines_fine w script who))).0.1

  pub next_within : (p : Performed) (past : List Performed) (rest : List Line) (ask : Ask) → lines_of w who ≡ lines_then (p ∷ past) rest → AreToldNear w (all_asked (p ∷ past)) → next_ask w who past p.line p.asked ≡ Some ask → IsOfGroup w ask
  next_within p past rest ask lines near next = next_of_group w script who past p.line p.asked ask (line_of p past rest lines) (each_front _ p.asked (all_asked past) near) next

  near_of : (ask : Ask) → IsOfGroup w ask → IsNear ask
  near_of (Owner call) x = tt
  near_of (Queue k call) x = tt
  near_of (Member m floor call) x = let few = script.few_guests in let low = x.0 in let high = x.1 in (low, omega (arith, high, few))

  pub comes_within : (total : ℕ) (past : List Performed) (u : Upcoming) → AreToldNear w (all_asked past) → Comes w who total past u → IfSome u.ask (λ ask. IsOfGroup w ask × IsNear ask)
  comes_within total past u near c = go u.ask c.ask
    where
      near_now : AreToldNear w (all_asked u.past)
      near_now = subst (AreToldNear w) (sym c.asked) near

      go : (o : Option Ask) → IfSome o (IsNext w who u) → IfSome o (λ ask. IsOfGroup w ask × IsNear ask)
      go None x = tt
      go (Some ask) x =
          let within = next_within x.latest x.earlier c.rest ask (c.lines ∙ ap (λ l. lines_then l c.rest) x.past) (subst (λ l. AreToldNear w (all_asked l)) x.past near_now) x.next in
          (within, near_of ask within)

-- what is of the group may be asked of its cells
pub may_ask : (w : Whole) (c : Sight) (ask : Ask) → AreCellsOf w (frame_of c) → IsSoundSight c → IsOfGroup w ask → MayAsk c ask
may_ask w c (Owner (SetVfs count)) cells sound x = (sound.who, subst (λ (n : ℕ). count ≤ n) (sym cells.owner) x)
may_ask w c (Owner (Judge bytes writable)) cells sound x = (sound.who, x)
may_ask w c (Owner (IsGone m floor)) cells sound x = sound.who
may_ask w c (Owner (ResetOwner floors)) cells sound x = sound.who
may_ask w c (Queue k call) cells sound x =
    let many = cells.as_many_queues in
    let low = x.0 in
    let len = length-map c.queues (shows {M = ℕ} {C = RingCall} {R = RingReply} []) in
    let q = there c.queues k (omega (arith, many, low, len)) in
    (q.0, q.1, go q.0.made call x.1)
  where
    go : (size : ℕ) (call : RingCall) → QueueNear call → queue_may size c.who call
    go size (Post bytes writable tag) near = (sound.who, near)
    go size Pop near = sound.who
    go size (Complete seq bytes floor) near = sound.who
    go size (Take seq) near = sound.who
    go size (Reset floors) near = sound.who
may_ask w c (Member m floor call) cells sound x =
    let many = cells.as_many_members in
    let low = x.0 in
    let high = x.1 in
    let len = length-map c.members (shows {M = MemberMade} {C = MemberCall} {R = MemberReply} []) in
    let q = there c.members (m - 1) (omega (arith, many, low, high, len)) in
    (low, (q.0, q.1, sound.who))
