-- Where no line disables a member or resets the owner, no member is killed.
use Rattle.std.proofs.Common.{◌≡◌, ℕ, zero, suc, ◌+◌, inl, inr, Bool, true, false, cond, List, [], ◌∷◌, ◌++◌, Option, None, Some, refl, sym, ap, ◌∙◌, subst, true≢false}
use Rattle.std.specs.Prelude.{max, nat_lt, option_map, ◌==◌, map}
use Rattle.std.specs.List.{All, flat_map}
use Rattle.history.specs.Places.{entry_at}
use Rattle.place_laws.specs.Actors.{IsIn}
use Rattle.place_laws.proofs.Actors.{in_none, in_either}
use Rattle.legacy_regs.specs.Registers.{queue_count}
use Rattle.group_calls.specs.declared.ask.Ask.{Ask}
use Rattle.group_calls.specs.declared.ask.Ask.TheVariants.{Owner, Queue, Member}
use Rattle.group_calls.specs.declared.ask.Told.{Told}
use Rattle.group_calls.specs.declared.member.MemberCall.{MemberCall}
use Rattle.group_calls.specs.declared.member.MemberCall.TheVariants.{Act, Notify, Msix, MemWrite, MemRead, TakeIrqs, Step, Arrive, Flr, Kill}
use Rattle.group_calls.specs.declared.member.MemberReply.{MemberReply}
use Rattle.group_calls.specs.MemberEntries.{MemberEntry}
use Rattle.group_calls.specs.Member.{kills}
use Rattle.member_laws.specs.Ends.{killed}
use Rattle.member_laws.proofs.Ends.{first_kill}
use Rattle.serve_machine.specs.declared.stage.Stage.TheVariants.{Popping, Judging, Acting, Completing, Ended}
use Rattle.vfio_driver.specs.declared.access.Answer.{Answer}
use Rattle.vfio_driver.specs.declared.access.Answer.TheVariants.{Data, Written, Ones, RefusedFull, RefusedMemory}
use Rattle.vfio_driver.specs.declared.access.Known.{Known}
use Rattle.vfio_driver.specs.declared.access.After.{After}
use Rattle.vfio_driver.specs.declared.access.Stage.{Stage as AccessStage}
use Rattle.vfio_driver.specs.declared.access.Stage.TheVariants.{Nothing, Ringing, Posting, Taking}
use Rattle.vfio_driver.specs.Access.{next_ask as access_ask, after as access_turned}
use Rattle.vfio_driver.specs.declared.bring_stage.BringStage.{BringStage}
use Rattle.vfio_driver.specs.declared.bring_stage.BringStage.TheVariants.{Posting as IsPosting, Taking as IsTaking, Over}
use Rattle.vfio_driver.specs.Bring.{next_ask as bring_ask, after as bring_turned}
use Rattle.host_machine.specs.declared.stage.Stage.{Stage as HostStage}
use Rattle.host_machine.specs.declared.stage.Stage.TheVariants as host
use Rattle.host_machine.specs.Machine.{ask_on, closing, after_stage}
use Rattle.board_script.specs.declared.script.ActorLine.{ActorLine}
use Rattle.board_script.specs.declared.script.What.{What}
use Rattle.board_script.specs.declared.script.What.TheVariants as what
use Rattle.board_script.specs.Script.{Whole}
use Rattle.journal.specs.Lines.{Line, counts_members, brings_up, performs, empties as empties_line, finishes, members_of, kind_of, numbers, first_lines, finishing_lines, last_lines, script_lines, lines_by}
use Rattle.journal.specs.Knowing.{knows}
use Rattle.journal.specs.Doing.{Doing, asks, accesses, brings, serves, empties, hosts, steps, done, raised, doing_ask, refused, answered, access_goes_on, bring_goes_on, ends_steps, after}
use Rattle.journal.specs.Performing.{Performed, all_asked, what_begins, begins, doing}
use Rattle.journal.specs.Journals.{Journal, IsLegalSoFar}
use Rattle.journal_laws.proofs.Recorded.{member_asked}
use Rattle.journal_laws.proofs.Traversal.{each_asked, line_keeps}
use Rattle.journal_laws.proofs.Serving.{some_ask}
use Rattle.journal_laws.proofs.Order.{in_both}
use Rattle.journal_laws.proofs.Lines.{in_map, in_filter, from_all, line_of_actor}
use Rattle.journal_laws.proofs.Directly.{busy_member}
use Rattle.load_laws.specs.Summed.{IsSummed}

-- ---- what spares the members

abbrev is_kill : MemberCall → Bool
is_kill Kill = true
is_kill _ = false

abbrev SparesAsk : Ask → Type 0
SparesAsk (Member m floor call) = is_kill call ≡ false
SparesAsk _ = Unit {0}

abbrev SparesWay : HostStage → Type 0
SparesWay (host.Disabling m) = ⊥
SparesWay host.Killing = ⊥
SparesWay _ = Unit {0}

abbrev Spares : Doing → Type 0
Spares (asks ask) = SparesAsk ask
Spares (hosts going) = SparesWay going.stage
Spares _ = Unit {0}

-- ---- an answer more

refused_spares : (queue : ℕ) (once : Bool) (access : AccessStage) → Spares (refused queue once access)
refused_spares queue true access = tt
refused_spares queue false access = tt

answered_spares : (queue : ℕ) (once : Bool) (access : AccessStage) (answer : Answer) → Spares (answered queue once access answer)
answered_spares queue once access (RefusedFull full at) = refused_spares queue once access
answered_spares queue once access (Data bytes) = tt
answered_spares queue once access Written = tt
answered_spares queue once access Ones = tt
answered_spares queue once access RefusedMemory = tt

access_spares : (queue : ℕ) (once : Bool) (access stage : AccessStage) (known : Known) (answer : Option Answer) (told : Told) → Spares (access_goes_on queue once access (record { stage = stage; known = known; answer = answer }) told)
access_spares queue once access stage known None told = tt
access_spares queue once access stage known (Some answer) told = answered_spares queue once access answer

bring_spares : (m : ℕ) (way : BringStage) (told : Told) → Spares (bring_goes_on m way told)
bring_spares m (Over brought) told = tt
bring_spares m (IsPosting step) told = tt
bring_spares m (IsTaking step seq) told = tt

closing_spares : (queues queue : ℕ) → SparesWay (closing queues queue)
closing_spares queues queue = go (nat_lt queue queues)
  where
    go : (b : Bool) → SparesWay (cond b (host.Closing queue) host.Ended)
    go true = tt
    go false = tt

way_spares : (members queues : ℕ) (floors : List ℕ) (way : HostStage) (told : Told) → SparesWay way → SparesWay (after_stage members queues floors way told).stage
way_spares members queues floors (host.Disabling m) told it = absurd it
way_spares members queues floors host.Killing told it = absurd it
way_spares members queues floors host.Resetting told it = closing_spares queues 0
way_spares members queues floors (host.Closing queue) told it = closing_spares queues (queue + 1)
way_spares members queues floors (host.Delivering m frame) told it = tt
way_spares members queues floors (host.Restarting m) told it = tt
way_spares members queues floors (host.Leaving m floor) told it = tt
way_spares members queues floors host.Ended told it = tt

spares_step : (s : Whole) (mine : Known) (d : Doing) (told : Told) → Spares d → Spares (after s mine d told)
spares_step s mine (asks ask) told it = tt
spares_step s mine (accesses queue once access Ended) told it = let t : After = access_turned mine access told in access_spares queue once access t.stage t.known t.answer told
spares_step s mine (accesses queue once access Popping) told it = tt
spares_step s mine (accesses queue once access (Judging command bytes)) told it = tt
spares_step s mine (accesses queue once access (Acting command m reg)) told it = tt
spares_step s mine (accesses queue once access (Completing seq bytes floor)) told it = tt
spares_step s mine (brings m way Ended) told it = bring_spares m (bring_turned way told) told
spares_step s mine (brings m way Popping) told it = tt
spares_step s mine (brings m way (Judging command bytes)) told it = tt
spares_step s mine (brings m way (Acting command n reg)) told it = tt
spares_step s mine (brings m way (Completing seq bytes floor)) told it = tt
spares_step s mine (serves queue service) told it = tt
spares_step s mine (empties queue service) told it = tt
spares_step s mine (hosts going) told it = way_spares (members_of s) s.board.queues going.floors going.stage told it
spares_step s mine (steps m queue zero) told it = tt
spares_step s mine (steps m queue (suc left)) told it = go (ends_steps told)
  where
    go : (b : Bool) → Spares (cond b done (steps m queue left))
    go true = tt
    go false = tt
spares_step s mine done told it = tt

-- ---- so no ask is a Kill

other_call : (known : ℕ → Known) (i least : ℕ) (c : MemberCall) (m floor : ℕ) → is_kill c ≡ false → option_map (raised known) (Some (Member i least c)) ≡ Some (Member m floor Kill) → ⊥
other_call known i least c m floor spares e =
    let it : Member i (max least (known i).floor) c ≡ Member m floor Kill = some_ask _ _ e in
    let same : c ≡ Kill = cc in
    true≢false (sym (ap is_kill same) ∙ spares)

ask_spares : (known : ℕ → Known) (ask : Ask) (m floor : ℕ) → SparesAsk ask → option_map (raised known) (Some ask) ≡ Some (Member m floor Kill) → ⊥
ask_spares known (Owner c) m floor it e = absurd (cc)
ask_spares known (Queue k c) m floor it e = absurd (cc)
ask_spares known (Member i least c) m floor it e = other_call known i least c m floor it e

way_asks : (known : ℕ → Known) (floors : List ℕ) (way : HostStage) (m floor : ℕ) → SparesWay way → option_map (raised known) (ask_on floors way) ≡ Some (Member m floor Kill) → ⊥
way_asks known floors (host.Delivering i frame) m floor it e = other_call known i 0 (Arrive frame) m floor refl e
way_asks known floors (host.Restarting i) m floor it e = other_call known i 0 Flr m floor refl e
way_asks known floors (host.Disabling i) m floor it e = absurd it
way_asks known floors (host.Leaving i bound) m floor it e = absurd (cc)
way_asks known floors host.Killing m floor it e = absurd it
way_asks known floors host.Resetting m floor it e = absurd (cc)
way_asks known floors (host.Closing queue) m floor it e = absurd (cc)
way_asks known floors host.Ended m floor it e = absurd (cc)

open_asks : (who : ℕ) (known : ℕ → Known) (access : AccessStage) (m floor : ℕ) → option_map (raised known) (access_ask who (known who) access) ≡ Some (Member m floor Kill) → ⊥
open_asks who known Nothing m floor e = absurd (cc)
open_asks who known (Ringing number) m floor e = other_call known who (known who).floor (Notify number) m floor refl e
open_asks who known (Posting queue bytes writable reads) m floor e = absurd (cc)
open_asks who known (Taking queue seq reads) m floor e = absurd (cc)

bring_asks : (known : ℕ → Known) (n : ℕ) (way : BringStage) (m floor : ℕ) → option_map (raised known) (bring_ask n way) ≡ Some (Member m floor Kill) → ⊥
bring_asks known n (IsPosting step) m floor e = absurd (cc)
bring_asks known n (IsTaking step seq) m floor e = absurd (cc)
bring_asks known n (Over brought) m floor e = absurd (cc)

spares_asks : (who : ℕ) (known : ℕ → Known) (d : Doing) (m floor : ℕ) → Spares d → doing_ask who known d ≡ Some (Member m floor Kill) → ⊥
spares_asks who known (asks ask) m floor it e = ask_spares known ask m floor it e
spares_asks who known (accesses queue once access Ended) m floor it e = open_asks who known access m floor e
spares_asks who known (accesses queue once access Popping) m floor it e = busy_member known queue Popping m floor Kill e refl
spares_asks who known (accesses queue once access (Judging command bytes)) m floor it e = busy_member known queue (Judging command bytes) m floor Kill e refl
spares_asks who known (accesses queue once access (Acting command n reg)) m floor it e = busy_member known queue (Acting command n reg) m floor Kill e refl
spares_asks who known (accesses queue once access (Completing seq bytes bound)) m floor it e = busy_member known queue (Completing seq bytes bound) m floor Kill e refl
spares_asks who known (brings n way Ended) m floor it e = bring_asks known n way m floor e
spares_asks who known (brings n way Popping) m floor it e = busy_member known 0 Popping m floor Kill e refl
spares_asks who known (brings n way (Judging command bytes)) m floor it e = busy_member known 0 (Judging command bytes) m floor Kill e refl
spares_asks who known (brings n way (Acting command i reg)) m floor it e = busy_member known 0 (Acting command i reg) m floor Kill e refl
spares_asks who known (brings n way (Completing seq bytes bound)) m floor it e = busy_member known 0 (Completing seq bytes bound) m floor Kill e refl
spares_asks who known (serves queue service) m floor it e = busy_member known queue service m floor Kill e refl
spares_asks who known (empties queue service) m floor it e = busy_member known queue service m floor Kill e refl
spares_asks who known (hosts going) m floor it e = way_asks known going.floors going.stage m floor it e
spares_asks who known (steps n queue zero) m floor it e = absurd (cc)
spares_asks who known (steps n queue (suc left)) m floor it e = other_call known n 0 (Step queue) m floor refl e
spares_asks who known done m floor it e = absurd (cc)

-- ---- the lines

abbrev IsSparing : Line → Type 0
IsSparing (performs line) = IsSummed line.what
IsSparing _ = Unit {0}

what_spares : (s : Whole) (who : ℕ) (past : List Performed) (w : What) → IsSummed w → Spares (what_begins s who past w)
what_spares s who past (what.BarRead offset count queue once) it = tt
what_spares s who past (what.BarWrite offset bytes queue once) it = tt
what_spares s who past (what.Mem addr bytes) it = refl
what_spares s who past (what.Peek addr count) it = refl
what_spares s who past (what.Msix on) it = refl
what_spares s who past (what.Io on) it = tt
what_spares s who past (what.Cfg offset count) it = tt
what_spares s who past what.Irqs it = refl
what_spares s who past (what.Poll queue) it = refl
what_spares s who past (what.Serve queue) it = tt
what_spares s who past (what.WorkerPoll member queue) it = refl
what_spares s who past (what.Frame member frame) it = tt
what_spares s who past (what.Flr member) it = tt
what_spares s who past (what.Disable member) it = absurd it
what_spares s who past what.Reset it = absurd it

spares_first : (s : Whole) (who : ℕ) (past : List Performed) (line : Line) → IsSparing line → Spares (begins s who past line)
spares_first s who past counts_members it = tt
spares_first s who past (brings_up m) it = tt
spares_first s who past (performs line) it = what_spares s who past line.what it
spares_first s who past (empties_line queue) it = tt
spares_first s who past (finishes m queue) it = tt

finishing_spares : (s : Whole) (x : Line) (ms : List ℕ) → IsIn x (flat_map (finishing_lines s) ms) → IsSparing x
finishing_spares s x [] is = absurd (in_none x is)
finishing_spares s x (m ∷ ms) is = elim (in_both x (finishing_lines s m) (flat_map (finishing_lines s) ms) is) [
  | inl here ↦ let it = in_map (finishes m) (numbers 0 (queue_count (kind_of s m))) x here in subst IsSparing (sym it.2) tt
  | inr more ↦ finishing_spares s x ms more
]

board_spares : (s : Whole) (x : Line) → IsIn x (first_lines s ++ last_lines s) → IsSparing x
board_spares s x is = elim (in_both x (first_lines s) (last_lines s) is) [
  | inl early ↦ elim (in_either x counts_members (map brings_up (numbers 0 (members_of s + 1))) early) [
    | inl same ↦ subst IsSparing (sym same) tt
    | inr more ↦ let it = in_map brings_up (numbers 0 (members_of s + 1)) x more in subst IsSparing (sym it.2) tt
  ]
  | inr late ↦ elim (in_both x (map empties_line (numbers 0 s.board.queues)) (flat_map (finishing_lines s) (numbers 1 (members_of s))) late) [
    | inl empty ↦ let it = in_map empties_line (numbers 0 s.board.queues) x empty in subst IsSparing (sym it.2) tt
    | inr finish ↦ finishing_spares s x (numbers 1 (members_of s)) finish
  ]
]

each_spares : (s : Whole) → All (λ line. IsSummed line.what) s.lines → (who : ℕ) (b : Bool) (x : Line) → IsIn x (lines_by s who b) → IsSparing x
each_spares s summed who true x is = board_spares s x is
each_spares s summed who false x is =
    let it = in_map performs (script_lines s who) x is in
    let there = in_filter (λ (line : ActorLine). line.who == who) s.lines it.0 it.1 in
    subst IsSparing (sym it.2) (from_all (λ (line : ActorLine). IsSummed line.what) s.lines it.0 summed there.0)

-- ---- no member is killed

killing_call : (call : MemberCall) (reply : MemberReply) (who : ℕ) → kills (record { who = who; call = call; reply = reply }) ≡ true → call ≡ Kill
killing_call Kill reply who is = refl
killing_call (Act access) reply who is = absurd (true≢false (sym is))
killing_call (Notify queue) reply who is = absurd (true≢false (sym is))
killing_call (Msix on) reply who is = absurd (true≢false (sym is))
killing_call (MemWrite addr bytes) reply who is = absurd (true≢false (sym is))
killing_call (MemRead addr count) reply who is = absurd (true≢false (sym is))
killing_call TakeIrqs reply who is = absurd (true≢false (sym is))
killing_call (Step queue) reply who is = absurd (true≢false (sym is))
killing_call (Arrive frame) reply who is = absurd (true≢false (sym is))
killing_call Flr reply who is = absurd (true≢false (sym is))

module _ (s : Whole) (j : Journal) (so : IsLegalSoFar s j) (summed : All (λ line. IsSummed line.what) s.lines) (m : ℕ) where
  no_kill_stands : (place who : ℕ) (reply : MemberReply) → entry_at place (j.member m) ≡ Some (record { who = who; call = Kill; reply = reply }) → ⊥
  no_kill_stands place who reply at =
      let asked = member_asked j who m place Kill reply (so.recorded who) at in
      let it = each_asked s who (j.past who) _ asked.1.later asked.1.earlier (so.begun who) asked.1.is in
      let line : IsSparing it.line = each_spares s summed who (who == 0) it.line (line_of_actor s j so who it.later_lines _ it.lines it.stands) in
      spares_asks who (λ i. knows who i (it.asked ++ all_asked it.lines)) (doing s who it.lines it.line it.asked) m asked.0
      (line_keeps s who it.lines it.line (λ d xs. Spares d) (spares_first s who it.lines it.line line) (λ d xs x h e fits placed. spares_step s (knows who who (xs ++ all_asked it.lines)) d x.1 h) it.asked it.others) it.next

  pub none_killed : killed (j.member m) ≡ None
  none_killed = go (killed (j.member m)) refl
    where
      go : (o : Option ℕ) → killed (j.member m) ≡ o → killed (j.member m) ≡ None
      go None is = is
      go (Some floor) is =
          let it = first_kill (j.member m) floor is in
          let e : MemberEntry = it.entry in
          let call = killing_call e.call e.reply e.who it.killing in
          absurd (no_kill_stands it.place e.who e.reply (it.stands ∙ ap (λ (c : MemberCall). Some (record { who = e.who; call = c; reply = e.reply })) call))
