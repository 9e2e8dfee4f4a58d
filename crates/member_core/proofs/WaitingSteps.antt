-- The frames that wait, after one entry more.
use Rattle.std.proofs.Common.{◌≡◌, ℕ, ◌+◌, ◌<◌, ◌≤◌, Bool, true, false, cond, List, [], ◌∷◌, ◌++◌, length, drop, Option, Some, None, refl, sym, ap, ◌∙◌, subst, arith}
use Rattle.std.specs.Prelude.{◌==◌, ◌||◌, ◌&&◌}
use Rattle.std.proofs.lemmas.List.{drop-append-le, drop-drop, length_push, length-drop}
use Rattle.history.specs.Look.{count}
use Rattle.admin_wire.specs.declared.command.LegacyCmd.{LegacyCmd}
use Rattle.legacy_regs.specs.declared.accesses.Space.TheVariants.{Common}
use Rattle.group_calls.specs.declared.member.MemberCall.{MemberCall}
use Rattle.group_calls.specs.declared.member.MemberCall.TheVariants.{Act, Notify, Msix, MemWrite, MemRead, TakeIrqs, Step, Arrive, Flr, Kill}
use Rattle.group_calls.specs.declared.member.MemberReply.{MemberReply}
use Rattle.group_calls.specs.declared.member.MemberReply.TheVariants.{Data, Written, Info, Refused, Gone, Served, Empty, NotPending, Halted, Dropped, Irqs, Arrived, BacklogFull, Killed}
use Rattle.group_calls.specs.MemberEntries.{MemberEntry, is_done, write_of, is_zero_status, is_reset, since_reset}
use Rattle.group_calls.specs.MemberQueues.{frame_kept, is_arrival, with_frame, arrivals, leaves_backlog, backlog, is_served, is_dropped}
use Rattle.group_calls.specs.Steps.{are_none}
use Rattle.group_calls.proofs.RegisterSteps.{goes_on, ends}
use Rattle.member_device.specs.Device.{is_arrived, waiting_after_act, waiting_after_step}
use Rattle.member_core.specs.Holding.{waiting_then}

-- no more frames left than came
abbrev pub Few : List MemberEntry → Type 0
Few run = count leaves_backlog run ≤ length (arrivals run)

-- ---- by what the entry is

ended : (e : MemberEntry) (past : List MemberEntry) → is_reset e ≡ true → backlog (since_reset (e ∷ past)) ≡ []
ended e past resets = ap backlog (ends e past resets)

stayed : (e : MemberEntry) (past : List MemberEntry) → is_reset e ≡ false → leaves_backlog e ≡ false → frame_kept e ≡ None → backlog (since_reset (e ∷ past)) ≡ backlog (since_reset past)
stayed e past goes keeps none = ap backlog (goes_on e past goes)
    ∙ (λ i. drop (cond (keeps i) (count leaves_backlog (since_reset past) + 1) (count leaves_backlog (since_reset past))) (with_frame (none i) (arrivals (since_reset past))))

left : (e : MemberEntry) (past : List MemberEntry) → is_reset e ≡ false → leaves_backlog e ≡ true → frame_kept e ≡ None → backlog (since_reset (e ∷ past)) ≡ drop 1 (backlog (since_reset past))
left e past goes leaves none = ap backlog (goes_on e past goes)
    ∙ (λ i. drop (cond (leaves i) (count leaves_backlog (since_reset past) + 1) (count leaves_backlog (since_reset past))) (with_frame (none i) (arrivals (since_reset past))))
    ∙ sym (drop-drop 1 (count leaves_backlog (since_reset past)) (arrivals (since_reset past)))

arrived : (e : MemberEntry) (past : List MemberEntry) (frame : List ℕ) → is_reset e ≡ false → leaves_backlog e ≡ false → frame_kept e ≡ Some frame → Few (since_reset past) → backlog (since_reset (e ∷ past)) ≡ backlog (since_reset past) ++ frame ∷ []
arrived e past frame goes keeps some few = ap backlog (goes_on e past goes)
    ∙ (λ i. drop (cond (keeps i) (count leaves_backlog (since_reset past) + 1) (count leaves_backlog (since_reset past))) (with_frame (some i) (arrivals (since_reset past))))
    ∙ drop-append-le (count leaves_backlog (since_reset past)) (arrivals (since_reset past)) (frame ∷ []) few

-- ---- by its call

no_write : (b : Bool) → is_zero_status (cond b None None) ≡ false
no_write true = refl
no_write false = refl

never : (b : Bool) → (b && false) ≡ false
never true = refl
never false = refl

-- an entry with no write to a structure, which is no function level reset
goes_by : (e : MemberEntry) (b : Bool) → is_reset e ≡ (is_zero_status (cond b None None) || (b && false)) → is_reset e ≡ false
goes_by e b is = is ∙ ap (λ z. z || (b && false)) (no_write b) ∙ never b

by_act : (who : ℕ) (command : LegacyCmd) (reply : MemberReply) (past : List MemberEntry)
    → backlog (since_reset (record { who = who; call = Act command; reply = reply } ∷ past)) ≡ waiting_after_act command reply (backlog (since_reset past))
by_act who command reply past = go (is_done reply) refl (is_zero_status (write_of Common command)) refl
  where
    go : (b : Bool) → is_done reply ≡ b → (z : Bool) → is_zero_status (write_of Common command) ≡ z
        → backlog (since_reset (record { who = who; call = Act command; reply = reply } ∷ past)) ≡ waiting_after_act command reply (backlog (since_reset past))
    go true done true zero_is = ended (record { who = who; call = Act command; reply = reply }) past ((λ i. is_zero_status (cond (done i) (write_of Common command) None) || (done i && false)) ∙ ap (λ z. z || false) zero_is)
        ∙ sym (λ i. cond (done i && zero_is i) [] (backlog (since_reset past)))
    go true done false zero_is = stayed (record { who = who; call = Act command; reply = reply }) past ((λ i. is_zero_status (cond (done i) (write_of Common command) None) || (done i && false)) ∙ ap (λ z. z || false) zero_is) refl refl
        ∙ sym (λ i. cond (done i && zero_is i) [] (backlog (since_reset past)))
    go false done z zero_is = stayed (record { who = who; call = Act command; reply = reply }) past (λ i. is_zero_status (cond (done i) (write_of Common command) None) || (done i && false)) refl refl
        ∙ sym (λ i. cond (done i && is_zero_status (write_of Common command)) [] (backlog (since_reset past)))

by_flr : (who : ℕ) (reply : MemberReply) (past : List MemberEntry)
    → backlog (since_reset (record { who = who; call = Flr; reply = reply } ∷ past)) ≡ cond (is_done reply) [] (backlog (since_reset past))
by_flr who reply past = go (is_done reply) refl
  where
    go : (b : Bool) → is_done reply ≡ b → backlog (since_reset (record { who = who; call = Flr; reply = reply } ∷ past)) ≡ cond (is_done reply) [] (backlog (since_reset past))
    go true done = ended (record { who = who; call = Flr; reply = reply }) past (λ i. is_zero_status (cond (done i) None None) || (done i && true)) ∙ sym (ap (λ b. cond b [] (backlog (since_reset past))) done)
    go false done = stayed (record { who = who; call = Flr; reply = reply }) past (λ i. is_zero_status (cond (done i) None None) || (done i && true)) refl refl ∙ sym (ap (λ b. cond b [] (backlog (since_reset past))) done)

by_step : (who q : ℕ) (reply : MemberReply) (past : List MemberEntry)
    → backlog (since_reset (record { who = who; call = Step q; reply = reply } ∷ past)) ≡ waiting_after_step q reply (backlog (since_reset past))
by_step who q reply past = go (((q == 0) && is_served reply) || is_dropped reply) refl
  where
    go : (b : Bool) → (((q == 0) && is_served reply) || is_dropped reply) ≡ b → backlog (since_reset (record { who = who; call = Step q; reply = reply } ∷ past)) ≡ waiting_after_step q reply (backlog (since_reset past))
    go true leaves = left (record { who = who; call = Step q; reply = reply }) past (goes_by (record { who = who; call = Step q; reply = reply }) (is_done reply) refl) leaves refl
        ∙ sym (ap (λ b. cond b (drop 1 (backlog (since_reset past))) (backlog (since_reset past))) leaves)
    go false keeps = stayed (record { who = who; call = Step q; reply = reply }) past (goes_by (record { who = who; call = Step q; reply = reply }) (is_done reply) refl) keeps refl
        ∙ sym (ap (λ b. cond b (drop 1 (backlog (since_reset past))) (backlog (since_reset past))) keeps)

by_arrival : (who : ℕ) (frame : List ℕ) (reply : MemberReply) (past : List MemberEntry) → (is_arrival (record { who = who; call = Arrive frame; reply = reply }) ≡ true → Few (since_reset past))
    → backlog (since_reset (record { who = who; call = Arrive frame; reply = reply } ∷ past)) ≡ cond (is_arrived reply) (backlog (since_reset past) ++ frame ∷ []) (backlog (since_reset past))
by_arrival who frame Arrived past few = arrived (record { who = who; call = Arrive frame; reply = Arrived }) past frame refl refl refl (few refl)
by_arrival who frame (Data bytes) past few = stayed (record { who = who; call = Arrive frame; reply = Data bytes }) past refl refl refl
by_arrival who frame Written past few = stayed (record { who = who; call = Arrive frame; reply = Written }) past refl refl refl
by_arrival who frame Info past few = stayed (record { who = who; call = Arrive frame; reply = Info }) past refl refl refl
by_arrival who frame (Refused why) past few = stayed (record { who = who; call = Arrive frame; reply = Refused why }) past refl refl refl
by_arrival who frame (Gone floor) past few = stayed (record { who = who; call = Arrive frame; reply = Gone floor }) past refl refl refl
by_arrival who frame (Served size irq sent) past few = stayed (record { who = who; call = Arrive frame; reply = Served size irq sent }) past refl refl refl
by_arrival who frame Empty past few = stayed (record { who = who; call = Arrive frame; reply = Empty }) past refl refl refl
by_arrival who frame NotPending past few = stayed (record { who = who; call = Arrive frame; reply = NotPending }) past refl refl refl
by_arrival who frame (Halted halt) past few = stayed (record { who = who; call = Arrive frame; reply = Halted halt }) past refl refl refl
by_arrival who frame Dropped past few = stayed (record { who = who; call = Arrive frame; reply = Dropped }) past refl refl refl
by_arrival who frame (Irqs mask) past few = stayed (record { who = who; call = Arrive frame; reply = Irqs mask }) past refl refl refl
by_arrival who frame BacklogFull past few = stayed (record { who = who; call = Arrive frame; reply = BacklogFull }) past refl refl refl
by_arrival who frame Killed past few = stayed (record { who = who; call = Arrive frame; reply = Killed }) past refl refl refl

-- the frames that wait after any entry
pub backlog-more : (who : ℕ) (call : MemberCall) (reply : MemberReply) (past : List MemberEntry) → (is_arrival (record { who = who; call = call; reply = reply }) ≡ true → Few (since_reset past))
    → backlog (since_reset (record { who = who; call = call; reply = reply } ∷ past)) ≡ waiting_then call reply (backlog (since_reset past))
backlog-more who (Act command) reply past few = by_act who command reply past
backlog-more who (Notify queue) reply past few = stayed (record { who = who; call = Notify queue; reply = reply }) past (goes_by (record { who = who; call = Notify queue; reply = reply }) (is_done reply) refl) refl refl
backlog-more who (Msix on) reply past few = stayed (record { who = who; call = Msix on; reply = reply }) past (goes_by (record { who = who; call = Msix on; reply = reply }) (is_done reply) refl) refl refl
backlog-more who (MemWrite addr bytes) reply past few = stayed (record { who = who; call = MemWrite addr bytes; reply = reply }) past (goes_by (record { who = who; call = MemWrite addr bytes; reply = reply }) (is_done reply) refl) refl refl
backlog-more who (MemRead addr size) reply past few = stayed (record { who = who; call = MemRead addr size; reply = reply }) past (goes_by (record { who = who; call = MemRead addr size; reply = reply }) (is_done reply) refl) refl refl
backlog-more who TakeIrqs reply past few = stayed (record { who = who; call = TakeIrqs; reply = reply }) past (goes_by (record { who = who; call = TakeIrqs; reply = reply }) (is_done reply) refl) refl refl
backlog-more who (Step q) reply past few = by_step who q reply past
backlog-more who (Arrive frame) reply past few = by_arrival who frame reply past few
backlog-more who Flr reply past few = by_flr who reply past
backlog-more who Kill reply past few = stayed (record { who = who; call = Kill; reply = reply }) past (goes_by (record { who = who; call = Kill; reply = reply }) (is_done reply) refl) refl refl

-- ---- no more frames leave than came

longer : (o : Option (List ℕ)) (frames : List (List ℕ)) → length frames ≤ length (with_frame o frames)
longer None frames = omega arith
longer (Some frame) frames = omega (arith, length_push frames frame)

few_goes_on : (b : Bool) (k n m : ℕ) → k ≤ n → n ≤ m → (b ≡ true → k < n) → cond b (k + 1) k ≤ m
few_goes_on true k n m few wide near = let h : k < n = near refl in omega arith
few_goes_on false k n m few wide near = omega arith

pub few-more : (e : MemberEntry) (past : List MemberEntry) → Few (since_reset past) → (leaves_backlog e ≡ true → count leaves_backlog (since_reset past) < length (arrivals (since_reset past))) → Few (since_reset (e ∷ past))
few-more e past few near = go (is_reset e) refl
  where
    go : (b : Bool) → is_reset e ≡ b → Few (since_reset (e ∷ past))
    go true resets = subst Few (sym (ends e past resets)) (omega arith)
    go false goes = subst Few (sym (goes_on e past goes)) (few_goes_on (leaves_backlog e) (count leaves_backlog (since_reset past)) (length (arrivals (since_reset past))) (length (with_frame (frame_kept e) (arrivals (since_reset past)))) few (longer (frame_kept e) (arrivals (since_reset past))) near)

-- where a frame waits, fewer left than came
pub some_wait : (run : List MemberEntry) → are_none (backlog run) ≡ false → count leaves_backlog run < length (arrivals run)
some_wait run some = go (backlog run) refl some
  where
    go : (frames : List (List ℕ)) → backlog run ≡ frames → are_none frames ≡ false → count leaves_backlog run < length (arrivals run)
    go [] is none = cc
    go (frame ∷ frames) is none = omega (arith, length-drop (count leaves_backlog run) (arrivals run), ap length is)
