-- What an actor asks next is of its script's group.
use Rattle.std.proofs.Common.{◌≡◌, ◌==◌, ℕ, zero, suc, ◌+◌, ◌≤◌, ◌<◌, inl, inr, Bool, true, false, cond, List, [], ◌∷◌, ◌++◌, length, Option, Some, None, refl, sym, ap, ◌∙◌, arith, subst}
use Rattle.std.specs.Prelude.{nat_lt, nat_le, not, ◌&&◌, ◌/◌, option_map}
use Rattle.std.proofs.lemmas.Bool.Decides.{nat_tests}
use Rattle.history.specs.Look.{latest_or, after_latest}
use Rattle.group_calls.specs.Limits.{writable_limit}
use Rattle.admin_wire.specs.Command.{command_of}
use Rattle.admin_wire.specs.declared.command.Body.{Body}
use Rattle.admin_wire.specs.declared.command.Body.TheVariants.{Query as IsQuery, Use as IsUse, Legacy as ToMember, Unknown}
use Rattle.admin_wire.specs.declared.command.Command.{Command}
use Rattle.group_calls.specs.declared.ask.Ask.{Ask}
use Rattle.group_calls.specs.declared.ask.Ask.TheVariants.{Owner, Queue, Member}
use Rattle.group_calls.specs.declared.ask.Told.{Told}
use Rattle.group_calls.specs.declared.ask.Told.TheVariants.{Owner as FromOwner, Queue as FromQueue, Member as FromMember, NoMemory}
use Rattle.group_calls.specs.declared.owner.OwnerCall.{OwnerCall}
use Rattle.group_calls.specs.declared.owner.OwnerCall.TheVariants.{SetVfs, Judge, Gone as IsGone, Reset as ResetOwner}
use Rattle.group_calls.specs.declared.owner.OwnerReply.{OwnerReply}
use Rattle.group_calls.specs.declared.owner.OwnerReply.TheVariants.{List as Listed, Used, Refused, Legacy, Done}
use Rattle.group_calls.specs.declared.queue.RingCall.{RingCall}
use Rattle.group_calls.specs.declared.queue.RingCall.TheVariants.{Post, Pop, Complete, Take, Reset}
use Rattle.group_calls.specs.declared.queue.RingReply.{RingReply}
use Rattle.group_calls.specs.declared.queue.RingReply.TheVariants.{Seq, Full, Closed, Fetched as Fetches, Empty, InService, Completed, Stale, Ready, NotYet, Lost, ResetDone}
use Rattle.group_calls.specs.declared.member.MemberReply.{MemberReply}
use Rattle.group_calls.specs.declared.member.MemberReply.TheVariants.{Data, Written, Info as IsInfo, Refused as RefusedIt, Gone, Served, Empty as NoChain, NotPending, Halted, Dropped, Irqs, Arrived, BacklogFull, Killed}
use Rattle.group_calls.specs.Asks.{Exchange}
use Rattle.admin_wire.specs.declared.done.DoneParts.{DoneParts}
use Rattle.admin_wire.specs.Done.{parts_of}
use Rattle.group_calls.specs.Owner.{OwnerEntry, owner_may, owner_answer, is_reset, count_set, vf_count, is_away, refused as refused_as, supported_list, sr_iov, largest_opcode, is_used, invalid_member, verdict_on, IsLegalOwner}
use Rattle.group_calls.specs.Queue.{RingEntry, Posted, posted, posted_by, earliest, command, completion, outstanding, in_service, is_closed, is_fetched, is_old, is_taken, take_completed, take_posted, pop_answer, queue_answer, queue_may, IsLegalQueue}
use Rattle.queue_laws.proofs.Entries.{posted_call, fetch_told}
use Rattle.serve_machine.specs.declared.stage.Fetched.{Fetched}
use Rattle.serve_machine.specs.declared.stage.Stage.{Stage}
use Rattle.serve_machine.specs.declared.stage.Stage.TheVariants.{Popping, Judging, Acting, Completing, Ended}
use Rattle.serve_machine.specs.Service.{next_ask as service_ask, after as service_after, after_pop, after_judge}
use Rattle.vfio_driver.specs.declared.access.Answer.{Answer}
use Rattle.vfio_driver.specs.declared.access.Answer.TheVariants.{Data as IsData, Written as IsWritten, Ones, RefusedFull, RefusedMemory}
use Rattle.vfio_driver.specs.declared.access.Stage.{Stage as AccessStage}
use Rattle.vfio_driver.specs.declared.access.Stage.TheVariants.{Nothing, Ringing, Posting, Taking}
use Rattle.vfio_driver.specs.declared.access.Known.{Known}
use Rattle.vfio_driver.specs.declared.access.After.{After}
use Rattle.vfio_driver.specs.Access.{next_ask as access_ask, after as access_turned, after_done as completed}
use Rattle.vfio_driver.specs.declared.bring_stage.BringCommand.{BringCommand}
use Rattle.vfio_driver.specs.declared.bring_stage.BringCommand.TheVariants.{Query, Use, Info}
use Rattle.vfio_driver.specs.declared.bring_stage.BringStage.{BringStage}
use Rattle.vfio_driver.specs.declared.bring_stage.BringStage.TheVariants.{Posting as PostingStep, Taking as TakingStep, Over}
use Rattle.vfio_driver.specs.Bring.{next_ask as bring_ask, after as bring_turned, command_room}
use Rattle.host_machine.specs.declared.stage.Stage.{Stage as HostStage}
use Rattle.host_machine.specs.declared.stage.Stage.TheVariants.{Delivering, Restarting, Disabling, Leaving, Killing, Resetting, Closing, Ended as HostEnded}
use Rattle.host_machine.specs.Machine.{ask_on, floor_of, killing, closing, after_stage}
use Rattle.board_script.specs.Script.{Whole}
use Rattle.board_script.specs.Bounds.{IsScript}
use Rattle.journal.specs.Lines.{Line, members_of}
use Rattle.journal.specs.Knowing.{knows}
use Rattle.journal.specs.Doing.{Doing, asks, accesses, brings, serves, empties, hosts, steps, done, own_ask, raised, doing_ask, after, refused, answered, access_goes_on, bring_goes_on, emptying, is_empty, is_quiet, service_meanwhile, ends_steps}
use Rattle.journal.specs.Performing.{Performed, all_asked, begins, doing, next_ask}
use Rattle.journal.specs.Journals.{Journal, IsGuestOf}
use Rattle.journal.specs.Worlds.{first}
use Rattle.world_laws.proofs.Fine.{StageFine, OpenFine, HostFine, PlainFine, DoingFine}
use Rattle.world_laws.proofs.Nexts.{some_is, or_cases}
use Rattle.world_laws.proofs.Beginnings.{LineFine, begun_fine}
use Rattle.asking_laws.specs.Laws.{AskIn}
use Rattle.asking_laws.proofs.Group.{next_in}
use Rattle.actor_drive.specs.Bounds.{OwnerNear, QueueNear, IsOfGroup, OwnerTells, QueueTells, ToldNear, AreToldNear}

-- ---- how far a line is

abbrev StageNear : Whole → Stage → Type 0
StageNear s (Judging fetched bytes) = fetched.writable ≤ writable_limit
StageNear s (Acting fetched member access) = IsGuestOf s member
StageNear s _ = Unit {0}

abbrev OpenNear : Whole → ℕ → AccessStage → Type 0
OpenNear s who (Ringing number) = IsGuestOf s who
OpenNear s who (Posting k bytes writable reads) = writable ≤ writable_limit
OpenNear s who _ = Unit {0}

abbrev HostNear : Whole → List ℕ → HostStage → Type 0
HostNear s floors (Delivering member frame) = IsGuestOf s member
HostNear s floors (Restarting member) = IsGuestOf s member
HostNear s floors (Disabling member) = IsGuestOf s member
HostNear s floors Killing = length floors < members_of s
HostNear s floors _ = Unit {0}

abbrev DoingNear : Whole → ℕ → Doing → Type 0
DoingNear s who (asks ask) = PlainFine s ask
DoingNear s who (accesses queue once access service) = OpenNear s who access × StageNear s service
DoingNear s who (brings member way service) = StageNear s service
DoingNear s who (serves queue service) = StageNear s service
DoingNear s who (empties queue service) = StageNear s service
DoingNear s who (hosts going) = HostNear s going.floors going.stage
DoingNear s who (steps member queue left) = IsGuestOf s member
DoingNear s who done = Unit {0}

-- the numbers of an ask are within the limits, and its member is one of the group
abbrev AskNear : Whole → Ask → Type 0
AskNear s (Owner call) = OwnerNear s call
AskNear s (Queue k call) = QueueNear call
AskNear s (Member m floor call) = IsGuestOf s m

either : {X : Type 0} (P : X → Type 0) (b : Bool) (x y : X) → P x → P y → P (cond b x y)
either P true x y f g = f
either P false x y f g = g

-- ---- a line begins

module _ (s : Whole) (j : Journal) (who : ℕ) where
  stage_of : (k : ℕ) (stage : Stage) → StageFine s j k stage → StageNear s stage
  stage_of k Popping x = tt
  stage_of k Ended x = tt
  stage_of k (Judging fetched bytes) x = x.few
  stage_of k (Acting fetched member access) x = x.member
  stage_of k (Completing seq bytes floor) x = tt

  open_of : (access : AccessStage) → OpenFine s j who access → OpenNear s who access
  open_of Nothing x = tt
  open_of (Ringing number) x = x
  open_of (Posting k bytes writable reads) x = x.1
  open_of (Taking k seq reads) x = tt

  host_of : (floors : List ℕ) (way : HostStage) → HostFine s j floors way → HostNear s floors way
  host_of floors (Delivering member frame) x = x
  host_of floors (Restarting member) x = x
  host_of floors (Disabling member) x = x
  host_of floors (Leaving member floor) x = tt
  host_of floors Killing x = x
  host_of floors Resetting x = tt
  host_of floors (Closing queue) x = tt
  host_of floors HostEnded x = tt

  doing_of : (d : Doing) → DoingFine s j who d → DoingNear s who d
  doing_of (asks ask) x = x
  doing_of (accesses queue once access service) x = (open_of access x.0, stage_of queue service x.1)
  doing_of (brings member way service) x = stage_of 0 service x.3
  doing_of (serves queue service) x = stage_of queue service x
  doing_of (empties queue service) x = stage_of queue service x
  doing_of (hosts going) x = host_of going.floors going.stage x.1
  doing_of (steps member queue left) x = x
  doing_of done x = tt

begins_near : (s : Whole) (script : IsScript s) (who : ℕ) (past : List Performed) (line : Line) → LineFine s who line → DoingNear s who (begins s who past line)
begins_near s script who past line fine = doing_of s first who (begins s who past line) (begun_fine s script first who past line fine)

-- ---- what is asked next

module _ (s : Whole) (who : ℕ) where
  is : (a b : Ask) → Some a ≡ Some b → AskNear s a → AskNear s b
  is a b e f = subst (AskNear s) (some_is a b e) f

  service_near : (k : ℕ) (stage : Stage) (ask : Ask) → StageNear s stage → service_ask k stage ≡ Some ask → AskNear s ask
  service_near k Popping ask x e = is _ ask e tt
  service_near k (Judging fetched bytes) ask x e = is _ ask e x
  service_near k (Acting fetched member access) ask x e = is _ ask e x
  service_near k (Completing seq bytes floor) ask x e = is _ ask e tt
  service_near k Ended ask x e = absurd (cc)

  access_near : (known : Known) (access : AccessStage) (ask : Ask) → OpenNear s who access → access_ask who known access ≡ Some ask → AskNear s ask
  access_near known Nothing ask x e = absurd (cc)
  access_near known (Ringing number) ask x e = is _ ask e x
  access_near known (Posting k bytes writable reads) ask x e = is _ ask e x
  access_near known (Taking k seq reads) ask x e = is _ ask e tt

  room : (step : BringCommand) → command_room step ≤ writable_limit
  room Query = omega arith
  room Use = omega arith
  room Info = omega arith

  bring_near : (member : ℕ) (way : BringStage) (ask : Ask) → bring_ask member way ≡ Some ask → AskNear s ask
  bring_near member (PostingStep step) ask e = is _ ask e (room step)
  bring_near member (TakingStep step seq) ask e = is _ ask e tt
  bring_near member (Over brought) ask e = absurd (cc)

  host_near : (floors : List ℕ) (way : HostStage) (ask : Ask) → HostNear s floors way → ask_on floors way ≡ Some ask → AskNear s ask
  host_near floors (Delivering member frame) ask x e = is _ ask e x
  host_near floors (Restarting member) ask x e = is _ ask e x
  host_near floors (Disabling member) ask x e = is _ ask e x
  host_near floors (Leaving member floor) ask x e = is _ ask e tt
  host_near floors Killing ask x e = is _ ask e (omega arith, omega (arith, x))
  host_near floors Resetting ask x e = is _ ask e tt
  host_near floors (Closing queue) ask x e = is _ ask e tt
  host_near floors HostEnded ask x e = absurd (cc)

  plain_near : (ask : Ask) → PlainFine s ask → AskNear s ask
  plain_near (Owner (SetVfs count)) x = x
  plain_near (Owner (Judge bytes writable)) x = absurd x
  plain_near (Owner (IsGone m floor)) x = absurd x
  plain_near (Owner (ResetOwner floors)) x = absurd x
  plain_near (Member m floor call) x = x.0
  plain_near (Queue k call) x = absurd x

  own_near : (known : Known) (d : Doing) (ask : Ask) → DoingNear s who d → own_ask who known d ≡ Some ask → AskNear s ask
  own_near known (asks own) ask x e = is _ ask e (plain_near own x)
  own_near known (accesses queue once access service) ask x e = elim (or_cases (service_ask queue service) (access_ask who known access) ask e) [
    | inl a ↦ service_near queue service ask x.1 a
    | inr a ↦ access_near known access ask x.0 a
  ]
  own_near known (brings member way service) ask x e = elim (or_cases (service_ask 0 service) (bring_ask member way) ask e) [
    | inl a ↦ service_near 0 service ask x a
    | inr a ↦ bring_near member way ask a
  ]
  own_near known (serves queue service) ask x e = service_near queue service ask x e
  own_near known (empties queue service) ask x e = service_near queue service ask x e
  own_near known (hosts going) ask x e = host_near going.floors going.stage ask x e
  own_near known (steps member queue zero) ask x e = absurd (cc)
  own_near known (steps member queue (suc left)) ask x e = is _ ask e x
  own_near known done ask x e = absurd (cc)

  raised_near : (known : ℕ → Known) (ask : Ask) → AskNear s ask → AskNear s (raised known ask)
  raised_near known (Owner call) x = x
  raised_near known (Queue k call) x = x
  raised_near known (Member m floor call) x = x

  ask_near : (known : ℕ → Known) (d : Doing) (ask : Ask) → DoingNear s who d → doing_ask who known d ≡ Some ask → AskNear s ask
  ask_near known d ask x e = go (own_ask who (known who) d) refl e
    where
      go : (o : Option Ask) → own_ask who (known who) d ≡ o → option_map (raised known) o ≡ Some ask → AskNear s ask
      go None own e = absurd (cc)
      go (Some own) from e = is _ ask e (raised_near known own (own_near (known who) d own x from))

-- ---- after an answer

module _ (s : Whole) (who : ℕ) where
  pop_near : (reply : RingReply) (at : ℕ) → QueueTells reply → StageNear s (after_pop (FromQueue (record { at = at; reply = reply })))
  pop_near (Fetches seq bytes writable tag) at t = t
  pop_near (Seq seq) at t = tt
  pop_near Full at t = tt
  pop_near (Closed floor) at t = tt
  pop_near Empty at t = tt
  pop_near (InService seq) at t = tt
  pop_near Completed at t = tt
  pop_near Stale at t = tt
  pop_near (Ready bytes floor) at t = tt
  pop_near NotYet at t = tt
  pop_near (Lost floor) at t = tt
  pop_near ResetDone at t = tt

  popped_near : (told : Told) → ToldNear s told → StageNear s (after_pop told)
  popped_near (FromQueue placed) t = pop_near placed.reply placed.at t
  popped_near (FromOwner placed) t = tt
  popped_near (FromMember placed) t = tt
  popped_near NoMemory t = tt

  judge_near : (fetched : Fetched) (reply : OwnerReply) (at : ℕ) → OwnerTells s reply → StageNear s (after_judge fetched (FromOwner (record { at = at; reply = reply })))
  judge_near fetched (Legacy m access) at t = t
  judge_near fetched (Listed bits) at t = tt
  judge_near fetched Used at t = tt
  judge_near fetched (Refused status qualifier floor) at t = tt
  judge_near fetched Done at t = tt

  judged_near : (fetched : Fetched) (told : Told) → ToldNear s told → StageNear s (after_judge fetched told)
  judged_near fetched (FromOwner placed) t = judge_near fetched placed.reply placed.at t
  judged_near fetched (FromQueue placed) t = tt
  judged_near fetched (FromMember placed) t = tt
  judged_near fetched NoMemory t = tt

  service_after_near : (stage : Stage) (told : Told) → ToldNear s told → StageNear s (service_after stage told)
  service_after_near Popping told t = popped_near told t
  service_after_near (Judging fetched bytes) told t = judged_near fetched told t
  service_after_near (Acting fetched member access) told t = tt
  service_after_near (Completing seq bytes floor) told t = tt
  service_after_near Ended told t = tt

  emptying_near : (stage : Stage) (told : Told) → StageNear s stage → StageNear s (emptying stage told)
  emptying_near Ended told x = either (StageNear s) (is_empty told) Ended Popping tt tt
  emptying_near Popping told x = x
  emptying_near (Judging fetched bytes) told x = x
  emptying_near (Acting fetched member access) told x = x
  emptying_near (Completing seq bytes floor) told x = x

  meanwhile_near : (told : Told) → StageNear s (service_meanwhile told)
  meanwhile_near told = either (StageNear s) (is_quiet told) Popping Ended tt tt

  killing_near : (floors : List ℕ) → HostNear s floors (killing (members_of s) floors)
  killing_near floors = go (nat_lt (length floors) (members_of s)) refl
    where
      go : (b : Bool) → nat_lt (length floors) (members_of s) ≡ b → HostNear s floors (cond b Killing Resetting)
      go true is = grind (arith, nat_tests, is)
      go false is = tt

  closing_near : (queues queue : ℕ) (floors : List ℕ) → HostNear s floors (closing queues queue)
  closing_near queues queue floors = either (HostNear s floors) (nat_lt queue queues) (Closing queue) HostEnded tt tt

  way_near : (queues : ℕ) (floors : List ℕ) (way : HostStage) (told : Told) → DoingNear s who (hosts (after_stage (members_of s) queues floors way told))
  way_near queues floors (Delivering member frame) told = tt
  way_near queues floors (Restarting member) told = tt
  way_near queues floors (Disabling member) told = tt
  way_near queues floors (Leaving member floor) told = tt
  way_near queues floors Killing told = killing_near (floors ++ floor_of told ∷ [])
  way_near queues floors Resetting told = closing_near queues 0 floors
  way_near queues floors (Closing queue) told = closing_near queues (queue + 1) floors
  way_near queues floors HostEnded told = tt

  access_turned_near : (known : Known) (access : AccessStage) (told : Told) → OpenNear s who access → OpenNear s who (access_turned known access told).stage
  access_turned_near known Nothing told x = tt
  access_turned_near known (Ringing number) told x = rung known told
    where
      rung : (known : Known) (told : Told) → OpenNear s who (access_turned known (Ringing number) told).stage
      rung known (FromMember placed) = go placed.at placed.reply
        where
          go : (at : ℕ) (reply : MemberReply) → OpenNear s who (access_turned known (Ringing number) (FromMember (record { at = at; reply = reply }))).stage
          go at (Data bytes) = tt
          go at Written = tt
          go at IsInfo = tt
          go at (RefusedIt why) = tt
          go at (Gone floor) = tt
          go at (Served count irq sent) = tt
          go at NoChain = tt
          go at NotPending = tt
          go at (Halted halt) = tt
          go at Dropped = tt
          go at (Irqs mask) = tt
          go at Arrived = tt
          go at BacklogFull = tt
          go at Killed = tt
      rung known (FromOwner placed) = tt
      rung known (FromQueue placed) = tt
      rung known NoMemory = tt
  access_turned_near known (Posting k bytes writable reads) told x = posted told
    where
      posted : (told : Told) → OpenNear s who (access_turned known (Posting k bytes writable reads) told).stage
      posted (FromQueue placed) = go placed.at placed.reply
        where
          go : (at : ℕ) (reply : RingReply) → OpenNear s who (access_turned known (Posting k bytes writable reads) (FromQueue (record { at = at; reply = reply }))).stage
          go at (Seq seq) = tt
          go at Full = tt
          go at (Closed floor) = tt
          go at (Fetches seq b w tag) = tt
          go at Empty = tt
          go at (InService seq) = tt
          go at Completed = tt
          go at Stale = tt
          go at (Ready b floor) = tt
          go at NotYet = tt
          go at (Lost floor) = tt
          go at ResetDone = tt
      posted (FromOwner placed) = tt
      posted (FromMember placed) = tt
      posted NoMemory = tt
  access_turned_near known (Taking k seq reads) told x = took told
    where
      closed : (reads : Bool) (parts : DoneParts) (known : Known) → (completed known reads parts).stage ≡ Nothing
      closed reads parts known =
          let P : After → Type 0 = λ t. t.stage ≡ Nothing in
          either P (parts.status == 0) _ _ (either P reads _ _ refl refl) (either P (parts.status == 12) _ _ refl (either P (parts.qualifier == 2) _ _ refl refl))

      took : (told : Told) → OpenNear s who (access_turned known (Taking k seq reads) told).stage
      took (FromQueue placed) = go placed.at placed.reply
        where
          go : (at : ℕ) (reply : RingReply) → OpenNear s who (access_turned known (Taking k seq reads) (FromQueue (record { at = at; reply = reply }))).stage
          go at (Seq other) = tt
          go at Full = tt
          go at (Closed floor) = tt
          go at (Fetches other b w tag) = tt
          go at Empty = tt
          go at (InService other) = tt
          go at Completed = tt
          go at Stale = tt
          go at (Ready bytes floor) = subst (OpenNear s who) (sym (closed reads (parts_of bytes) _)) tt
          go at NotYet = tt
          go at (Lost floor) = tt
          go at ResetDone = tt
      took (FromOwner placed) = tt
      took (FromMember placed) = tt
      took NoMemory = tt

  refused_near : (queue : ℕ) (once : Bool) (access : AccessStage) → OpenNear s who access → DoingNear s who (refused queue once access)
  refused_near queue true access x = tt
  refused_near queue false access x = (x, tt)

  answered_near : (queue : ℕ) (once : Bool) (access : AccessStage) (answer : Answer) → OpenNear s who access → DoingNear s who (answered queue once access answer)
  answered_near queue once access (RefusedFull full at) x = refused_near queue once access x
  answered_near queue once access (IsData bytes) x = tt
  answered_near queue once access IsWritten x = tt
  answered_near queue once access Ones x = tt
  answered_near queue once access RefusedMemory x = tt

  goes_on_near : (queue : ℕ) (once : Bool) (access : AccessStage) (turned : After) (told : Told) → OpenNear s who access → OpenNear s who turned.stage → DoingNear s who (access_goes_on queue once access turned told)
  goes_on_near queue once access turned told x y = go turned.answer
    where
      go : (o : Option Answer) → DoingNear s who (elim o [ None ↦ accesses queue once turned.stage (service_meanwhile told) | Some answer ↦ answered queue once access answer ])
      go None = (y, meanwhile_near told)
      go (Some answer) = answered_near queue once access answer x

  brings_near : (member : ℕ) (way : BringStage) (told : Told) → DoingNear s who (bring_goes_on member way told)
  brings_near member (Over brought) told = tt
  brings_near member (PostingStep step) told = meanwhile_near told
  brings_near member (TakingStep step seq) told = meanwhile_near told

  after_near : (known : Known) (d : Doing) (told : Told) → DoingNear s who d → ToldNear s told → DoingNear s who (after s known d told)
  after_near known (asks ask) told x t = tt
  after_near known (accesses queue once access Ended) told x t = goes_on_near queue once access (access_turned known access told) told x.0 (access_turned_near known access told x.0)
  after_near known (accesses queue once access Popping) told x t = (x.0, service_after_near Popping told t)
  after_near known (accesses queue once access (Judging fetched bytes)) told x t = (x.0, service_after_near (Judging fetched bytes) told t)
  after_near known (accesses queue once access (Acting fetched member act)) told x t = (x.0, tt)
  after_near known (accesses queue once access (Completing seq bytes floor)) told x t = (x.0, tt)
  after_near known (brings member way Ended) told x t = brings_near member (bring_turned way told) told
  after_near known (brings member way Popping) told x t = service_after_near Popping told t
  after_near known (brings member way (Judging fetched bytes)) told x t = service_after_near (Judging fetched bytes) told t
  after_near known (brings member way (Acting fetched m act)) told x t = tt
  after_near known (brings member way (Completing seq bytes floor)) told x t = tt
  after_near known (serves queue service) told x t = service_after_near service told t
  after_near known (empties queue service) told x t = emptying_near (service_after service told) told (service_after_near service told t)
  after_near known (hosts going) told x t = way_near s.board.queues going.floors going.stage told
  after_near known (steps member queue zero) told x t = x
  after_near known (steps member queue (suc left)) told x t = either (DoingNear s who) (ends_steps told) done (steps member queue left) tt x
  after_near known done told x t = tt

-- ---- a line with its exchanges

doing_near : (s : Whole) (script : IsScript s) (who : ℕ) (past : List Performed) (line : Line) (asked : List Exchange) → LineFine s who line → AreToldNear s asked → DoingNear s who (doing s who past line asked)
doing_near s script who past line [] fine told = begins_near s script who past line fine
doing_near s script who past line (x ∷ asked) fine told = after_near s who (knows who who (asked ++ all_asked past)) (doing s who past line asked) x.1 (doing_near s script who past line asked fine told.1) told.0

of_group : (s : Whole) (ask : Ask) → AskNear s ask → AskIn s ask → IsOfGroup s ask
of_group s (Owner call) near within = near
of_group s (Queue k call) near within = (within, near)
of_group s (Member m floor call) near within = near

pub next_of_group : (s : Whole) (script : IsScript s) (who : ℕ) (past : List Performed) (line : Line) (asked : List Exchange) (ask : Ask) → LineFine s who line → AreToldNear s asked → next_ask s who past line asked ≡ Some ask → IsOfGroup s ask
next_of_group s script who past line asked ask fine told next =
    of_group s ask (ask_near s who (λ m. knows who m (asked ++ all_asked past)) (doing s who past line asked) ask (doing_near s script who past line asked fine told) next) (next_in s script who past line asked ask fine next)

-- ---- what the group's cells tell

-- an owner made for so many members has no more
counted : (members : ℕ) (h : List OwnerEntry) → IsLegalOwner members h → vf_count h ≤ members
counted members [] legal = omega arith
counted members (e ∷ past) legal = go e.call legal.2 (is_reset e) (counted members past legal.3)
  where
    go : (call : OwnerCall) → owner_may members e.who call → (b : Bool) → vf_count past ≤ members
        → latest_or 0 count_set (cond b [] (record { who = e.who; call = call; reply = e.reply } ∷ after_latest is_reset past)) ≤ members
    go call may true le = omega arith
    go (SetVfs count) may false le = may.1
    go (Judge bytes writable) may false le = le
    go (IsGone member floor) may false le = le
    go (ResetOwner floors) may false le = le

pub owner_tells : (s : Whole) (h : List OwnerEntry) (call : OwnerCall) → IsLegalOwner (members_of s) h → OwnerTells s (owner_answer h call)
owner_tells s h (SetVfs count) legal = tt
owner_tells s h (IsGone member floor) legal = tt
owner_tells s h (ResetOwner floors) legal = tt
owner_tells s h (Judge bytes writable) legal =
    either P (not (c.group_type == sr_iov)) _ _ tt (either P (not (nat_le c.opcode largest_opcode && is_used h c.opcode)) _ _ tt (on c.body))
  where
    c : Command
    c = command_of bytes writable

    P : OwnerReply → Type 0
    P = OwnerTells s

    yes : (b1 b2 b3 : Bool) (access : _) → nat_lt 0 c.member ≡ b1 → nat_le c.member (vf_count h) ≡ b2 → P (cond (b1 && b2 && b3) (Legacy c.member access) (refused_as h c.member invalid_member))
    yes true true true access low high = (grind (arith, nat_tests, low), let most = counted (members_of s) h legal in let near : c.member ≤ vf_count h = grind (arith, nat_tests, high) in omega (arith, most, near))
    yes true true false access low high = tt
    yes true false b3 access low high = tt
    yes false b2 b3 access low high = tt

    on : (body : Body) → P (verdict_on h c.member body)
    on IsQuery = tt
    on (IsUse bits) = either P (nat_lt supported_list bits) _ _ tt tt
    on (ToMember access) = yes (nat_lt 0 c.member) (nat_le c.member (vf_count h)) (not (is_away h c.member)) access refl refl
    on Unknown = tt

-- each command of a queue has room within the limit
module _ (size : ℕ) where
  posted_near : (h : List RingEntry) (passes : Posted → Bool) (p : Posted) → IsLegalQueue size h → earliest passes (posted h) ≡ Some p → p.writable ≤ writable_limit
  posted_near [] passes p legal found = absurd (cc)
  posted_near (e ∷ past) passes p legal found = go (posted_by e) refl (λ deep. posted_near past passes p legal.3 deep) found
    where
      made : (q : Posted) → posted_by e ≡ Some q → q.writable ≤ writable_limit
      made q is = let call = posted_call e.who e.call e.reply q is in let may : queue_may size e.who (Post q.bytes q.writable q.tag) = subst (queue_may size e.who) call.0 legal.2 in may.1

      last : (b : Bool) (q : Posted) → posted_by e ≡ Some q → cond b (Some q) None ≡ Some p → p.writable ≤ writable_limit
      last true q is here = let same : q ≡ p = cc in subst (λ (x : Posted). x.writable ≤ writable_limit) same (made q is)
      last false q is here = absurd (cc)

      go : (o : Option Posted) → posted_by e ≡ o → (earliest passes (posted past) ≡ Some p → p.writable ≤ writable_limit) → earliest passes (elim (posted_by e) [ None ↦ posted past | Some q ↦ q ∷ posted past ]) ≡ Some p → p.writable ≤ writable_limit
      go None is before found = before (sym (ap (λ (o : Option Posted). earliest passes (elim o [ None ↦ posted past | Some q ↦ q ∷ posted past ])) is) ∙ found)
      go (Some q) is before found = elim (or_cases (earliest passes (posted past)) (cond (passes q) (Some q) None) p (sym (ap (λ (o : Option Posted). earliest passes (elim o [ None ↦ posted past | Some q ↦ q ∷ posted past ])) is) ∙ found)) [
        | inl deep ↦ before deep
        | inr here ↦ last (passes q) q is here
      ]

  popped : (h : List RingEntry) (r : RingReply) → IsLegalQueue size h → r ≡ pop_answer h → QueueTells r
  popped h (Fetches seq bytes writable tag) legal is =
      let f = fetch_told h (Fetches seq bytes writable tag) is refl in
      subst QueueTells (sym f.is) (posted_near h (λ p. not (is_fetched h p.seq)) f.from legal f.chosen)
  popped h (Seq seq) legal is = tt
  popped h Full legal is = tt
  popped h (Closed floor) legal is = tt
  popped h Empty legal is = tt
  popped h (InService seq) legal is = tt
  popped h Completed legal is = tt
  popped h Stale legal is = tt
  popped h (Ready bytes floor) legal is = tt
  popped h NotYet legal is = tt
  popped h (Lost floor) legal is = tt
  popped h ResetDone legal is = tt

  pub queue_tells : (h : List RingEntry) (call : RingCall) → IsLegalQueue size h → QueueTells (queue_answer size h call)
  queue_tells h (Post bytes writable tag) legal = either QueueTells (is_closed h) _ _ tt (either QueueTells (nat_le (size / 2) (length (outstanding h))) _ _ tt tt)
  queue_tells h Pop legal = popped h (pop_answer h) legal refl
  queue_tells h (Complete seq bytes floor) legal = either QueueTells (in_service h seq && not (is_closed h)) _ _ tt tt
  queue_tells h (Take seq) legal = took (command h seq)
    where
      completed_one : (p : Posted) (c : Option (List ℕ × ℕ)) → QueueTells (take_completed h p c)
      completed_one p (Some c) = tt
      completed_one p None = either QueueTells (is_old h p.seq) _ _ tt tt

      took : (o : Option Posted) → QueueTells (take_posted h o)
      took None = tt
      took (Some p) = either QueueTells (is_taken h p.seq) _ _ tt (completed_one p (completion h p.seq))
  queue_tells h (Reset floors) legal = tt
