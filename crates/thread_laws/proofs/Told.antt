-- Cells in which the board alone has entries: each of its answers is what its own earlier asks made them tell.
use Rattle.std.proofs.Common.{◌≡◌, ℕ, Bool, true, false, List, [], ◌∷◌, ◌++◌, refl, sym, ap, ◌∙◌, append_assoc, eq-eqb}
use Rattle.std.specs.List.{AllByRecursion}
use Rattle.std.proofs.lemmas.List.Elements.{filter_map-append}
use Rattle.history.specs.declared.entry.Placed.{Placed}
use Rattle.history.specs.Places.{calls_of}
use Rattle.history.specs.Legal.{never_quiet}
use Rattle.group_calls.specs.declared.ask.Ask.{Ask}
use Rattle.group_calls.specs.declared.ask.Ask.TheVariants.{Owner, Queue, Member}
use Rattle.group_calls.specs.declared.ask.Told.{Told}
use Rattle.group_calls.specs.declared.ask.Told.TheVariants.{Owner as FromOwner, Queue as FromQueue, Member as FromMember, NoMemory}
use Rattle.group_calls.specs.declared.owner.OwnerCall.{OwnerCall}
use Rattle.group_calls.specs.declared.queue.RingCall.{RingCall}
use Rattle.group_calls.specs.declared.queue.RingReply.{RingReply}
use Rattle.group_calls.specs.declared.member.MemberCall.{MemberCall}
use Rattle.group_calls.specs.declared.member.MemberReply.{MemberReply}
use Rattle.group_calls.specs.Asks.{Exchange, AnswersAsk}
use Rattle.group_calls.specs.Owner.{owner_answer, owner_may}
use Rattle.group_calls.specs.Queue.{RingEntry, queue_answer, queue_may, is_quiet_reply}
use Rattle.group_calls.specs.Member.{member_answer, member_may}
use Rattle.board_script.specs.Script.{Whole}
use Rattle.journal.specs.Lines.{members_of, made_of}
use Rattle.journal.specs.Cells.{entry_left, left_in_owner, left_in_queue, left_in_member, owner_part, queue_part, member_part}
use Rattle.journal.specs.Journals.{Journal, AreLegal, AreBoards, IsPlaced}
use Rattle.journal.specs.Worlds.{told}
use Rattle.actor_drive.specs.Driven.{AreLeft, AreHeard}
use Rattle.thread_laws.proofs.Alone.{entries, answer_left, answer_between}

-- the cells that these asks of the board made
abbrev pub cells_of : List Exchange → Journal
cells_of asked = record { owner = entries (owner_part 0 asked); queue = λ k. entries (queue_part 0 k asked); member = λ m. entries (member_part 0 m asked); past = λ who. [] }

-- each answer is what the earlier asks made the cells tell
abbrev pub AreTold : Whole → List Exchange → Type 0
AreTold s [] = Unit {0}
AreTold s (x ∷ earlier) = (x.1 ≡ told s (cells_of earlier) x.0) × AreTold s earlier

abbrev pub AreFitting : List Exchange → Type 0
AreFitting asked = AllByRecursion (λ x. AnswersAsk x.0 x.1 × IsPlaced x) asked

-- legal histories whose entries are what these asks of the board left
pub record IsAlone (s : Whole) (asked : List Exchange) (j : Journal) : Type 0 where
  pub legal : AreLegal s j
  pub owner : AreBoards j.owner
  pub queue : (k : ℕ) → AreBoards (j.queue k)
  pub member : (m : ℕ) → AreBoards (j.member m)
  pub left : AreLeft 0 asked j
  pub heard : AreHeard s j 0 asked

-- ---- the part of one exchange

member_now : (m floor : ℕ) (call : MemberCall) (placed : Placed MemberReply) (earlier : List Exchange) → member_part 0 m ((Member m floor call, FromMember placed) ∷ earlier) ≡ entry_left 0 call placed ∷ member_part 0 m earlier
member_now m floor call placed earlier = rw (eq-eqb m m refl) refl

loud_now : (k : ℕ) (call : RingCall) (placed : Placed RingReply) (earlier : List Exchange) → is_quiet_reply placed.reply ≡ false → queue_part 0 k ((Queue k call, FromQueue placed) ∷ earlier) ≡ entry_left 0 call placed ∷ queue_part 0 k earlier
loud_now k call placed earlier loud = rw (eq-eqb k k refl, loud) refl

quiet_now : (k : ℕ) (call : RingCall) (placed : Placed RingReply) (earlier : List Exchange) → is_quiet_reply placed.reply ≡ true → queue_part 0 k ((Queue k call, FromQueue placed) ∷ earlier) ≡ queue_part 0 k earlier
quiet_now k call placed earlier quiet = rw (eq-eqb k k refl, quiet) refl

-- ---- each answer

module _ (s : Whole) (asked : List Exchange) (j : Journal) (x : IsAlone s asked j) where
  owner_told : (later earlier : List Exchange) (call : OwnerCall) (t : Told) → asked ≡ later ++ (Owner call, t) ∷ earlier → AnswersAsk (Owner call) t → IsPlaced (Owner call, t) → t ≡ told s (cells_of earlier) (Owner call)
  owner_told later earlier call (FromOwner placed) is fits here =
      ap FromOwner (answer_left owner_answer never_quiet (owner_may (members_of s)) call placed (owner_part 0 earlier) (owner_part 0 later) j.owner x.owner x.legal.owner
      (sym x.left.owner ∙ (ap (owner_part 0) is ∙ filter_map-append (left_in_owner 0) later ((Owner call, FromOwner placed) ∷ earlier))))
  owner_told later earlier call (FromQueue placed) is fits here = absurd fits
  owner_told later earlier call (FromMember placed) is fits here = absurd fits
  owner_told later earlier call NoMemory is fits here = absurd here

  member_told : (later earlier : List Exchange) (m floor : ℕ) (call : MemberCall) (t : Told) → asked ≡ later ++ (Member m floor call, t) ∷ earlier → AnswersAsk (Member m floor call) t → IsPlaced (Member m floor call, t) → t ≡ told s (cells_of earlier) (Member m floor call)
  member_told later earlier m floor call (FromMember placed) is fits here =
      ap FromMember (answer_left (member_answer (made_of s m)) never_quiet (member_may (made_of s m)) call placed (member_part 0 m earlier) (member_part 0 m later) (j.member m) (x.member m) (x.legal.member m)
      (sym (x.left.member m) ∙ (ap (member_part 0 m) is ∙ (filter_map-append (left_in_member 0 m) later ((Member m floor call, FromMember placed) ∷ earlier) ∙ ap (λ l. member_part 0 m later ++ l) (member_now m floor call placed earlier)))))
  member_told later earlier m floor call (FromOwner placed) is fits here = absurd fits
  member_told later earlier m floor call (FromQueue placed) is fits here = absurd fits
  member_told later earlier m floor call NoMemory is fits here = absurd here

  -- the board's entries in a queue, by those of its later and its earlier asks
  queue_split : (later earlier : List Exchange) (k : ℕ) (call : RingCall) (placed : Placed RingReply) → asked ≡ later ++ (Queue k call, FromQueue placed) ∷ earlier → calls_of 0 (j.queue k) ≡ queue_part 0 k later ++ queue_part 0 k ((Queue k call, FromQueue placed) ∷ earlier)
  queue_split later earlier k call placed is = sym (x.left.queue k) ∙ (ap (queue_part 0 k) is ∙ filter_map-append (left_in_queue 0 k) later ((Queue k call, FromQueue placed) ∷ earlier))

  loud_told : (later earlier : List Exchange) (k : ℕ) (call : RingCall) (placed : Placed RingReply) → asked ≡ later ++ (Queue k call, FromQueue placed) ∷ earlier → is_quiet_reply placed.reply ≡ false → FromQueue placed ≡ told s (cells_of earlier) (Queue k call)
  loud_told later earlier k call placed is loud =
      ap FromQueue (answer_left (queue_answer s.board.queue_size) is_quiet_reply (queue_may s.board.queue_size) call placed (queue_part 0 k earlier) (queue_part 0 k later) (j.queue k) (x.queue k) (x.legal.queue k)
      (queue_split later earlier k call placed is ∙ ap (λ l. queue_part 0 k later ++ l) (loud_now k call placed earlier loud)))

  quiet_told : (later earlier : List Exchange) (k : ℕ) (call : RingCall) (placed : Placed RingReply) → asked ≡ later ++ (Queue k call, FromQueue placed) ∷ earlier → is_quiet_reply placed.reply ≡ true → FromQueue placed ≡ told s (cells_of earlier) (Queue k call)
  quiet_told later earlier k call placed is quiet =
      let heard = x.heard k call placed later earlier is in
      let both = answer_between (queue_part 0 k earlier) placed.at (queue_part 0 k later) (j.queue k) (x.queue k) (queue_split later earlier k call placed is ∙ ap (λ l. queue_part 0 k later ++ l) (quiet_now k call placed earlier quiet)) heard.exists heard.behind heard.before_others in
      let reply : placed.reply ≡ queue_answer s.board.queue_size (entries (queue_part 0 k earlier)) call = heard.reply ∙ ap (λ (h : List RingEntry). queue_answer s.board.queue_size h call) both.1 in
      λ i. FromQueue (record { at = both.0 i; reply = reply i })

  queue_told : (later earlier : List Exchange) (k : ℕ) (call : RingCall) (t : Told) → asked ≡ later ++ (Queue k call, t) ∷ earlier → AnswersAsk (Queue k call) t → IsPlaced (Queue k call, t) → t ≡ told s (cells_of earlier) (Queue k call)
  queue_told later earlier k call (FromQueue placed) is fits here = go (is_quiet_reply placed.reply) refl
    where
      go : (b : Bool) → is_quiet_reply placed.reply ≡ b → FromQueue placed ≡ told s (cells_of earlier) (Queue k call)
      go true quiet = quiet_told later earlier k call placed is quiet
      go false loud = loud_told later earlier k call placed is loud
  queue_told later earlier k call (FromOwner placed) is fits here = absurd fits
  queue_told later earlier k call (FromMember placed) is fits here = absurd fits
  queue_told later earlier k call NoMemory is fits here = absurd here

  ask_told : (later earlier : List Exchange) (ask : Ask) (t : Told) → asked ≡ later ++ (ask, t) ∷ earlier → AnswersAsk ask t → IsPlaced (ask, t) → t ≡ told s (cells_of earlier) ask
  ask_told later earlier (Owner call) t is fits here = owner_told later earlier call t is fits here
  ask_told later earlier (Queue k call) t is fits here = queue_told later earlier k call t is fits here
  ask_told later earlier (Member m floor call) t is fits here = member_told later earlier m floor call t is fits here

  told_since : (later xs : List Exchange) → asked ≡ later ++ xs → AreFitting xs → AreTold s xs
  told_since later [] is fits = tt
  told_since later (y ∷ xs) is fits = (ask_told later xs y.0 y.1 is fits.0.0 fits.0.1, told_since (later ++ y ∷ []) xs (is ∙ sym (append_assoc later (y ∷ []) xs)) fits.1)

  pub all_told : AreFitting asked → AreTold s asked
  all_told fits = told_since [] asked refl fits
