-- Why a command is completed with its status.
use Rattle.std.proofs.Common.{◌≡◌, ℕ, ◌^◌, ◌<◌, ◌≤◌, List, [], ◌∷◌, length, None, refl, sym, subst, arith, lit<}
use Rattle.byte_fields.specs.Places.{le16, bytes_of}
use Rattle.admin_wire.specs.Done.{done_of}
use Rattle.admin_wire.proofs.ReadAgain.{status_back}
use Rattle.group_calls.specs.declared.ask.Ask.TheVariants.{Queue}
use Rattle.group_calls.specs.declared.ask.Told.{Told}
use Rattle.group_calls.specs.declared.ask.Told.TheVariants.{Owner as FromOwner, Queue as FromQueue, Member as FromMember, NoMemory}
use Rattle.group_calls.specs.declared.owner.OwnerReply.{OwnerReply}
use Rattle.group_calls.specs.declared.owner.OwnerReply.TheVariants.{Done, List as Listed, Used, Refused, Legacy}
use Rattle.group_calls.specs.declared.queue.RingCall.TheVariants.{Complete}
use Rattle.group_calls.specs.declared.member.MemberReply.{MemberReply}
use Rattle.group_calls.specs.declared.member.MemberReply.TheVariants.{Data, Written, Info, Refused as RefusedIt, Gone}
use Rattle.group_calls.specs.Asks.{AnswersAsk, Exchange, AreAnswered}
use Rattle.group_calls.specs.Queue.{Posted}
use Rattle.serve_machine.specs.Completion.{info, completed_with, completed_under}
use Rattle.serve_machine.specs.Grammar.{passed_on, IsService, finds_nothing, is_decided, is_carried_out}
use Rattle.serve_machine.specs.Causes.{IsPerformed, IsRefused, HasItsCause}
use Rattle.serve_machine.proofs.Replies.{IsVerdict, IsJudgeTold, judge_told, IsActReply, IsMemberTold, act_answered}

-- ---- statuses

good : (told : Told) → IsPerformed told → (IsRefused told → ⊥) → (told ≡ NoMemory → ⊥) → HasItsCause 0 told
good told performed refused none = ((λ e. absurd (omega arith), λ e. absurd (none e)), (λ e. performed, λ p. refl), (λ e. absurd (omega arith), λ r. absurd (refused r)))

bad : (told : Told) → IsRefused told → (IsPerformed told → ⊥) → (told ≡ NoMemory → ⊥) → HasItsCause 22 told
bad told refused performed none = ((λ e. absurd (omega arith), λ e. absurd (none e)), (λ e. absurd (omega arith), λ p. absurd (performed p)), (λ e. refused, λ r. refl))

wanting : HasItsCause 12 NoMemory
wanting = ((λ e. refl, λ e. refl), (λ e. absurd (omega arith), λ p. absurd p), (λ e. absurd (omega arith), λ r. absurd r))

-- the status is in the bytes
shown : (status qualifier : ℕ) (payload : List ℕ) (writable : ℕ) (told : Told) → status < 2 ^ 16 → HasItsCause status told → 2 ≤ length (done_of status qualifier payload writable) → HasItsCause (le16 0 (done_of status qualifier payload writable)) told
shown status qualifier payload writable told small cause room = subst (λ (s : ℕ). HasItsCause s told) (sym (status_back status qualifier payload writable small room)) cause

abbrev IsShown : Told → ℕ → Type 0
IsShown told writable = 2 ≤ length (completed_with told writable) → HasItsCause (le16 0 (completed_with told writable)) told

-- ---- by the answer that decides

verdict_shown : (at writable : ℕ) (reply : OwnerReply) → IsVerdict reply → passed_on (FromOwner (record { at = at; reply = reply })) ≡ None → IsShown (FromOwner (record { at = at; reply = reply })) writable
verdict_shown at writable Done kind passed = absurd kind
verdict_shown at writable (Listed bits) kind passed = shown 0 0 (bytes_of 8 bits) writable _ (lit< tt) (good _ tt (λ r. r) (λ e. absurd (cc)))
verdict_shown at writable Used kind passed = shown 0 0 [] writable _ (lit< tt) (good _ tt (λ r. r) (λ e. absurd (cc)))
verdict_shown at writable (Refused status qualifier floor) kind passed =
    subst (λ (s : ℕ). IsShown (FromOwner (record { at = at; reply = Refused s qualifier floor })) writable) (sym kind)
    (shown 22 qualifier [] writable _ (lit< tt) (bad _ tt (λ p. p) (λ e. absurd (cc))))
verdict_shown at writable (Legacy member access) kind passed = absurd (cc)

judge_shown : (told : Told) (writable : ℕ) → IsJudgeTold told → passed_on told ≡ None → IsShown told writable
judge_shown (FromOwner placed) writable kind passed = verdict_shown placed.at writable placed.reply kind passed
judge_shown NoMemory writable kind passed = shown 12 0 [] writable NoMemory (lit< tt) wanting
judge_shown (FromQueue placed) writable kind passed = absurd kind
judge_shown (FromMember placed) writable kind passed = absurd kind

reply_shown : (at writable : ℕ) (reply : MemberReply) → IsActReply reply → IsShown (FromMember (record { at = at; reply = reply })) writable
reply_shown at writable (Data bytes) kind = shown 0 0 bytes writable _ (lit< tt) (good _ tt (λ r. r) (λ e. absurd (cc)))
reply_shown at writable Written kind = shown 0 0 [] writable _ (lit< tt) (good _ tt (λ r. r) (λ e. absurd (cc)))
reply_shown at writable Info kind = shown 0 0 info writable _ (lit< tt) (good _ tt (λ r. r) (λ e. absurd (cc)))
reply_shown at writable (RefusedIt why) kind = shown 22 2 [] writable _ (lit< tt) (bad _ tt (λ p. p) (λ e. absurd (cc)))
reply_shown at writable (Gone floor) kind = shown 22 4 [] writable _ (lit< tt) (bad _ tt (λ p. p) (λ e. absurd (cc)))
reply_shown at writable _ kind = absurd kind

act_shown : (told : Told) (writable : ℕ) → IsMemberTold told → IsShown told writable
act_shown (FromMember placed) writable kind = reply_shown placed.at writable placed.reply kind
act_shown NoMemory writable kind = shown 12 0 [] writable NoMemory (lit< tt) wanting
act_shown (FromOwner placed) writable kind = absurd kind
act_shown (FromQueue placed) writable kind = absurd kind

-- ---- in a service

-- the latest but one decides what the latest completes
abbrev HasCauses : ℕ → List Exchange → Type 0
HasCauses k [] = Unit {0}
HasCauses k (x ∷ []) = Unit {0}
HasCauses k (complete ∷ decides ∷ past) = (seq floor : ℕ) (bytes : List ℕ) → complete.0 ≡ Queue k (Complete seq bytes floor) → 2 ≤ length bytes → HasItsCause (le16 0 bytes) decides.1

same_bytes : (k seq floor s f : ℕ) (bytes whole : List ℕ) → Queue k (Complete seq bytes floor) ≡ Queue k (Complete s whole f) → whole ≡ bytes
same_bytes k seq floor s f bytes whole e = cc

decided_so : (k : ℕ) (p : Posted) (decides complete : Exchange) → IsShown decides.1 p.writable → complete.0 ≡ Queue k (Complete p.seq (completed_with decides.1 p.writable) (completed_under p.tag.floor decides.1))
    → (seq floor : ℕ) (bytes : List ℕ) → complete.0 ≡ Queue k (Complete seq bytes floor) → 2 ≤ length bytes → HasItsCause (le16 0 bytes) decides.1
decided_so k p decides complete is_shown rule seq floor bytes is room =
    let whole = completed_with decides.1 p.writable in
    let same : whole ≡ bytes = same_bytes k seq floor p.seq (completed_under p.tag.floor decides.1) bytes whole (subst (λ (ask : _). ask ≡ Queue k (Complete p.seq whole (completed_under p.tag.floor decides.1))) is rule) in
    subst (λ (bs : List ℕ). 2 ≤ length bs → HasItsCause (le16 0 bs) decides.1) same is_shown room

causes : (k : ℕ) (xs : List Exchange) → AreAnswered xs → IsService k xs → HasCauses k xs
causes k _ answered (finds_nothing pop is_pop nothing) = tt
causes k _ answered (is_decided p pop judge complete is_pop finds is_judge passed is_complete) =
    let kind = judge_told p.bytes p.writable judge.1 (subst (λ ask. AnswersAsk ask judge.1) is_judge answered.1.0) in
    decided_so k p judge complete (judge_shown judge.1 p.writable kind passed) is_complete
causes k _ answered (is_carried_out p to pop judge act complete is_pop finds is_judge passed is_act is_complete) =
    let kind = act_answered to.0 is_act.0 to.1 act.1 (subst (λ ask. AnswersAsk ask act.1) is_act.1 answered.1.0) in
    decided_so k p act complete (act_shown act.1 p.writable kind) is_complete

pub causes_of : (k seq floor : ℕ) (bytes : List ℕ) (complete decides : Exchange) (past : List Exchange) → AreAnswered (complete ∷ decides ∷ past) × IsService k (complete ∷ decides ∷ past) → complete.0 ≡ Queue k (Complete seq bytes floor) → 2 ≤ length bytes → HasItsCause (le16 0 bytes) decides.1
causes_of k seq floor bytes complete decides past is asks room = causes k (complete ∷ decides ∷ past) is.0 is.1 seq floor bytes asks room
