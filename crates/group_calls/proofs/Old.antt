-- In a legal history a command is old where its queue is closed, since nothing is posted after a Reset.
use Rattle.std.proofs.Common.{◌≡◌, ℕ, ◌+◌, ◌<◌, inl, inr, Bool, true, false, cond, List, [], ◌∷◌, length, arith, refl, sym}
use Rattle.std.specs.Prelude.{◌/◌, ◌==◌, nat_le}
use Rattle.std.proofs.lemmas.Bool.Decides.{nat_tests}
use Rattle.std.proofs.lemmas.Bool.{cases_eq}
use Rattle.group_calls.specs.declared.queue.Tag.{Tag}
use Rattle.group_calls.specs.declared.queue.RingCall.{RingCall}
use Rattle.group_calls.specs.declared.queue.RingCall.TheVariants.{Post, Pop, Complete, Take, Reset}
use Rattle.group_calls.specs.declared.queue.RingReply.{RingReply}
use Rattle.group_calls.specs.declared.queue.RingReply.TheVariants.{Seq, Full, Closed}
use Rattle.group_calls.specs.Queue.{RingEntry, posted, outstanding, is_closed, is_old, closing_floor, queue_answer, post_answer, IsLegalQueue}

-- a Post that is answered by a number finds the queue open, and is numbered by how many were posted
posts_open : (size : ℕ) (past : List RingEntry) (tag : Tag) (s : ℕ) → Seq s ≡ post_answer size past tag → (is_closed past ≡ false) × (s ≡ length (posted past))
posts_open size past tag s is = go (is_closed past) (nat_le (size / 2) (length (outstanding past))) is
  where
    go : (b c : Bool) → Seq s ≡ cond b (Closed (closing_floor past tag.guest)) (cond c Full (Seq (length (posted past)))) → (b ≡ false) × (s ≡ length (posted past))
    go true c eq = cc
    go false true eq = cc
    go false false eq = (refl, cc)

posted_now : (size : ℕ) (past : List RingEntry) (who : ℕ) (bytes : List ℕ) (writable n : ℕ) (tag : Tag) (s : ℕ) → Seq n ≡ post_answer size past tag → s < length (posted past) + 1
    → (s < length (posted past) → is_old past s ≡ is_closed past)
    → is_old (record { who = who; call = Post bytes writable tag; reply = Seq n } ∷ past) s ≡ is_closed past
posted_now size past who bytes writable n tag s is below before =
    let open_ = posts_open size past tag n is in
    elim (cases_eq n s) [
      | inl same ↦ let test : (n == s) ≡ true = grind (arith, nat_tests, same) in rw test (sym open_.0)
      | inr other ↦
          let test : (n == s) ≡ false = grind (arith, nat_tests, other) in
          let number = open_.1 in
          rw test (before (omega arith))
    ]

pub old_closed : (size : ℕ) (h : List RingEntry) → IsLegalQueue size h → (s : ℕ) → s < length (posted h) → is_old h s ≡ is_closed h
old_closed size [] legal s below = refl
old_closed size (e ∷ past) legal s below = go e.call e.reply legal.0 below (old_closed size past legal.3 s)
  where
    go : (call : RingCall) (reply : RingReply) → reply ≡ queue_answer size past call → s < length (posted (record { who = e.who; call = call; reply = reply } ∷ past))
        → (s < length (posted past) → is_old past s ≡ is_closed past)
        → is_old (record { who = e.who; call = call; reply = reply } ∷ past) s ≡ is_closed (record { who = e.who; call = call; reply = reply } ∷ past)
    go (Post bytes writable tag) (Seq n) is near before = posted_now size past e.who bytes writable n tag s is (omega (arith, near)) before
    go (Post bytes writable tag) _ is near before = before near
    go Pop reply is near before = before near
    go (Complete seq bytes floor) reply is near before = before near
    go (Take seq) reply is near before = before near
    go (Reset floors) reply is near before = refl
