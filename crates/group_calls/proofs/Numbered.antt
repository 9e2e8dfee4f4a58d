-- The commands of a legal queue are numbered in the order in which they were posted.
use Rattle.std.proofs.Common.{◌≡◌, ℕ, Bool, true, false, cond, List, [], ◌∷◌, length}
use Rattle.std.specs.Prelude.{◌/◌, nat_le}
use Rattle.group_calls.specs.declared.queue.Tag.{Tag}
use Rattle.group_calls.specs.declared.queue.RingCall.{RingCall}
use Rattle.group_calls.specs.declared.queue.RingCall.TheVariants.{Post, Pop, Complete, Take, Reset}
use Rattle.group_calls.specs.declared.queue.RingReply.{RingReply}
use Rattle.group_calls.specs.declared.queue.RingReply.TheVariants.{Seq, Full, Closed}
use Rattle.group_calls.specs.Queue.{RingEntry, Posted, posted, IsNumbered, outstanding, is_closed, closing_floor, post_answer, IsLegalQueue}

-- a Post that is answered by a number is answered by how many were posted
numbered_post : (size : ℕ) (past : List RingEntry) (tag : Tag) (s : ℕ) → Seq s ≡ post_answer size past tag → s ≡ length (posted past)
numbered_post size past tag s is = go (is_closed past) (nat_le (size / 2) (length (outstanding past))) is
  where
    go : (b c : Bool) → Seq s ≡ cond b (Closed (closing_floor past tag.guest)) (cond c Full (Seq (length (posted past)))) → s ≡ length (posted past)
    go true c eq = cc
    go false true eq = cc
    go false false eq = cc

pub numbered : (size : ℕ) (h : List RingEntry) → IsLegalQueue size h → IsNumbered (posted h)
numbered size [] legal = tt
numbered size (e ∷ past) legal = go e.call e.reply legal.0 (numbered size past legal.3)
  where
    go : (call : RingCall) (reply : RingReply) → reply ≡ Rattle.group_calls.specs.Queue.queue_answer size past call → IsNumbered (posted past)
        → IsNumbered (posted (record { who = e.who; call = call; reply = reply } ∷ past))
    go (Post bytes writable tag) (Seq s) is rest = (numbered_post size past tag s is, rest)
    go (Post bytes writable tag) _ is rest = rest
    go Pop reply is rest = rest
    go (Complete seq bytes floor) reply is rest = rest
    go (Take seq) reply is rest = rest
    go (Reset floors) reply is rest = rest
