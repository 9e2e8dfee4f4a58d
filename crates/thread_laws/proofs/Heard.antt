-- What an actor's asks left is in the whole, and what it heard was right there too.
use Rattle.std.proofs.Common.{ℕ, List, [], refl, sym, ap, ◌∙◌, arith}
use Rattle.history.specs.declared.entry.Placed.{Placed}
use Rattle.group_calls.specs.declared.queue.RingCall.{RingCall}
use Rattle.group_calls.specs.declared.queue.RingReply.{RingReply}
use Rattle.group_calls.specs.Asks.{Exchange}
use Rattle.group_calls.specs.Queue.{RingEntry, queue_answer}
use Rattle.board_script.specs.Script.{Whole}
use Rattle.journal.specs.Performing.{all_asked}
use Rattle.journal.specs.Journals.{Journal, IsHeard, IsRecorded, EachEndsWell}
use Rattle.actor_drive.specs.Driven.{AreHeard}
use Rattle.world_laws.proofs.Pasts.{each_ends_well}
use Rattle.thread_laws.specs.Gathered.{IsView, IsGathered}
use Rattle.thread_laws.proofs.Seen.{before_still, no_shorter}

module _ (s : Whole) (j : Journal) (who : ℕ) (view : Journal) (seen : IsView who view j) where
  heard_on : (k : ℕ) (call : RingCall) (placed : Placed RingReply) (earlier later : List Exchange) → IsHeard s view k who call placed earlier later → IsHeard s j k who call placed earlier later
  heard_on k call placed earlier later x = record {
    exists = let up = no_shorter (view.queue k) (j.queue k) (seen.queue k).begins in let le = x.exists in omega (arith, up, le);
    reply = x.reply ∙ ap (λ (h : List RingEntry). queue_answer s.board.queue_size h call) (sym (before_still (view.queue k) (j.queue k) placed.at (seen.queue k).begins x.exists));
    behind = x.behind;
    before_others = x.before_others;
  }

  heard_whole : (asked : List Exchange) → AreHeard s view who asked → AreHeard s j who asked
  heard_whole asked x k call placed later earlier is = heard_on k call placed earlier later (x k call placed later earlier is)

module _ (s : Whole) (j : Journal) (x : IsGathered s j) (who : ℕ) where
  pub recorded_whole : IsRecorded j who
  recorded_whole = record {
    owner = (x.through who).left.owner ∙ sym (x.views who).owner.own;
    queue = λ k. (x.through who).left.queue k ∙ sym ((x.views who).queue k).own;
    member = λ m. (x.through who).left.member m ∙ sym ((x.views who).member m).own;
  }

  pub ends_well : EachEndsWell s j who (j.past who) []
  ends_well = each_ends_well s j who (heard_whole s j who (x.view who) (x.views who) (all_asked (j.past who)) (x.through who).heard) (j.past who) [] refl
