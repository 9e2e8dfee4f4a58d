-- Examples of administration queues.
use Rattle.std.specs.Prelude.{ℕ, List, [], ◌∷◌}
use Rattle.group_calls.specs.declared.queue.Tag.{Tag}
use Rattle.group_calls.specs.declared.queue.RingCall.{RingCall}
use Rattle.group_calls.specs.declared.queue.RingCall.TheVariants.{Post, Pop, Complete, Take, Reset}
use Rattle.group_calls.specs.declared.queue.RingReply.{RingReply}
use Rattle.group_calls.specs.declared.queue.RingReply.TheVariants.{Seq, Full, Closed, Fetched, Empty, InService, Completed, Stale, Ready, NotYet, Lost, ResetDone}

abbrev pub of_guest : ℕ → Tag
of_guest guest = record { guest = guest; floor = 1 }

-- two guests' commands in a queue of 4 entries, served one after another, and a third that finds no room
abbrev pub commands_are_served : List (RingCall × RingReply)
commands_are_served =
    (Pop, Empty)
    ∷ (Post (1 ∷ []) 8 (of_guest 1), Seq 0)
    ∷ (Take 0, NotYet)
    ∷ (Post (2 ∷ []) 1 (of_guest 2), Seq 1)
    ∷ (Post (3 ∷ []) 8 (of_guest 3), Full)
    ∷ (Pop, Fetched 0 (1 ∷ []) 8 (of_guest 1))
    ∷ (Pop, InService 0)
    ∷ (Complete 1 [] 0, Stale)
    ∷ (Complete 0 (7 ∷ 8 ∷ []) 5, Completed)
    ∷ (Take 0, Ready (7 ∷ 8 ∷ []) 5)
    ∷ (Take 0, Stale)
    ∷ (Pop, Fetched 1 (2 ∷ []) 1 (of_guest 2))
    ∷ (Complete 1 (7 ∷ 8 ∷ []) 6, Completed)
    ∷ (Pop, Empty)
    ∷ (Post (4 ∷ []) 8 (of_guest 3), Seq 2)
    ∷ (Take 1, Ready (7 ∷ []) 6)
    ∷ (Take 9, Stale)
    ∷ []

-- a reset closes the queue: what was completed can be taken, and the rest is lost
abbrev pub resets_close : List (RingCall × RingReply)
resets_close =
    (Post (1 ∷ []) 8 (of_guest 1), Seq 0)
    ∷ (Pop, Fetched 0 (1 ∷ []) 8 (of_guest 1))
    ∷ (Complete 0 (7 ∷ []) 5, Completed)
    ∷ (Post (2 ∷ []) 8 (of_guest 2), Seq 1)
    ∷ (Pop, Fetched 1 (2 ∷ []) 8 (of_guest 2))
    ∷ (Reset (11 ∷ 12 ∷ []), ResetDone)
    ∷ (Complete 1 (8 ∷ []) 6, Stale)
    ∷ (Pop, Empty)
    ∷ (Take 0, Ready (7 ∷ []) 5)
    ∷ (Take 1, Lost 12)
    ∷ (Take 1, Stale)
    ∷ (Post [] 8 (of_guest 1), Closed 11)
    ∷ (Post [] 8 (of_guest 3), Closed 0)
    ∷ (Post [] 8 (of_guest 0), Closed 0)
    ∷ (Reset (21 ∷ []), ResetDone)
    ∷ (Post [] 8 (of_guest 1), Closed 21)
    ∷ []
