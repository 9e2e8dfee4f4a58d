-- What the code keeps of the events as entries of a member's history, and what an entry makes of it. The code's own.
use Rattle.std.specs.Prelude.{ℕ, ◌+◌, ◌≤◌, Bool, List, [], bit_or, Option, Some, unwrap_or, if◌then◌else◌}
use Rattle.legacy_regs.specs.declared.interrupts.Irq.{Irq}
use Rattle.legacy_regs.specs.declared.interrupts.Irq.TheVariants.{Vector}
use Rattle.group_calls.specs.declared.member.MemberCall.{MemberCall}
use Rattle.group_calls.specs.declared.member.MemberReply.{MemberReply}
use Rattle.group_calls.specs.declared.member.MemberReply.TheVariants.{Served}
use Rattle.group_calls.specs.MemberEntries.{MemberEntry, is_reset}
use Rattle.group_calls.specs.MemberRegisters.{msix_set}
use Rattle.group_calls.specs.MemberQueues.{frame_kept, with_frame, leaves_backlog, bit_raised, takes_irqs}
use Rattle.group_calls.specs.Member.{kills}

-- all entries of a lone device have this caller
abbrev pub entry : MemberCall → MemberReply → MemberEntry
entry call reply = record { who = 0; call = call; reply = reply }

-- ---- what is kept, after an entry

abbrev pub msix_then : MemberEntry → Bool → Bool
msix_then e msix = unwrap_or (msix_set e) msix

-- the frames that were kept in this run, and how many of them left
abbrev pub kept_then : MemberEntry → List (List ℕ) → List (List ℕ)
kept_then e frames = if is_reset e then [] else with_frame (frame_kept e) frames

abbrev pub left_then : MemberEntry → ℕ → ℕ
left_then e left = if is_reset e then 0 else if leaves_backlog e then left + 1 else left

abbrev pub raised_then : MemberEntry → ℕ → ℕ
raised_then e mask = if takes_irqs e then 0 else bit_or (bit_raised e) mask

-- the entry stands at this place
abbrev pub floor_then : ℕ → MemberEntry → Option ℕ → Option ℕ
floor_then at e floor = if kills e then Some (at + 1) else floor

-- ---- vectors

-- a member has no vector above 2, as many as it has queues
abbrev pub IsSmall : Irq → Type 0
IsSmall (Vector vector) = vector ≤ 2
IsSmall _ = Unit {0}

abbrev pub HasSmallVector : MemberReply → Type 0
HasSmallVector (Served length irq sent) = IsSmall irq
HasSmallVector _ = Unit {0}
