-- The output of `load SEED COUNT`. Of this project.
use Rattle.std.specs.Prelude.{ℕ, ◌+◌, Bool, true, false, List, [], ◌∷◌, sum}
use Rattle.history.specs.Look.{count}
use Rattle.group_calls.specs.declared.member.MemberCall.TheVariants.{Act}
use Rattle.group_calls.specs.declared.member.MemberReply.TheVariants.{Data}
use Rattle.group_calls.specs.MemberEntries.{MemberEntry}
use Rattle.board_script.specs.declared.script.ActorLine.{ActorLine}
use Rattle.board_script.specs.declared.script.What.TheVariants.{BarRead, BarWrite}
use Rattle.board_script.specs.Script.{Whole}
use Rattle.journal.specs.Lines.{numbers, members_of}
use Rattle.journal.specs.Journals.{Journal}
use Rattle.journal.specs.Settling.{final_of}
use Rattle.journal.specs.Texts.{Tally, commands_in, tally_lines}
use Rattle.script_load.specs.Loaded.{loaded}

-- ---- lines

-- a line reads the BAR
abbrev pub is_read : ActorLine → Bool
is_read line = elim line.what [ BarRead offset count queue once ↦ true | _ ↦ false ]

-- or writes it
abbrev pub is_write : ActorLine → Bool
is_write line = elim line.what [ BarWrite offset bytes queue once ↦ true | _ ↦ false ]

-- ---- bytes

-- the bytes that a register access read
abbrev pub bytes_of : MemberEntry → List ℕ
bytes_of e = elim e.call [ Act command ↦ elim e.reply [ Data bytes ↦ bytes | _ ↦ [] ] | _ ↦ [] ]

-- the sum of all of a member's
abbrev pub total_of : List MemberEntry → ℕ
total_of [] = 0
total_of (e ∷ past) = total_of past + sum (bytes_of e)

abbrev pub total_in : Journal → List ℕ → ℕ
total_in j [] = 0
total_in j (m ∷ members) = total_of (j.member m) + total_in j members

-- ---- the output: the commands that were posted, the lines that read and that write, and the sum of the bytes that were read

abbrev pub tally_in : Whole → Journal → Tally
tally_in s j = record { reads = count is_read s.lines; writes = count is_write s.lines; total = total_in j (numbers 1 (members_of s)) }

abbrev pub load_summary : Whole → Journal → List ℕ
load_summary s j = tally_lines (commands_in j (numbers 0 s.board.queues)) (tally_in s j)

-- of the definition's run of the script that the seed makes
abbrev pub load_text : ℕ → ℕ → List ℕ
load_text seed count_ = load_summary (loaded seed count_) (final_of (loaded seed count_))
