-- Everything that a member's answers look for in its history, in one record. Of this project: the same facts give the same answers.
use Rattle.std.specs.Prelude.{ℕ, Bool, List}
use Rattle.legacy_regs.specs.Registers.{Registers}
use Rattle.group_calls.specs.declared.member.MemberMade.{MemberMade}
use Rattle.group_calls.specs.MemberEntries.{MemberEntry, since_reset}
use Rattle.group_calls.specs.MemberRegisters.{registers_after}
use Rattle.group_calls.specs.MemberQueues.{position, is_pending, backlog, raised}

pub record Facts : Type 0 where
  -- the legacy registers
  pub registers : Registers
  -- where each queue stands in its ring
  pub position : ℕ → ℕ
  -- whether each queue is to be served
  pub pending : ℕ → Bool
  -- the frames that wait, the earliest first
  pub waiting : List (List ℕ)
  -- the vectors that were raised and not taken, as bits
  pub raised : ℕ

unfoldable pub facts : MemberMade → List MemberEntry → Facts
facts made h =
    let run : List MemberEntry = since_reset h in
    record {
      registers = registers_after made.kind h;
      position = position run;
      pending = is_pending made.kind run;
      waiting = backlog run;
      raised = raised h;
    }
