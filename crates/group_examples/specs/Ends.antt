-- Examples of members that are killed.
use Rattle.std.specs.Prelude.{true, List, [], ◌∷◌, replicate}
use Rattle.admin_wire.specs.declared.command.LegacyCmd.TheVariants.{Info as NotifyInfo}
use Rattle.group_calls.specs.declared.member.Why.TheVariants.{Range}
use Rattle.group_calls.specs.declared.member.MemberCall.{MemberCall}
use Rattle.group_calls.specs.declared.member.MemberCall.TheVariants.{Act, Notify, Msix, MemWrite, MemRead, TakeIrqs, Step, Arrive, Flr, Kill}
use Rattle.group_calls.specs.declared.member.MemberReply.{MemberReply}
use Rattle.group_calls.specs.declared.member.MemberReply.TheVariants.{Data, Written, Info, Refused, Gone, Killed}
use Rattle.group_calls.specs.declared.lone.LoneEvent.{LoneEvent}
use Rattle.group_calls.specs.declared.lone.LoneEvent.TheVariants.{Read, Write, Other as Call}
use Rattle.group_calls.specs.declared.lone.LoneReply.{LoneReply}
use Rattle.group_calls.specs.declared.lone.LoneReply.TheVariants.{Data as Bytes, Ignored, Ones, Other}
use Rattle.group_examples.specs.Registers.{read, write}

-- the kill stands at place 2, so its floor is 3. The memory stays the guest's, within its length
abbrev pub members_are_gone : List (MemberCall × MemberReply)
members_are_gone =
    (Act NotifyInfo, Info)
    ∷ (write 18 (3 ∷ []), Written)
    ∷ (Kill, Killed)
    ∷ (Step 0, Gone 3)
    ∷ (read 18 1, Gone 3)
    ∷ (Act NotifyInfo, Gone 3)
    ∷ (Notify 0, Gone 3)
    ∷ (Msix true, Gone 3)
    ∷ (TakeIrqs, Gone 3)
    ∷ (Arrive (replicate 14 0), Gone 3)
    ∷ (Flr, Gone 3)
    ∷ (Kill, Gone 3)
    ∷ (MemWrite 4095 (9 ∷ []), Written)
    ∷ (MemRead 4095 1, Data (9 ∷ []))
    ∷ (MemRead 4096 0, Data [])
    ∷ (MemWrite 4095 (1 ∷ 1 ∷ []), Refused Range)
    ∷ (MemRead 4095 2, Refused Range)
    ∷ (MemRead 4095 1, Data (9 ∷ []))
    ∷ []

-- a device that was killed reads all ones and ignores writes
abbrev pub devices_are_gone : List (LoneEvent × LoneReply)
devices_are_gone =
    (Write 18 (3 ∷ []), Ignored)
    ∷ (Read 18 1, Bytes (3 ∷ []))
    ∷ (Call Kill, Other Killed)
    ∷ (Read 18 1, Ones)
    ∷ (Write 18 (7 ∷ []), Ignored)
    ∷ (Call (Notify 0), Other (Gone 3))
    ∷ []
