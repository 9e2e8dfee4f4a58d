-- Bring-up goes as on one thread, since the board alone has entries until then; so it goes well.
use Rattle.std.proofs.Common.{◌≡◌, ℕ, Bool, true, true≢false, List, [], ◌∷◌, ◌++◌, length, refl, sym, ap, ◌∙◌, arith, subst}
use Rattle.std.proofs.lemmas.List.{append-nil}
use Rattle.history.specs.declared.entry.Entry.{Entry}
use Rattle.history.specs.Places.{calls_of, IsEarlier}
use Rattle.history.specs.Legal.{IsLegal, never_quiet}
use Rattle.history.proofs.LegalLemmas.{legal_earlier}
use Rattle.group_calls.specs.Asks.{Exchange}
use Rattle.group_calls.specs.Owner.{owner_answer, owner_may}
use Rattle.group_calls.specs.Queue.{queue_answer, queue_may, is_quiet_reply}
use Rattle.group_calls.specs.Member.{member_answer, member_may}
use Rattle.board_script.specs.Script.{Whole}
use Rattle.board_script.specs.Bounds.{IsScript}
use Rattle.journal.specs.Lines.{Line, counts_members, brings_up, performs, empties, finishes, is_last, last_lines, members_of, made_of}
use Rattle.journal.specs.Cells.{owner_part, queue_part, member_part}
use Rattle.journal.specs.Performing.{Performed, all_asked}
use Rattle.journal.specs.Journals.{Journal, AreBoards, AreBegun, ArePerformed, IsBroughtUp, AreBroughtUp, lines_then}
use Rattle.journal.specs.Settling.{has_ended, brought_up}
use Rattle.journal.specs.Worlds.{first}
use Rattle.world_laws.proofs.Frames.{boards_added}
use Rattle.world_laws.proofs.Framing.{AreLast}
use Rattle.world_laws.proofs.SoFar.{brought, brought_sound}
use Rattle.thread_laws.specs.Gathered.{IsGathered}
use Rattle.thread_laws.proofs.Ordered.{board_alone}
use Rattle.thread_laws.proofs.Framed.{up_lines, drain_last}
use Rattle.thread_laws.proofs.Told.{IsAlone, AreTold, all_told}
use Rattle.thread_laws.proofs.Performing.{performed_fitting, performed_before, same_performed}

-- ---- on one thread

module _ (s : Whole) (script : IsScript s) where
  -- behind bring-up no other actor has an entry
  cell_alone : {C R : Type 0} (part : ℕ → List Exchange → List (ℕ × Entry C R)) (h : List (Entry C R)) → ((who : ℕ) → part who [] ≡ []) → ((who : ℕ) → part who (all_asked ((brought_up s first).past who)) ≡ calls_of who h) → AreBoards h
  cell_alone part h nothing left = boards_added h [] (λ who other. ap (calls_of who) (append-nil h) ∙ (sym (left who) ∙ (ap (λ (p : List Performed). part who (all_asked p)) ((brought s script).others who other) ∙ nothing who)))

  one_alone : IsAlone s (all_asked ((brought_up s first).past 0)) (brought_up s first)
  one_alone =
      let x = brought_sound s script in
      record {
        legal = x.legal;
        owner = cell_alone owner_part (brought_up s first).owner (λ who. refl) (λ who. (x.actor who).owner);
        queue = λ k. cell_alone (λ who. queue_part who k) ((brought_up s first).queue k) (λ who. refl) (λ who. (x.actor who).queue k);
        member = λ m. cell_alone (λ who. member_part who m) ((brought_up s first).member m) (λ who. refl) (λ who. (x.actor who).member m);
        left = record { owner = (x.actor 0).owner; queue = (x.actor 0).queue; member = (x.actor 0).member };
        heard = (x.actor 0).heard;
      }

  all_over : (past : List Performed) → AreBegun s 0 past → has_ended s 0 past ≡ true → ArePerformed s 0 past
  all_over [] begun over = tt
  all_over (p ∷ past) begun over = (begun.0, over, begun.1)

  one_performed : ArePerformed s 0 ((brought_up s first).past 0)
  one_performed = all_over ((brought_up s first).past 0) ((brought_sound s script).actor 0).begun (ap (has_ended s 0) (brought s script).here ∙ (brought s script).over)

  one_told : AreTold s (all_asked ((brought_up s first).past 0))
  one_told = all_told s (all_asked ((brought_up s first).past 0)) (brought_up s first) one_alone (performed_fitting s 0 ((brought_up s first).past 0) one_performed)

-- ---- in threads

earlier_legal : {C R : Type 0} (answer : List (Entry C R) → C → R) (quiet : R → Bool) (may : ℕ → C → Type 0) (old new : List (Entry C R)) → IsEarlier old new → IsLegal answer quiet may new → IsLegal answer quiet may old
earlier_legal answer quiet may old new x legal = legal_earlier answer quiet may x.0 old (subst (IsLegal answer quiet may) x.1 legal)

-- the drain's lines bring nothing up
well_since : (s : Whole) (later past : List Performed) → AreLast later → AreBroughtUp s past → AreBroughtUp s (later ++ past)
well_since s [] past last well = well
well_since s (p ∷ later) past last well = (by p.line p.asked last.0, well_since s later past last.1 well)
  where
    by : (line : Line) (asked : List Exchange) → is_last line ≡ true → IsBroughtUp s (later ++ past) (record { line = line; asked = asked })
    by counts_members asked e = tt
    by (brings_up m) asked e = absurd (true≢false (sym e))
    by (performs line) asked e = tt
    by (empties queue) asked e = tt
    by (finishes m queue) asked e = tt

module _ (s : Whole) (j : Journal) (x : IsGathered s j) where
  up_alone : IsAlone s (all_asked x.up_past) x.up
  up_alone = record {
    legal = record {
      owner = earlier_legal owner_answer never_quiet (owner_may (members_of s)) x.up.owner j.owner x.ordered.owner.begins x.histories.owner;
      queue = λ k. earlier_legal (queue_answer s.board.queue_size) is_quiet_reply (queue_may s.board.queue_size) (x.up.queue k) (j.queue k) (x.ordered.queue k).begins (x.histories.queue k);
      member = λ m. earlier_legal (member_answer (made_of s m)) never_quiet (member_may (made_of s m)) (x.up.member m) (j.member m) (x.ordered.member m).begins (x.histories.member m);
    };
    owner = board_alone x.up.owner (λ who. (x.view who).owner) j.owner x.ordered.owner;
    queue = λ k. board_alone (x.up.queue k) (λ who. (x.view who).queue k) (j.queue k) (x.ordered.queue k);
    member = λ m. board_alone (x.up.member m) (λ who. (x.view who).member m) (j.member m) (x.ordered.member m);
    left = x.is_up.left;
    heard = x.is_up.heard;
  }

  up_performed : ArePerformed s 0 x.up_past
  up_performed = performed_before s 0 x.drain x.up_past (subst (ArePerformed s 0) x.board (x.through 0).performed)

  up_told : AreTold s (all_asked x.up_past)
  up_told = all_told s (all_asked x.up_past) x.up up_alone (performed_fitting s 0 x.up_past up_performed)

  -- the board performed what it performs on one thread
  up_is : IsScript s → x.up_past ≡ (brought_up s first).past 0
  up_is script =
      let one = brought s script in
      let size : length x.up_past ≡ length one.past = let a = x.is_up.all in let b = one.size in omega (arith, a, b) in
      same_performed s x.up_past ((brought_up s first).past 0) (last_lines s) (last_lines s) (size ∙ ap length (sym one.here)) (sym (up_lines s j x) ∙ (one.lines ∙ ap (λ (p : List Performed). lines_then p (last_lines s)) (sym one.here)))
      up_performed (one_performed s script) up_told (one_told s script)

  pub whole_well : IsScript s → AreBroughtUp s (j.past 0)
  whole_well script =
      let well : AreBroughtUp s x.up_past = subst (AreBroughtUp s) (sym (up_is script ∙ (brought s script).here)) (brought s script).well in
      subst (AreBroughtUp s) (sym x.board) (well_since s x.drain x.up_past (drain_last s j x) well)
