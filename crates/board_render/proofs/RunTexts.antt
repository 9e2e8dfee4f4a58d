-- The text of a run is that of its journal.
use Rattle.std.proofs.Common.{◌≡◌, ℕ, ◌+◌, ◌<◌, ◌≤◌, inl, inr, List, [], ◌∷◌, ◌++◌, map, refl, sym, ap, ◌∙◌, arith}
use Rattle.std.specs.Prelude.{flat_map, codes}
use Rattle.std.proofs.lemmas.Option.{slice_get_cases}
use Rattle.board_script.specs.Script.{Whole}
use Rattle.journal.specs.Lines.{numbers, members_of}
use Rattle.journal.specs.Journals.{Journal}
use Rattle.journal.specs.Settling.{left_in}
use Rattle.journal.specs.Words.{and_number}
use Rattle.journal.specs.Texts.{line_of, guest_part, left_line, transcripts, rendered}
use Rattle.group_cells.specs.Plain.{Plain}
use Rattle.actor_core.specs.declared.actor.Actor.{Actor}
use Rattle.actor_core.specs.declared.items.LeftItem.{LeftItem}
use Rattle.actor_core.specs.Kept.{left_pair}
use Rattle.board_render.specs.Items.{left_text}
use Rattle.board_render.specs.Runs.{transcript_of, transcripts_text, run_text, AreRunOf}
use Rattle.board_render.proofs.Agreeing.{parts_same, cells_agree}

left_same : (left : List LeftItem) → flat_map left_text left ≡ flat_map left_line (map left_pair left)
left_same [] = refl
left_same (item ∷ left) = ap (λ (t : List ℕ). left_text item ++ t) (left_same left)

module _ (s : Whole) (j : Journal) (cells : Plain) (actors : List Actor) (left : List LeftItem) (is : AreRunOf s j cells actors left) where
  one_guest : (g : ℕ) → 1 ≤ g → g < 1 + members_of s → transcript_of actors g ≡ guest_part s j g
  one_guest g low high =
      let guests = is.guests in
      elim ((slice_get_cases actors g).1) [
        | inl found ↦ rw found.2 (ap (λ (t : List ℕ). line_of (codes "guest" ++ and_number g) ++ t) (is.answers g found.0 (low, omega (arith, high)) found.2))
        | inr past ↦ let short = past.0 in absurd (omega (arith, short, high, guests))
      ]

  transcripts_agree : transcripts_text cells actors ≡ transcripts s j
  transcripts_agree =
      ap (λ (n : ℕ). flat_map (transcript_of actors) (numbers 1 n)) (sym is.cells_of.member_count)
      ∙ parts_same (transcript_of actors) (guest_part s j) 1 (members_of s) (λ g low high. one_guest g low high)

  left_agree : flat_map left_text left ≡ flat_map left_line (left_in s j)
  left_agree = left_same left ∙ ap (flat_map left_line) is.left_of

  pub run_agrees : run_text cells actors left ≡ rendered s j
  run_agrees =
      let cells_are = cells_agree s j cells is.cells_of in
      λ i. transcripts_agree i ++ cells_are i ++ left_agree i ++ codes "end\n"
