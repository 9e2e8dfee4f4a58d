-- The lines that `load` makes read common registers, and end nothing.
use Rattle.std.proofs.Common.{◌≡◌, ℕ, zero, suc, ◌+◌, ◌/◌, ◌%◌, ◌≤◌, Bool, true, false, cond, List, [], ◌∷◌, length, refl, ap, arith}
use Rattle.std.specs.Prelude.{◌==◌}
use Rattle.std.specs.List.{All}
use Rattle.board_script.specs.declared.script.ActorLine.{ActorLine}
use Rattle.board_script.specs.Script.{Whole}
use Rattle.board_script.specs.Bounds.{IsScript}
use Rattle.journal.specs.Laws.{turn_limit}
use Rattle.journal.specs.Settling.{final_of}
use Rattle.journal.specs.Texts.{summary}
use Rattle.journal.specs.Worlds.{schedule}
use Rattle.world_laws.proofs.Legal.{world_legal}
use Rattle.script_load.specs.Loaded.{load_limit, reads, selects, loaded_line, loaded_lines, loaded, next_state, drawn}
use Rattle.script_load.proofs.Bounds.{loaded_is_script}
use Rattle.load_run.specs.Load.{load_summary, load_text}
use Rattle.load_laws.specs.Summed.{IsSummed}
use Rattle.load_laws.proofs.Summary.{same_summary}

more_of : {A : Type 0} (P : A → Type 0) (x : A) (xs : List A) → P x → All P xs → All P (x ∷ xs)
more_of P x xs first others zero d low = first
more_of P x xs first others (suc k) d low = others k d (omega (arith, low))

asked_summed : (first second third : Bool) (number : ℕ) → IsSummed (cond first (reads 18 1) (cond second (selects number) (cond third (reads 12 2) (reads 19 1))))
asked_summed true second third number = (refl, refl)
asked_summed false true third number = tt
asked_summed false false true number = (refl, refl)
asked_summed false false false number = (refl, refl)

line_summed : (number d : ℕ) → IsSummed (loaded_line number d).what
line_summed number d = asked_summed (d / 4 % 4 == 0) (d / 4 % 4 == 1) (d / 4 % 4 == 2) (d / 16 % 4)

lines_summed : (count number x : ℕ) → All (λ (line : ActorLine). IsSummed line.what) (loaded_lines count number x)
unfolding loaded_lines
lines_summed zero number x = λ k d low. absurd (omega (arith, low))
lines_summed (suc count) number x =
    more_of (λ (line : ActorLine). IsSummed line.what) (loaded_line number (drawn (next_state x))) (loaded_lines count (number + 1) (next_state x)) (line_summed number (drawn (next_state x))) (lines_summed count (number + 1) (next_state x))

-- of the definition's run of a script without turns
run_summed : (s : Whole) → IsScript s → schedule s ≡ [] → All (λ line. IsSummed line.what) s.lines → load_summary s (final_of s) ≡ summary s (final_of s)
run_summed s script idle summed =
    let few : length (schedule s) ≤ turn_limit = (let none = ap (length {A = ℕ}) idle in omega (arith, none)) in
    same_summary s (final_of s) script (world_legal s (schedule s) script few).1 summed

pub loaded_summed : (seed count : ℕ) → count ≤ load_limit → load_text seed count ≡ summary (loaded seed count) (final_of (loaded seed count))
loaded_summed seed count few = run_summed (loaded seed count) (loaded_is_script seed count few) refl (lines_summed count 6 seed)
