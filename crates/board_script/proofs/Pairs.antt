-- The pairs of a `go` line, one after another.
use Rattle.std.proofs.Common.{◌≡◌, ℕ, List, ◌∷◌, Result, Ok, sym, ap, ◌∙◌}
use Rattle.script_words.specs.declared.cause.Cause.{Cause}
use Rattle.script_words.specs.Values.{◌>>=◌}
use Rattle.board_script.specs.SoFar.{SoFar}
use Rattle.board_script.specs.Lines.{with_pair, with_pairs}

pub pairs_step : (old new : SoFar) (actor count : List ℕ) (left more rest : List (List ℕ)) (all : Result SoFar Cause) → left ≡ actor ∷ more → more ≡ count ∷ rest → with_pair old actor count ≡ Ok new
    → with_pairs old left ≡ all → with_pairs new rest ≡ all
pairs_step old new actor count left more rest all p q s h =
    let words : left ≡ actor ∷ count ∷ rest = p ∙ ap (λ (w : List (List ℕ)). actor ∷ w) q in
    let step : with_pairs old (actor ∷ count ∷ rest) ≡ with_pairs new rest = ap (λ (r : Result SoFar Cause). r >>= (λ next. with_pairs next rest)) s in
    sym step ∙ ap (λ (w : List (List ℕ)). with_pairs old w) (sym words) ∙ h
