-- What a device is told, from the tests that it makes.
use Rattle.std.proofs.Common.{◌≡◌, ℕ, ◌≤◌, ◌<◌, Bool, true, false, List, Option, Some, None, arith, refl, sym, ap, ◌∙◌}
use Rattle.std.specs.Prelude.{◌==◌, nat_lt, option_map}
use Rattle.std.proofs.lemmas.Bool.Decides.{nat_tests}
use Rattle.ring_layout.specs.declared.layout.Layout.{Layout}
use Rattle.ring_layout.specs.declared.descriptor.Descriptor.{Descriptor}
use Rattle.ring_layout.specs.Chain.{available, chain_at, gap, found, found_chain, nothing, bad_index}
use Rattle.ring_device.specs.Buffers.{Buffers, chain_buffers}
use Rattle.ring_device.specs.Answer.{told, answer}
use Rattle.ring_device.specs.Pair.{pair_in, pair_told, pair_answer}
use Rattle.ring_device.specs.declared.next.Found.TheVariants.{Chain, Empty, Bad}
use Rattle.ring_device.specs.declared.next.Bad.TheVariants.{Index, Chain as BrokenChain}
use Rattle.ring_device.specs.declared.pair.PairFound.{PairFound}
use Rattle.ring_device.specs.declared.pair.PairFound.TheVariants.{Empty as NoPair, Other}

-- ---- what is found

pub found_nothing : (indirect : Bool) (mem : List ℕ) (l : Layout) (pos : ℕ) → gap mem l pos ≡ 0 → found indirect mem l pos ≡ nothing
unfolding found
found_nothing indirect mem l pos h = rw h refl

pub found_bad_index : (indirect : Bool) (mem : List ℕ) (l : Layout) (pos : ℕ) → ¬ (gap mem l pos ≡ 0) → l.size < gap mem l pos → found indirect mem l pos ≡ bad_index
unfolding found
found_bad_index indirect mem l pos some h =
    let t : (gap mem l pos == 0) ≡ false = grind (arith, nat_tests, some) in
    let u : nat_lt l.size (gap mem l pos) ≡ true = grind (arith, nat_tests, h) in
    rw (t, u) refl

pub found_as_chain : (indirect : Bool) (mem : List ℕ) (l : Layout) (pos : ℕ) → ¬ (gap mem l pos ≡ 0) → gap mem l pos ≤ l.size → found indirect mem l pos ≡ found_chain (chain_at indirect mem l pos)
unfolding found
found_as_chain indirect mem l pos some h =
    let t : (gap mem l pos == 0) ≡ false = grind (arith, nat_tests, some) in
    let u : nat_lt l.size (gap mem l pos) ≡ false = grind (arith, nat_tests, h) in
    rw (t, u) refl

-- ---- what is told of a chain and of none

told_chain : (mem : List ℕ) (l : Layout) (pos : ℕ) (o : Option (List Descriptor)) (v : Buffers) → Some v ≡ option_map (λ c. record { head = available mem l pos; parts = c }) o → told mem l pos (found_chain o) ≡ Chain v
told_chain mem l pos None v h = cc
told_chain mem l pos (Some c) v h = let e : v ≡ record { head = available mem l pos; parts = c } = cc in ap Chain (sym e)

told_none : (mem : List ℕ) (l : Layout) (pos : ℕ) (o : Option (List Descriptor)) → (let none : Option Buffers = None in none ≡ option_map (λ c. record { head = available mem l pos; parts = c }) o) → told mem l pos (found_chain o) ≡ Bad BrokenChain
told_none mem l pos None h = refl
told_none mem l pos (Some c) h = cc

pub answers_empty : (indirect : Bool) (mem : List ℕ) (l : Layout) (pos : ℕ) → gap mem l pos ≡ 0 → Empty ≡ answer indirect mem l pos
answers_empty indirect mem l pos h = ap (told mem l pos) (sym (found_nothing indirect mem l pos h))

pub answers_index : (indirect : Bool) (mem : List ℕ) (l : Layout) (pos : ℕ) → ¬ (gap mem l pos ≡ 0) → l.size < gap mem l pos → Bad Index ≡ answer indirect mem l pos
answers_index indirect mem l pos some h = ap (told mem l pos) (sym (found_bad_index indirect mem l pos some h))

pub answers_chain : (indirect : Bool) (mem : List ℕ) (l : Layout) (pos : ℕ) (v : Buffers) → ¬ (gap mem l pos ≡ 0) → gap mem l pos ≤ l.size → Some v ≡ chain_buffers indirect mem l pos → Chain v ≡ answer indirect mem l pos
answers_chain indirect mem l pos v some fits h = sym (ap (told mem l pos) (found_as_chain indirect mem l pos some fits) ∙ told_chain mem l pos (chain_at indirect mem l pos) v h)

pub answers_broken : (indirect : Bool) (mem : List ℕ) (l : Layout) (pos : ℕ) → ¬ (gap mem l pos ≡ 0) → gap mem l pos ≤ l.size → (let none : Option Buffers = None in none ≡ chain_buffers indirect mem l pos) → Bad BrokenChain ≡ answer indirect mem l pos
answers_broken indirect mem l pos some fits h = sym (ap (told mem l pos) (found_as_chain indirect mem l pos some fits) ∙ told_none mem l pos (chain_at indirect mem l pos) h)

-- ---- what is told of a pair

told_pair : (mem : List ℕ) (l : Layout) (pos : ℕ) (o : Option (List Descriptor)) → pair_in (option_map (λ c. record { head = available mem l pos; parts = c }) o) ≡ pair_told mem l pos (found_chain o)
told_pair mem l pos None = refl
told_pair mem l pos (Some c) = refl

pub pairs_empty : (mem : List ℕ) (l : Layout) (pos : ℕ) → gap mem l pos ≡ 0 → NoPair ≡ pair_answer mem l pos
pairs_empty mem l pos h = ap (pair_told mem l pos) (sym (found_nothing false mem l pos h))

pub pairs_index : (mem : List ℕ) (l : Layout) (pos : ℕ) → ¬ (gap mem l pos ≡ 0) → l.size < gap mem l pos → Other ≡ pair_answer mem l pos
pairs_index mem l pos some h = ap (pair_told mem l pos) (sym (found_bad_index false mem l pos some h))

pub pairs_found : (mem : List ℕ) (l : Layout) (pos : ℕ) (p : PairFound) → ¬ (gap mem l pos ≡ 0) → gap mem l pos ≤ l.size → p ≡ pair_in (chain_buffers false mem l pos) → p ≡ pair_answer mem l pos
pairs_found mem l pos p some fits h = h ∙ told_pair mem l pos (chain_at false mem l pos) ∙ ap (pair_told mem l pos) (sym (found_as_chain false mem l pos some fits))
