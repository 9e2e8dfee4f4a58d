-- The commands that aren't taken, after one entry more.
use Rattle.std.proofs.Common.{◌≡◌, ℕ, Bool, true, false, List, [], ◌∷◌, refl, ap}
use Rattle.std.specs.Prelude.{◌||◌, ◌==◌, not, filter}
use Rattle.group_calls.specs.declared.queue.RingCall.TheVariants.{Post, Take}
use Rattle.group_calls.specs.declared.queue.RingReply.{RingReply}
use Rattle.group_calls.specs.declared.queue.RingReply.TheVariants.{Seq}
use Rattle.group_calls.specs.declared.queue.Tag.{Tag}
use Rattle.group_calls.specs.Queue.{RingEntry, Posted, posted, outstanding, is_taken}

filter_either : {X : Type 0} (a b : X → Bool) (xs : List X) → filter (λ x. not (a x || b x)) xs ≡ filter (λ x. not (a x)) (filter (λ x. not (b x)) xs)
filter_either a b [] = refl
filter_either {X = X} a b (x ∷ xs) = go (a x) refl (b x) refl (filter_either a b xs)
  where
    go : (p : Bool) → a x ≡ p → (q : Bool) → b x ≡ q → filter (λ x. not (a x || b x)) xs ≡ filter (λ x. not (a x)) (filter (λ x. not (b x)) xs)
        → filter (λ x. not (a x || b x)) (x ∷ xs) ≡ filter (λ x. not (a x)) (filter (λ x. not (b x)) (x ∷ xs))
    go true e true f rest = simp (e, f) rest
    go true e false f rest = simp (e, f) rest
    go false e true f rest = simp (e, f) rest
    go false e false f rest = simp (e, f) (ap (λ ys. x ∷ ys) rest)

-- a Take takes its command out, in any history
pub outstanding_take : (h : List RingEntry) (who s : ℕ) (reply : RingReply) → outstanding (record { who = who; call = Take s; reply = reply } ∷ h) ≡ filter (λ p. not (s == p.seq)) (outstanding h)
outstanding_take h who s reply = filter_either (λ (p : Posted). s == p.seq) (λ (p : Posted). is_taken h p.seq) (posted h)

-- a Post adds its command, whose number isn't taken yet
pub outstanding_post : (h : List RingEntry) (who : ℕ) (bytes : List ℕ) (writable s : ℕ) (tag : Tag) → is_taken h s ≡ false
    → outstanding (record { who = who; call = Post bytes writable tag; reply = Seq s } ∷ h) ≡ record { seq = s; bytes = bytes; writable = writable; tag = tag } ∷ outstanding h
outstanding_post h who bytes writable s tag free = simp free refl
