-- What the device's answer and the driver's taking back leave in the memory.
use Rattle.std.proofs.Common.{◌≡◌, ℕ, ◌+◌, ◌*◌, ◌%◌, ◌^◌, ◌<◌, ◌≤◌, inl, inr, List, [], ◌∷◌, ◌++◌, length, take, Some, None, arith, refl, sym, ap, ◌∙◌, subst}
use Rattle.std.proofs.lemmas.Bool.{cases_lt}
use Rattle.std.proofs.lemmas.List.{length-take-le, take_all}
use Rattle.byte_fields.specs.Places.{bytes_at, overwrite}
use Rattle.byte_fields.proofs.Overwriting.{bytes_at-overwrite_same}
use Rattle.ring_layout.specs.declared.layout.Layout.{Layout}
use Rattle.ring_layout.specs.declared.descriptor.Descriptor.{Descriptor}
use Rattle.ring_layout.specs.Chain.{used_writes, written, descriptor}
use Rattle.ring_driver.specs.declared.driver.TakenUsed.{TakenUsed}
use Rattle.ring_driver.specs.declared.driver.TakenUsed.TheVariants.{Used, Empty as NoneUsed}
use Rattle.ring_driver.specs.Driver.{Driver}
use Rattle.ring_driver.specs.Same.{SameBytes}
use Rattle.ring_driver.specs.Between.{Pair, Element, Ring, Stands, AreInTable, first_of, used, with_used, with_taken}
use Rattle.ring_driver.specs.Answers.{HasTaken}
use Rattle.ring_driver.proofs.Places.{placed as placed_ring}
use Rattle.ring_driver.proofs.Bytes.{same_within, same_twice, descriptor_same}
use Rattle.ring_driver.proofs.Written.{overwritten_before, overwritten_after}
use Rattle.ring_driver.proofs.Using.{has_used, outside_kept, rest_kept}
use Rattle.admin_ring.specs.declared.host.Host.{Host}
use Rattle.admin_ring.specs.declared.host.Chain.{Chain}
use Rattle.admin_ring.specs.Host.{IsHost, HasRing, IsOfSlot, pair_of, served_by, with_completed}
use Rattle.admin_ring.proofs.Slots.{bytes_same}
use Rattle.admin_ring.proofs.Posting.{elsewhere}

-- as many bytes as fit
pub record Fits (bytes : List ℕ) (count room : ℕ) : Type 0 where
  pub room_is : count ≤ room
  pub few : count ≤ length bytes
  pub same : take count bytes ≡ take room bytes
  pub whole : count ≡ length (take room bytes)

pub fitting : (bytes : List ℕ) (count room : ℕ) → (length bytes ≤ room → count ≡ length bytes) → (room ≤ length bytes → count ≡ room) → Fits bytes count room
fitting bytes count room less more = elim (cases_lt (length bytes) room) [
  | inl short ↦
      let e = less (omega arith) in
      let all : take room bytes ≡ bytes = take_all room bytes (omega arith) in
      record { room_is = omega arith; few = omega arith; same = ap (λ (k : ℕ). take k bytes) e ∙ take_all (length bytes) bytes (omega arith) ∙ sym all; whole = e ∙ sym (ap length all) }
  | inr long ↦ let e = more long in record { room_is = omega arith; few = omega arith; same = ap (λ (k : ℕ). take k bytes) e; whole = e ∙ sym (length-take-le room bytes long) }
]

module _ (h : Host) (s : Chain) (is : IsHost h) (serving : h.serving ≡ Some s) (key : ℕ) (of : IsOfSlot h key s) (pos : ℕ) (r : Ring) (has : HasRing h r) (at : pos ≡ r.taken % 65536)
    (bytes : List ℕ) (count : ℕ) (fits : Fits bytes count s.writable.len) (m1 m2 : List ℕ)
    (one : m1 ≡ overwrite s.writable.addr (take count bytes) h.mem) (long1 : length m1 ≡ length h.mem) (two : m2 ≡ written (used_writes h.layout pos s.head count) m1) (long2 : length m2 ≡ length m1) where
  held : r.held ≡ [] ++ pair_of s ∷ []
  held = has.held ∙ ap served_by serving

  part_long : length (take count bytes) ≡ count
  part_long = length-take-le count bytes fits.few

  stands_one : Stands m1 h.driver r
  stands_one =
      let a = of.answer in
      let k = of.below in
      let i = is.inside in
      elsewhere h m1 s.writable.addr (take count bytes) r is (omega (arith, a)) (omega (arith, a, k, i)) one long1 has.stands

  used_is : used r ≡ r.taken
  used_is = let b : length r.done ≡ 0 = ap length has.done in omega (arith, b)

  small : count < 2 ^ 32
  small = let a = of.room in let b = fits.room_is in omega (arith, a, b)

  two_is : m2 ≡ written (used_writes h.driver.layout (used r % 65536) s.head count) m1
  two_is =
      two ∙ ap (λ (l : Layout). written (used_writes l pos s.head count) m1) (sym is.driven)
      ∙ ap (λ (k : ℕ). written (used_writes h.driver.layout k s.head count) m1) (at ∙ ap (λ (k : ℕ). k % 65536) (sym used_is))

  abbrev used_ring : Ring
  used_ring = with_used r [] (pair_of s) [] count

  pub stands_two : Stands m2 h.driver (with_used r [] (pair_of s) [] count)
  stands_two = subst (λ (m : List ℕ). Stands m h.driver (with_used r [] (pair_of s) [] count)) (sym two_is) (has_used m1 h.driver r [] (pair_of s) [] count stands_one held small)

  outside : SameBytes h.driver.layout.end (length m1) m1 m2
  outside = subst (λ (m : List ℕ). SameBytes h.driver.layout.end (length m1) m1 m) (sym two_is) (outside_kept m1 h.driver r [] (pair_of s) [] count stands_one held small)

  -- the driver's descriptors stand as it wrote them
  in_table : AreInTable m1 h.driver.layout ([] ++ pair_of s ∷ [])
  in_table = subst (λ (ps : List Pair). AreInTable m1 h.driver.layout ps) held stands_one.held_chains

  descriptor_stays : descriptor m2 h.driver.layout.table s.head ≡ first_of (pair_of s)
  descriptor_stays =
      let place = placed_ring (length m1) h.driver.layout stands_one.lies in
      let a = place.avail in
      let b = place.used in
      let k = in_table.0.below in
      let before : SameBytes 0 h.driver.layout.used m1 m2 = subst (λ (m : List ℕ). SameBytes 0 h.driver.layout.used m1 m) (sym two_is) (rest_kept m1 h.driver r [] (pair_of s) [] count stands_one held small) in
      descriptor_same h.driver.layout s.head 0 h.driver.layout.used m1 m2 before (omega arith) (omega (arith, a, b, k)) ∙ in_table.0.first

  pub command_at_head : (head addr : ℕ) → head ≡ s.head → addr ≡ (descriptor m2 h.layout.table head).addr → addr ≡ h.slots + 512 * key
  command_at_head head addr here e =
      e ∙ ap (λ (l : Layout). (descriptor m2 l.table head).addr) (sym is.driven) ∙ ap (λ (k : ℕ). (descriptor m2 h.driver.layout.table k).addr) here ∙ ap (λ (x : Descriptor). x.addr) descriptor_stays ∙ of.command

  pub head_fits : (head : ℕ) → head ≡ s.head → head < h.layout.size
  head_fits head here = let c = in_table.0.below in let e : h.driver.layout.size ≡ h.layout.size = ap (λ (l : Layout). l.size) is.driven in omega (arith, here, c, e)

  done_is : r.done ++ record { head = s.head; length = count } ∷ [] ≡ record { head = s.head; length = count } ∷ []
  done_is = ap (λ (es : List Element). es ++ record { head = s.head; length = count } ∷ []) has.done

  -- ---- the bytes of the slots

  slots_stay : SameBytes h.slots (length h.mem) m1 m2
  slots_stay =
      let e : h.driver.layout.end ≡ h.layout.end = ap (λ (l : Layout). l.end) is.driven in
      let b = is.behind in
      same_within h.driver.layout.end (length m1) h.slots (length h.mem) m1 m2 outside (omega (arith, e, b)) (omega (arith, long1))

  pub before_answer : SameBytes h.slots s.writable.addr h.mem m2
  before_answer =
      let a = of.answer in
      let k = of.below in
      let i = is.inside in
      same_twice h.slots s.writable.addr h.mem m1 m2
      (same_within 0 s.writable.addr h.slots s.writable.addr h.mem m1 (overwritten_before s.writable.addr (take count bytes) h.mem m1 (omega (arith, a, k, i)) one) (omega arith) (omega arith))
      (same_within h.slots (length h.mem) h.slots s.writable.addr m1 m2 slots_stay (omega arith) (omega (arith, a, k, i)))

  pub behind_answer : SameBytes (s.writable.addr + s.writable.len) (length h.mem) h.mem m2
  behind_answer =
      let a = of.answer in
      let k = of.below in
      let i = is.inside in
      let f = fits.room_is in
      same_twice (s.writable.addr + s.writable.len) (length h.mem) h.mem m1 m2
      (same_within (s.writable.addr + count) (length h.mem) (s.writable.addr + s.writable.len) (length h.mem) h.mem m1 (overwritten_after s.writable.addr (length h.mem) count (take count bytes) h.mem m1 (omega (arith, a, k, i)) one part_long) (omega (arith, f)) (omega arith))
      (same_within h.slots (length h.mem) (s.writable.addr + s.writable.len) (length h.mem) m1 m2 slots_stay (omega (arith, a)) (omega arith))

  pub answer_there : bytes_at s.writable.addr count m2 ≡ take s.writable.len bytes
  answer_there =
      let a = of.answer in
      let k = of.below in
      let i = is.inside in
      let f = fits.room_is in
      let w = of.room in
      let p = part_long in
      bytes_same s.writable.addr count h.slots (length h.mem) m1 m2 slots_stay (omega (arith, a)) (omega (arith, a, k, i, f, w)) (omega (arith, a, k, i, f, w, long1)) long2
      ∙ ap (bytes_at s.writable.addr count) one ∙ ap (λ (n : ℕ). bytes_at s.writable.addr n (overwrite s.writable.addr (take count bytes) h.mem)) (sym part_long)
      ∙ bytes_at-overwrite_same s.writable.addr (take count bytes) h.mem (omega (arith, a, k, i, f, w, p)) ∙ fits.same

  -- ---- the driver takes the chain back

  module _ (result : TakenUsed) (after : Driver) (took : HasTaken result m2 h.driver (with_used r [] (pair_of s) [] count) after) where
    pub not_empty : result ≡ NoneUsed → ⊥
    not_empty e =
        let t : HasTaken NoneUsed m2 h.driver (with_used r [] (pair_of s) [] count) after = subst (λ (x : TakenUsed). HasTaken x m2 h.driver (with_used r [] (pair_of s) [] count) after) e took in
        let none : List Element = [] in
        let some : List Element = record { head = s.head; length = count } ∷ [] in
        let no : some ≡ none = sym done_is ∙ t.0 in
        absurd (cc)

    pub record IsBack (head written : ℕ) : Type 0 where
      pub head_back : head ≡ s.head
      pub whole : written ≡ count
      pub ring : HasRing (record h { mem = m2; driver = after; serving = None }) (with_completed r)

    pub back : (head written : ℕ) → result ≡ Used head written → IsBack head written
    back head written e =
        let t : HasTaken (Used head written) m2 h.driver (with_used r [] (pair_of s) [] count) after = subst (λ (x : TakenUsed). HasTaken x m2 h.driver (with_used r [] (pair_of s) [] count) after) e took in
        let same : record { head = s.head; length = count } ∷ [] ≡ record { head = head; length = written } ∷ t.0 = sym done_is ∙ t.1 in
        let mine : Element = record { head = s.head; length = count } in
        let theirs : Element = record { head = head; length = written } in
        let element : mine ≡ theirs = cc in
        let none : List Element = [] in
        let rest : none ≡ t.0 = cc in
        record {
          head_back = sym (ap (λ (x : Element). x.head) element);
          whole = sym (ap (λ (x : Element). x.length) element);
          ring = record {
            stands = subst (λ (es : List Element). Stands m2 after (with_taken (with_used r [] (pair_of s) [] count) es)) (sym rest) t.2;
            held = refl;
            done = refl;
          };
        }
