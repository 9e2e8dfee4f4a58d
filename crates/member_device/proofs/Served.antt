-- A service that is done is the one that was planned.
use Rattle.std.proofs.Common.{◌≡◌, ℕ, Option, Bool, true, false, List, [], ◌∷◌, ◌++◌, length, drop, refl, sym, ap, ◌∙◌, arith}
use Rattle.std.specs.Prelude.{◌==◌, ◌&&◌, ◌||◌, if◌then◌else◌}
use Rattle.std.proofs.lemmas.Bool.Decides.{nat_tests}
use Rattle.ring_layout.specs.declared.layout.Layout.{Layout}
use Rattle.ring_layout.specs.declared.descriptor.Descriptor.{Descriptor}
use Rattle.ring_layout.specs.Chain.{Write, written, scattered, used_writes, writable_part, available}
use Rattle.legacy_regs.specs.Registers.{uses_events}
use Rattle.blk_engine.specs.Block.{stored}
use Rattle.legacy_regs.specs.declared.interrupts.Irq.{Irq}
use Rattle.group_calls.specs.declared.member.MemberReply.TheVariants.{Served}
use Rattle.group_calls.specs.Facts.{Facts}
use Rattle.group_calls.specs.Steps.{serves, service, interrupt, event_writes, outcome_reply}
use Rattle.member_device.specs.declared.plan.Place.{Place}
use Rattle.member_device.specs.Device.{Holdings, left_by_step}
use Rattle.member_device.specs.Plan.{facts_of, event_writes_if, put_back, raised_by}

written-append : (ws us : List Write) (memory : List ℕ) → written (ws ++ us) memory ≡ written us (written ws memory)
written-append [] us memory = refl
written-append (w ∷ ws) us memory = written-append ws us _

-- three lists of writes, one after another
in_turn : (ws us vs : List Write) (memory : List ℕ) → written (ws ++ us ++ vs) memory ≡ written vs (written us (written ws memory))
in_turn ws us vs memory = written-append (ws ++ us) vs memory ∙ ap (written vs) (written-append ws us memory)

service-is : (memory : List ℕ) (f : Facts) (q : ℕ) (l : Layout) (ds : List Descriptor) (reply disk sent : List ℕ)
    → service memory f q l ds reply disk sent ≡ serves record {
      reply = reply;
      writes = scattered (writable_part ds) reply ++ used_writes l (f.position q) (available memory l (f.position q)) (length reply) ++ event_writes f q l;
      disk = disk;
      sent = sent;
      irq = interrupt memory f q l;
    }
unfolding service
service-is memory f q l ds reply disk sent = refl

left_waiting : (first : Bool) (waiting : List (List ℕ)) → (if first then drop 1 waiting else waiting) ≡ (if (first && true) || false then drop 1 waiting else waiting)
left_waiting true waiting = refl
left_waiting false waiting = refl

-- ---- the frames that wait

none_leaves : (q : ℕ) (waiting : List (List ℕ)) → waiting ≡ [] → waiting ≡ (if q == 0 then drop 1 waiting else waiting)
none_leaves q waiting none = rw none (either (q == 0))
  where
    either : (first : Bool) → (let none : List (List ℕ) = [] in none ≡ (if first then drop 1 none else none))
    either true = refl
    either false = refl

first_leaves : (q : ℕ) (waiting : List (List ℕ)) → q ≡ 0 → drop 1 waiting ≡ (if q == 0 then drop 1 waiting else waiting)
first_leaves q waiting is = let test : (q == 0) ≡ true = grind (arith, nat_tests, is) in rw test refl

all_stay : (q : ℕ) (waiting : List (List ℕ)) → ¬ (q ≡ 0) → waiting ≡ (if q == 0 then drop 1 waiting else waiting)
all_stay q waiting other = let test : (q == 0) ≡ false = grind (arith, nat_tests, other) in rw test refl

-- ---- services

module _ (d : Holdings) (q position : ℕ) (p : Place) (reply : List ℕ) (irq : Irq) where
  -- what a service leaves
  module _ (pending : Bool) (irq_is : irq ≡ interrupt d.memory (facts_of d position pending) q p.layout) where
    pub served_reply : (count : ℕ) (disk sent : List ℕ) → count ≡ length reply → Served count irq sent ≡ outcome_reply (service d.memory (facts_of d position pending) q p.layout p.chain.parts reply disk sent)
    served_reply count disk sent count_is = rw service-is (ap (λ (n : ℕ). Served n irq sent) count_is ∙ ap (λ (i : Irq). Served (length reply) i sent) irq_is)

    module _ (head_is : p.chain.head ≡ available d.memory p.layout position) where
      abbrev events : Bool
      events = uses_events d.registers

      abbrev replied : List Write
      replied = scattered (writable_part p.chain.parts) reply

      abbrev used_at : ℕ → List Write
      used_at head = used_writes p.layout position head (length reply)

      abbrev writes : List Write
      writes = replied ++ used_at (available d.memory p.layout position) ++ event_writes_if events position p.layout

      memory_is : put_back events d.memory position p reply ≡ written writes d.memory
      memory_is =
          ap (λ (h : ℕ). written (event_writes_if events position p.layout) (written (used_at h) (written replied d.memory))) head_is
          ∙ sym (in_turn replied (used_at (available d.memory p.layout position)) (event_writes_if events position p.layout) d.memory)

      served_leaves : (done : Holdings) (disk sent : List ℕ) (waiting : List (List ℕ))
          → done ≡ record d { registers = raised_by irq d.registers; memory = put_back (uses_events d.registers) d.memory position p reply; disk = disk; waiting = waiting }
          → waiting ≡ (if q == 0 then drop 1 d.waiting else d.waiting)
          → done ≡ left_by_step q (service d.memory (facts_of d position pending) q p.layout p.chain.parts reply disk sent) d
      served_leaves done disk sent waiting done_is waiting_is = rw service-is (done_is
          ∙ ap (λ (i : Irq). record d { registers = raised_by i d.registers; memory = put_back (uses_events d.registers) d.memory position p reply; disk = disk; waiting = waiting }) irq_is
          ∙ ap (λ (m : List ℕ). record d { registers = raised_by (interrupt d.memory (facts_of d position pending) q p.layout) d.registers; memory = m; disk = disk; waiting = waiting }) memory_is
          ∙ ap (λ (w : List (List ℕ)). record d { registers = raised_by (interrupt d.memory (facts_of d position pending) q p.layout) d.registers; memory = written writes d.memory; disk = disk; waiting = w }) (waiting_is ∙ left_waiting (q == 0) d.waiting))

      module _ (used : Holdings) (used_is : used ≡ record d { registers = raised_by irq d.registers; memory = put_back (uses_events d.registers) d.memory position p reply }) where
        -- a request of a block device, for which no frame waits
        pub request_leaves : (done : Holdings) (at : Option ℕ) (request : List ℕ) → done ≡ record used { disk = stored at request used.disk } → d.waiting ≡ []
            → done ≡ left_by_step q (service d.memory (facts_of d position pending) q p.layout p.chain.parts reply (stored at request d.disk) []) d
        request_leaves done at request done_is none =
            served_leaves done _ [] d.waiting
            (done_is ∙ ap (λ (x : Holdings). record x { disk = stored at request x.disk }) used_is)
            (none_leaves q d.waiting none)

        -- a frame that was received
        pub frame_leaves : (done : Holdings) → done ≡ record used { waiting = drop 1 used.waiting } → q ≡ 0
            → done ≡ left_by_step q (service d.memory (facts_of d position pending) q p.layout p.chain.parts reply d.disk []) d
        frame_leaves done done_is first =
            served_leaves done d.disk [] (drop 1 d.waiting) (done_is ∙ ap (λ (x : Holdings). record x { waiting = drop 1 x.waiting }) used_is) (first_leaves q d.waiting first)

        -- and nothing but the chain
        pub chain_leaves : (sent : List ℕ) → ¬ (q ≡ 0) → used ≡ left_by_step q (service d.memory (facts_of d position pending) q p.layout p.chain.parts reply d.disk sent) d
        chain_leaves sent other = served_leaves used d.disk sent d.waiting used_is (all_stay q d.waiting other)
