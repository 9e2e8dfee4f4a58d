-- The invariant of a queue, call by call.
use Rattle.std.proofs.Common.{◌≡◌, ◌≢◌, ℕ, ◌+◌, ◌-◌, ◌/◌, ◌^◌, ◌<◌, ◌≤◌, inl, inr, true, false, List, [], ◌∷◌, length, take, Option, Some, None, arith, refl, sym, ap, ◌∙◌, subst}
use Rattle.std.specs.Prelude.{is_some}
use Rattle.std.proofs.lemmas.Bool.{cases_eq, cases_lt}
use Rattle.std.proofs.lemmas.List.{length-take-le, take_all}
use Rattle.byte_fields.specs.Places.{bytes_at}
use Rattle.byte_fields.specs.Sizes.{is_queue_size}
use Rattle.slab.specs.Slab.{Slab, get, slab_len, Updates}
use Rattle.ring_layout.specs.declared.layout.Layout.{Layout}
use Rattle.ring_driver.specs.declared.span.Span.{Span}
use Rattle.ring_driver.specs.Same.{SameBytes}
use Rattle.ring_driver.specs.Between.{Ring, with_fetched}
use Rattle.ring_driver.proofs.Bytes.{same_within}
use Rattle.history.specs.Kept.{Kept}
use Rattle.group_calls.specs.declared.queue.Tag.{Tag}
use Rattle.group_calls.specs.declared.queue.RingCall.TheVariants.{Post, Pop, Complete, Take}
use Rattle.group_calls.specs.declared.queue.RingReply.{RingReply}
use Rattle.group_calls.specs.declared.queue.RingReply.TheVariants.{Seq, Fetched, InService, Completed, Stale, Empty}
use Rattle.group_calls.specs.Queue.{RingEntry, pop_answer, take_answer, is_quiet_reply}
use Rattle.group_calls.proofs.Old.{old_closed}
use Rattle.admin_ring.specs.declared.table.Note.{Note}
use Rattle.admin_ring.specs.declared.host.Host.{Host}
use Rattle.admin_ring.specs.declared.host.Chain.{Chain}
use Rattle.admin_ring.specs.Slots.{Slot, command_at, answer_at, slot_at, slot_in, slot_if_noted}
use Rattle.admin_ring.specs.Finding.{Finds, new_note, fetched_note, completed, answered}
use Rattle.admin_ring.specs.Host.{IsHost, HasRing, HasPosted, HasFetched, IsOfSlot, SamePlaces, OthersStay, slot_count, pair_of, with_completed}
use Rattle.admin_ring.specs.Kept.{Changes, owed, slot_of, taken_answer, fetched_answer}
use Rattle.admin_ring.specs.Bytes.{IsNote, IsCommand, IsOpen, HasSlots, HasRooms, IsQueue}
use Rattle.admin_ring.proofs.Replies.{pop_serving, pop_next, found_none, found_some}
use Rattle.admin_ring.proofs.Keeping.{past_none, keeps_alike, keeps_post, keeps_pop, keeps_complete, keeps_take, take_kept, taken_done}
use Rattle.admin_ring.proofs.Slots.{bytes_same, changes}
use Rattle.admin_ring.proofs.Rooms.{room_fits, rooms_after}
use Rattle.admin_ring.proofs.Open.{open_post, open_pop, open_complete, open_take, none_held, one_held, next_command, none_waits}

take_few : (n : ℕ) (xs : List ℕ) → length (take n xs) ≤ n
take_few n xs = elim (cases_lt (length xs) n) [
  | inl short ↦ let e = ap length (take_all n xs (omega arith)) in omega (arith, e, short)
  | inr long ↦ let e = length-take-le n xs long in omega (arith, e)
]

-- ---- what stays

pub same_host : (h later : Host) → IsHost h → SamePlaces h later → IsHost later
same_host h later is places =
    let end : later.layout.end ≡ h.layout.end = ap (λ (l : Layout). l.end) places.layout in
    let half : slot_count later ≡ slot_count h = ap (λ (l : Layout). l.size / 2) places.layout in
    let slots = places.slots in
    let long = places.length_is in
    let a = is.behind in
    let b = is.inside in
    let c = is.small in
    record {
      size = ap (λ (l : Layout). is_queue_size l.size) places.layout ∙ is.size;
      driven = places.driver ∙ is.driven ∙ sym places.layout;
      behind = omega (arith, a, end, slots);
      inside = omega (arith, b, half, slots, long);
      small = omega (arith, c, half, slots);
    }

notes_after : (many key : ℕ) (table now : Slab Note) (o : Option Note) → Updates table now key o → ((x : Note) → o ≡ Some x → IsNote many key x) → ((k : ℕ) (x : Note) → get table k ≡ Some x → IsNote many k x)
    → (k : ℕ) (x : Note) → get now k ≡ Some x → IsNote many k x
notes_after many key table now o up new old k x at = elim (cases_eq k key) [
  | inl e ↦ subst (λ (j : ℕ). IsNote many j x) (sym e) (new x (sym up.changed ∙ ap (get now) (sym e) ∙ at))
  | inr off ↦ old k x (sym (up.others k off) ∙ at)
]

slots_after : (size : ℕ) (h later : Host) (table now : Slab Note) → HasSlots size h table → SamePlaces h later → now.capacity ≡ table.capacity → ((k : ℕ) (x : Note) → get now k ≡ Some x → IsNote (slot_count h) k x) → HasSlots size later now
slots_after size h later table now has places same notes = record {
  size_is = ap (λ (l : Layout). l.size) places.layout ∙ has.size_is;
  keys = same ∙ has.keys;
  notes = λ k x at. subst (λ (many : ℕ). IsNote many k x) (sym (ap (λ (l : Layout). l.size / 2) places.layout)) (notes k x at);
}

-- a change of one slot, whatever the slots' place is called
changes_later : (h later : Host) (at : ℕ → Option Slot) (now : Slab Note) (key : ℕ) (slot : Option Slot) → later.slots ≡ h.slots → Changes at (slot_at later.mem h.slots now) key slot → Changes at (slot_at later.mem later.slots now) key slot
changes_later h later at now key slot same c = subst (λ (s : ℕ). Changes at (slot_at later.mem s now) key slot) (sym same) c

module _ (size n f d : ℕ) (floors : Option (List ℕ)) (host : Host) (table : Slab Note) (log : Kept RingEntry) (q : IsQueue size n f d floors host table log) where
  -- ---- Post

  pub fresh : (s : ℕ) → n ≤ s → Finds (get table) s None
  fresh s past = λ key x there same.
      let found : slot_of log.entries x.seq ≡ Some (slot_in host.mem host.slots key x) = q.past.holds.sound key (slot_in host.mem host.slots key x) (ap (slot_if_noted host.mem host.slots key) there) in
      let none : slot_of log.entries x.seq ≡ None = past_none n f d floors log.entries x.seq q.past.counts (omega (arith, past, same)) in
      let no : None ≡ Some (slot_in host.mem host.slots key x) = sym none ∙ found in
      cc

  pub key_below : (key : ℕ) → key < table.capacity → key < slot_count host
  key_below key below = let a = q.slots.keys in let half : slot_count host ≡ size / 2 = ap (λ (k : ℕ). k / 2) q.slots.size_is in omega (arith, below, a, half)

  module _ (later : Host) (now : Slab Note) (log_later : Kept RingEntry) (who : ℕ) (bytes : List ℕ) (writable : ℕ) (tag : Tag) (key : ℕ) (unclosed : floors ≡ None) (few : slab_len table < size / 2)
      (up : Updates table now key (Some (new_note n (length bytes) writable tag))) (vacant : get table key ≡ None) (more : slab_len now ≡ slab_len table + 1)
      (same : now.capacity ≡ table.capacity) (below : key < table.capacity) (short : length bytes ≤ 256) (room : writable ≤ 256)
      (posted : (r : Ring) → HasRing host r → HasPosted host later r key (length bytes) writable) (there : bytes_at (command_at host.slots key) (length bytes) later.mem ≡ bytes) (others : OthersStay host later key) (places : SamePlaces host later) where
    abbrev note : Note
    note = new_note n (length bytes) writable tag

    posted_note : IsNote (slot_count host) key note
    posted_note = record { slot = key_below key below; command = short; room = room; answer = tt; spare = room_fits writable room }

    slot_posted : Changes (slot_at host.mem host.slots table) (slot_at later.mem host.slots now) key (Some record { seq = n; bytes = bytes; writable = writable; tag = tag; completion = None })
    slot_posted =
        let c = changes (slot_count host) host.slots key table now (Some note) host.mem later.mem up others q.memory.inside places.length_is q.slots.notes in
        record {
          changed = c.changed ∙ ap (λ (bs : List ℕ). Some record { seq = n; bytes = bs; writable = writable; tag = tag; completion = None }) there;
          others = c.others;
        }

    pub queue_post : who < 26 → log_later.entries ≡ record { who = who; call = Post bytes writable tag; reply = Seq n } ∷ log.entries
        → length log.entries + (owed n f d (slab_len table) + 4) ≤ log_later.room → length log.entries + (owed n f d (slab_len table) + 4) ≤ 2 ^ 62
        → IsQueue size (n + 1) f d floors later now log_later
    queue_post some e fits most = record {
      past = keeps_post size n f d floors (slot_at host.mem host.slots table) (slot_at later.mem later.slots now) (slab_len table) (slab_len now) log log_later who bytes writable tag key q.past unclosed some room few
          (changes_later host later (slot_at host.mem host.slots table) now key (Some record { seq = n; bytes = bytes; writable = writable; tag = tag; completion = None }) places.slots slot_posted)
          (ap (slot_if_noted host.mem host.slots key) vacant) more e fits most;
      memory = same_host host later q.memory places;
      slots = slots_after size host later table now q.slots places same
          (notes_after (slot_count host) key table now (Some note) up (λ x is. let one : note ≡ x = cc in subst (IsNote (slot_count host) key) one posted_note) q.slots.notes);
      rooms = rooms_after f f key table now (Some note) up (λ x is late. let one : note ≡ x = cc in subst (λ (y : Note). y.len ≤ y.command_room) one (room_fits (length bytes) short)) (omega arith) q.rooms;
      open_ring = λ unclosed_now. open_post n f d host table (q.open_ring unclosed) later now key note up vacant refl refl places.slots (posted (q.open_ring unclosed).ring (q.open_ring unclosed).has);
    }

  -- ---- Pop

  pub pop_empty : (unclosed : floors ≡ None) → host.serving ≡ None → (q.open_ring unclosed).ring.waiting ≡ [] → Empty ≡ pop_answer log.entries
  pop_empty unclosed idle none =
      let o = q.open_ring unclosed in
      let e = (none_held n f d host table o idle).1 in
      let all = none_waits n f d host table o none in
      sym (pop_next n f d floors log.entries q.past.counts unclosed (omega (arith, e)) ∙ ap fetched_answer (past_none n f d floors log.entries f q.past.counts all))

  module _ (unclosed : floors ≡ None) (later : Host) (s : Chain) (idle : host.serving ≡ None) (fetched : HasFetched (Some s) host later (q.open_ring unclosed).ring) where
    abbrev o : IsOpen n f d host table
    o = q.open_ring unclosed

    pub next : IsCommand table host.slots f (pair_of s)
    next = next_command n f d host table o s fetched.0 fetched.1

    pub next_note : IsNote (slot_count host) next.key next.note
    next_note = q.slots.notes next.key next.note next.noted

    pub next_at : s.readable.addr ≡ command_at later.slots next.key
    next_at = ap (λ (x : Span). x.addr) next.readable ∙ ap (λ (h : Host). command_at h.slots next.key) (sym fetched.3)

    pub next_key : (s.readable.addr - later.slots) / 512 ≡ next.key
    next_key = let a = next_at in omega (arith, a)

    pub next_inside : s.readable.addr + s.readable.len ≤ length later.mem
    next_inside =
        let a : s.readable.addr ≡ command_at host.slots next.key = ap (λ (x : Span). x.addr) next.readable in
        let b : s.readable.len ≡ next.note.len = ap (λ (x : Span). x.len) next.readable in
        let e : length later.mem ≡ length host.mem = ap (λ (h : Host). length h.mem) fetched.3 in
        let c = next_note.slot in
        let i = q.memory.inside in
        let l = next_note.command in
        omega (arith, a, b, c, e, i, l)

    -- its note
    pub next_noted : (key : ℕ) → key ≡ (s.readable.addr - later.slots) / 512 → get table key ≡ Some next.note
    next_noted key is = ap (get table) (is ∙ next_key) ∙ next.noted

    -- there is room for its bytes
    pub next_fits : (key room : ℕ) → key ≡ (s.readable.addr - later.slots) / 512 → ((x : Note) → get table key ≡ Some x → room ≡ x.command_room) → s.readable.len ≤ room
    next_fits key room is room_is =
        let a = room_is next.note (next_noted key is) in
        let b : s.readable.len ≡ next.note.len = ap (λ (x : Span). x.len) next.readable in
        let e = next.seq in
        let c = q.rooms next.key next.note next.noted (omega (arith, e)) in
        omega (arith, a, b, c)

    pub gives : (key : ℕ) (tag : Tag) (bytes : List ℕ) → key ≡ (s.readable.addr - later.slots) / 512 → ((x : Note) → get table key ≡ Some x → tag ≡ x.tag) → bytes ≡ bytes_at s.readable.addr s.readable.len later.mem
        → Fetched f bytes s.writable.len tag ≡ pop_answer log.entries
    gives key tag bytes is tag_is bytes_are =
        let there : slot_at host.mem host.slots table next.key ≡ Some (slot_in host.mem host.slots next.key next.note) = ap (slot_if_noted host.mem host.slots next.key) next.noted in
        let of : slot_of log.entries f ≡ Some (slot_in host.mem host.slots next.key next.note) = found_some (slot_at host.mem host.slots table) (slot_of log.entries) q.past.holds f next.key (slot_in host.mem host.slots next.key next.note) there next.seq in
        let room : s.writable.len ≡ next.note.writable = ap (λ (x : Span). x.len) next.writable in
        let b : bytes ≡ bytes_at (command_at host.slots next.key) next.note.len host.mem
        = bytes_are ∙ ap (λ (h : Host). bytes_at s.readable.addr s.readable.len h.mem) fetched.3 ∙ ap (λ (x : Span). bytes_at x.addr x.len host.mem) next.readable in
        let e = (none_held n f d host table o idle).1 in
        ap (λ (k : ℕ). Fetched k bytes s.writable.len tag) (sym next.seq)
        ∙ ap (λ (t : Tag). Fetched next.note.seq bytes s.writable.len t) (tag_is next.note (next_noted key is))
        ∙ ap (λ (bs : List ℕ). Fetched next.note.seq bs s.writable.len next.note.tag) b
        ∙ ap (λ (w : ℕ). Fetched next.note.seq (bytes_at (command_at host.slots next.key) next.note.len host.mem) w next.note.tag) room
        ∙ ap fetched_answer (sym of) ∙ sym (pop_next n f d floors log.entries q.past.counts unclosed (omega (arith, e)))

    module _ (now : Slab Note) (key : ℕ) (is : key ≡ (s.readable.addr - later.slots) / 512) (up_back : (x : Note) → get table key ≡ Some x → Updates table now key (Some (fetched_note x))) (alike : slab_len now ≡ slab_len table) (same : now.capacity ≡ table.capacity) where
      up_next : Updates table now next.key (Some (fetched_note next.note))
      up_next = subst (λ (k : ℕ). Updates table now k (Some (fetched_note next.note))) (is ∙ next_key) (up_back next.note (next_noted key is))

      -- the slots hold what they held
      slots_alike : (k : ℕ) → slot_at host.mem host.slots now k ≡ slot_at host.mem host.slots table k
      slots_alike k = elim (cases_eq k next.key) [
        | inl e ↦
            ap (slot_at host.mem host.slots now) e ∙ ap (slot_if_noted host.mem host.slots next.key) up_next.changed
            ∙ sym (ap (slot_at host.mem host.slots table) e ∙ ap (slot_if_noted host.mem host.slots next.key) next.noted)
        | inr off ↦ ap (slot_if_noted host.mem host.slots k) (up_next.others k off)
      ]

      next_later : IsNote (slot_count host) next.key (fetched_note next.note)
      next_later = record { slot = next_note.slot; command = next_note.command; room = next_note.room; answer = next_note.answer; spare = next_note.spare }

      rooms_later : HasRooms (f + 1) now
      rooms_later = rooms_after f (f + 1) next.key table now (Some (fetched_note next.note)) up_next
          (λ x at late. let one : fetched_note next.note ≡ x = cc in let e : next.note.seq ≡ x.seq = ap (λ (y : Note). y.seq) one in let seq = next.seq in absurd (omega (arith, e, seq, late))) (omega arith) q.rooms

      pub queue_pop : (log_later : Kept RingEntry) (who : ℕ) (reply : RingReply) → who < 26 → reply ≡ pop_answer log.entries → is_quiet_reply reply ≡ false → log_later.entries ≡ record { who = who; call = Pop; reply = reply } ∷ log.entries → log.room ≤ log_later.room
          → IsQueue size n (f + 1) d floors later now log_later
      unfolding next
      queue_pop log_later who reply some gives_it loud e wide =
          let has : HasRing (record host { serving = Some s }) (with_fetched o.ring (pair_of s) fetched.0) = subst (λ (h : Host). HasRing h (with_fetched o.ring (pair_of s) fetched.0)) fetched.3 fetched.2 in
          subst (λ (h : Host). IsQueue size n (f + 1) d floors h now log_later) (sym fetched.3)
          (record {
            past = keeps_alike size n (f + 1) d floors (slot_at host.mem host.slots table) (slot_at host.mem host.slots now) (slab_len table) (slab_len now) log_later slots_alike alike
                (keeps_pop size n f d floors (slot_at host.mem host.slots table) (slab_len table) log log_later who reply q.past some gives_it loud e wide);
            memory = record { size = q.memory.size; driven = q.memory.driven; behind = q.memory.behind; inside = q.memory.inside; small = q.memory.small };
            slots = record {
              size_is = q.slots.size_is;
              keys = same ∙ q.slots.keys;
              notes = notes_after (slot_count host) next.key table now (Some (fetched_note next.note)) up_next (λ x at. let one : fetched_note next.note ≡ x = cc in subst (IsNote (slot_count host) next.key) one next_later) q.slots.notes;
            };
            rooms = rooms_later;
            open_ring = λ u. open_pop n f d host table o s fetched.0 idle fetched.1 has now up_next;
          })

  -- ---- Complete

  module _ (unclosed : floors ≡ None) (s : Chain) (serving : host.serving ≡ Some s) where
    pub served : IsCommand table host.slots d (pair_of s)
    served = (one_held n f d host table (q.open_ring unclosed) s serving).0

    pub busy : d < f
    busy = let a = (one_held n f d host table (q.open_ring unclosed) s serving).1 in omega (arith, a)

    served_note : IsNote (slot_count host) served.key served.note
    served_note = q.slots.notes served.key served.note served.noted

    room_is : s.writable.len ≡ served.note.writable
    room_is = ap (λ (x : Span). x.len) served.writable

    answer_is : s.writable.addr ≡ answer_at host.slots served.key
    answer_is = ap (λ (x : Span). x.addr) served.writable

    pub of_slot : IsOfSlot host served.key s
    of_slot = let w = served_note.room in let e = room_is in record { below = served_note.slot; command = ap (λ (x : Span). x.addr) served.readable; answer = answer_is; room = omega (arith, w, e) }

    module _ (later : Host) (now : Slab Note) (log_later : Kept RingEntry) (who seq floor : ℕ) (bytes : List ℕ) (key count : ℕ) (key_is : key ≡ served.key) (whole : count ≡ length (take s.writable.len bytes))
        (answer : bytes_at s.writable.addr count later.mem ≡ take s.writable.len bytes) (before : SameBytes host.slots s.writable.addr host.mem later.mem) (behind : SameBytes (s.writable.addr + s.writable.len) (length host.mem) host.mem later.mem)
        (places : SamePlaces host later) (ring : HasRing later (with_completed (q.open_ring unclosed).ring))
        (up_back : (x : Note) → get table key ≡ Some x → Updates table now key (Some (answered x count floor))) (alike : slab_len now ≡ slab_len table) (same : now.capacity ≡ table.capacity) where
      up : Updates table now served.key (Some (answered served.note count floor))
      up = subst (λ (k : ℕ). Updates table now k (Some (answered served.note count floor))) key_is (up_back served.note (ap (get table) key_is ∙ served.noted))

      fits : count ≤ served.note.writable
      fits = let e = room_is in let few = take_few s.writable.len bytes in omega (arith, e, few, whole)

      others_stay : OthersStay host later served.key
      others_stay k off near =
          let a = answer_is in
          let b = of_slot.room in
          let c = of_slot.below in
          let i = q.memory.inside in
          elim (cases_lt k served.key) [
            | inl less ↦ same_within host.slots s.writable.addr (command_at host.slots k) (command_at host.slots k + 512) host.mem later.mem before (omega arith) (omega (arith, a, less))
            | inr more ↦ same_within (s.writable.addr + s.writable.len) (length host.mem) (command_at host.slots k) (command_at host.slots k + 512) host.mem later.mem behind (omega (arith, a, b, more, off)) (omega (arith, near, i))
          ]

      command_stays : bytes_at (command_at host.slots served.key) served.note.len later.mem ≡ bytes_at (command_at host.slots served.key) served.note.len host.mem
      command_stays =
          let a = answer_is in
          let c = of_slot.below in
          let i = q.memory.inside in
          let l = served_note.command in
          bytes_same (command_at host.slots served.key) served.note.len host.slots s.writable.addr host.mem later.mem before (omega arith) (omega (arith, a, l)) (omega (arith, c, i, l)) places.length_is

      answer_there : bytes_at (answer_at host.slots served.key) count later.mem ≡ take served.note.writable bytes
      answer_there = ap (λ (addr : ℕ). bytes_at addr count later.mem) (sym answer_is) ∙ answer ∙ ap (λ (k : ℕ). take k bytes) room_is

      slot_completed : Changes (slot_at host.mem host.slots table) (slot_at later.mem host.slots now) served.key (Some (completed (slot_in host.mem host.slots served.key served.note) bytes floor))
      slot_completed =
          let c = changes (slot_count host) host.slots served.key table now (Some (answered served.note count floor)) host.mem later.mem up others_stay q.memory.inside places.length_is q.slots.notes in
          record {
            changed = c.changed
                ∙ ap (λ (bs : List ℕ). Some record { seq = served.note.seq; bytes = bs; writable = served.note.writable; tag = served.note.tag; completion = Some (bytes_at (answer_at host.slots served.key) count later.mem, floor) }) command_stays
                ∙ ap (λ (bs : List ℕ). Some record { seq = served.note.seq; bytes = bytes_at (command_at host.slots served.key) served.note.len host.mem; writable = served.note.writable; tag = served.note.tag; completion = Some (bs, floor) }) answer_there;
            others = c.others;
          }

      completed_note : IsNote (slot_count host) served.key (answered served.note count floor)
      completed_note = record { slot = served_note.slot; command = served_note.command; room = served_note.room; answer = fits; spare = served_note.spare }

      pub queue_complete : who < 26 → seq ≡ d → log_later.entries ≡ record { who = who; call = Complete seq bytes floor; reply = Completed } ∷ log.entries → log.room ≤ log_later.room → IsQueue size n f (seq + 1) floors later now log_later
      queue_complete some is e wide = record {
        past = keeps_complete size n f d floors (slot_at host.mem host.slots table) (slot_at later.mem later.slots now) (slab_len table) (slab_len now) log log_later who seq bytes floor served.key
            (slot_in host.mem host.slots served.key served.note) q.past unclosed some is busy (ap (slot_if_noted host.mem host.slots served.key) served.noted) (served.seq ∙ sym is)
            (changes_later host later (slot_at host.mem host.slots table) now served.key (Some (completed (slot_in host.mem host.slots served.key served.note) bytes floor)) places.slots slot_completed) alike e wide;
        memory = same_host host later q.memory places;
        slots = slots_after size host later table now q.slots places same
            (notes_after (slot_count host) served.key table now (Some (answered served.note count floor)) up (λ x is. let one : answered served.note count floor ≡ x = cc in subst (IsNote (slot_count host) served.key) one completed_note) q.slots.notes);
        rooms = rooms_after f f served.key table now (Some (answered served.note count floor)) up
            (λ x is. let one : answered served.note count floor ≡ x = cc in subst (λ (y : Note). f ≤ y.seq → y.len ≤ y.command_room) one (q.rooms served.key served.note served.noted)) (omega arith) q.rooms;
        open_ring = λ u. subst (λ (k : ℕ). IsOpen n f k later now) (ap (λ (k : ℕ). k + 1) (sym is))
            (open_complete n f d host table (q.open_ring unclosed) s later now served.key served.note (answered served.note count floor) serving ring places.slots up served.noted served.seq);
      }

  pub in_service : (unclosed : floors ≡ None) → is_some host.serving ≡ true → InService d ≡ pop_answer log.entries
  in_service unclosed some = by host.serving refl
    where
      by : (o : Option Chain) → host.serving ≡ o → InService d ≡ pop_answer log.entries
      by None e = let no : false ≡ true = sym (ap is_some e) ∙ some in cc
      by (Some s) e = sym (pop_serving n f d floors log.entries q.past.counts unclosed (busy unclosed s e))

  pub serves_none : is_some host.serving ≡ false → host.serving ≡ None
  serves_none none = by host.serving refl
    where
      by : (o : Option Chain) → host.serving ≡ o → host.serving ≡ None
      by None e = e
      by (Some s) e = let no : true ≡ false = sym (ap is_some e) ∙ none in cc

  -- ---- Take

  -- where no note has the number, nothing outstanding has
  pub not_there : (s : ℕ) → Finds (get table) s None → slot_of log.entries s ≡ None
  not_there s never = found_none (slot_at host.mem host.slots table) log.entries q.past.holds s (λ key x there. by key x (get table key) refl there)
    where
      by : (key : ℕ) (x : Slot) → (o : Option Note) → get table key ≡ o → slot_if_noted host.mem host.slots key o ≡ Some x → x.seq ≢ s
      by key x None e t = let no : None ≡ Some x = t in cc
      by key x (Some note) e t = let is : slot_in host.mem host.slots key note ≡ x = cc in λ same. never key note e (ap (λ (y : Slot). y.seq) is ∙ same)

  pub stale : (s : ℕ) → Finds (get table) s None → Stale ≡ take_answer log.entries s
  stale s never = sym (take_kept size n f d floors (slot_at host.mem host.slots table) (slab_len table) log s q.past ∙ ap (taken_answer floors) (not_there s never))

  module _ (s key : ℕ) (note : Note) (there : get table key ≡ Some note) (seq : note.seq ≡ s) where
    found : slot_of log.entries s ≡ Some (slot_in host.mem host.slots key note)
    found = found_some (slot_at host.mem host.slots table) (slot_of log.entries) q.past.holds s key (slot_in host.mem host.slots key note) (ap (slot_if_noted host.mem host.slots key) there) seq

    pub takes : taken_answer floors (Some (slot_in host.mem host.slots key note)) ≡ take_answer log.entries s
    takes = sym (take_kept size n f d floors (slot_at host.mem host.slots table) (slab_len table) log s q.past ∙ ap (taken_answer floors) found)

    pub queue_take : (now : Slab Note) (log_later : Kept RingEntry) (who : ℕ) (reply : RingReply) → who < 26 → reply ≡ take_answer log.entries s → is_quiet_reply reply ≡ false
        → Updates table now key None → slab_len now + 1 ≡ slab_len table → now.capacity ≡ table.capacity
        → log_later.entries ≡ record { who = who; call = Take s; reply = reply } ∷ log.entries → log.room ≤ log_later.room
        → IsQueue size n f d floors host now log_later
    queue_take now log_later who reply some is loud up less same e wide = record {
      past = keeps_take size n f d floors (slot_at host.mem host.slots table) (slot_at host.mem host.slots now) (slab_len table) (slab_len now) log log_later who s key (slot_in host.mem host.slots key note) reply q.past some is loud
          (ap (slot_if_noted host.mem host.slots key) there) seq (changes (slot_count host) host.slots key table now None host.mem host.mem up (λ k off near. λ j a b. refl) q.memory.inside refl q.slots.notes) less e wide;
      memory = q.memory;
      slots = record {
        size_is = q.slots.size_is;
        keys = same ∙ q.slots.keys;
        notes = notes_after (slot_count host) key table now None up (λ x is. let no : None ≡ Some x = is in cc) q.slots.notes;
      };
      rooms = rooms_after f f key table now None up (λ x is. let no : None ≡ Some x = is in cc) (omega arith) q.rooms;
      open_ring = λ unclosed. open_take n f d host table (q.open_ring unclosed) now key note up there
          (let a = taken_done n f d floors log.entries s (slot_in host.mem host.slots key note) q.past.counts (old_closed size log.entries q.past.legal) found (ap is_quiet_reply (sym is) ∙ loud) unclosed in omega (arith, a, seq)) q.past.counts.completed_first;
    }
