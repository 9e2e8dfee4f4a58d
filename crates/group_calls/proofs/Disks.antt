-- The disk by its latest writes is the disk entry by entry.
use Rattle.std.proofs.Common.{◌≡◌, ℕ, zero, suc, ◌+◌, ◌-◌, ◌*◌, ◌<◌, ◌≤◌, inl, inr, get_or, Bool, true, false, cond, List, [], ◌∷◌, length, drop, Option, Some, None, arith, refl, sym, ap, ◌∙◌, subst, length-drop}
use Rattle.std.specs.Prelude.{unwrap_or, slice_get, ◌/◌, ◌%◌, ◌==◌, ◌&&◌, not, nat_le, nat_lt, if◌then◌else◌}
use Rattle.std.proofs.lemmas.Bool.Decides.{nat_tests}
use Rattle.std.proofs.lemmas.Bool.{cases_lt}
use Rattle.std.proofs.lemmas.List.{ext_get_or}
use Rattle.std.proofs.lemmas.Option.{slice_get_past, slice_get-get_or}
use Rattle.history.specs.Look.{latest_or}
use Rattle.byte_fields.specs.Places.{le32, le64, overwrite}
use Rattle.byte_fields.proofs.Places.{length-overwrite}
use Rattle.byte_fields.proofs.Overwriting.{get_or-overwrite_before, get_or-overwrite_at, get_or-overwrite_after}
use Rattle.ring_layout.specs.declared.layout.Layout.{Layout}
use Rattle.ring_layout.specs.declared.descriptor.Descriptor.{Descriptor}
use Rattle.ring_layout.specs.Layout.{legacy_layout}
use Rattle.ring_layout.specs.Chain.{Found, nothing, bad_index, bad_chain, chain, found, readable_bytes, writable_part, total_length}
use Rattle.blk_engine.specs.Block.{capacity, are_sectors, status, status_of, is_malformed, disk_after_request}
use Rattle.net_engine.specs.Frames.{with_header}
use Rattle.legacy_regs.specs.declared.device.Kind.{Kind}
use Rattle.legacy_regs.specs.declared.device.Kind.TheVariants.{Block, Net}
use Rattle.legacy_regs.specs.Registers.{member_ring_size, queue_count, page_number, uses_tables}
use Rattle.legacy_regs.specs.Accesses.{byte_put}
use Rattle.group_calls.specs.declared.member.MemberMade.{MemberMade}
use Rattle.group_calls.specs.declared.member.MemberCall.{MemberCall}
use Rattle.group_calls.specs.declared.member.MemberCall.TheVariants.{Step}
use Rattle.group_calls.specs.declared.member.MemberReply.{MemberReply}
use Rattle.group_calls.specs.declared.member.MemberReply.TheVariants.{Served, Empty, NotPending, Dropped}
use Rattle.group_calls.specs.MemberEntries.{MemberEntry}
use Rattle.group_calls.specs.MemberQueues.{receives}
use Rattle.group_calls.specs.Facts.{Facts, facts}
use Rattle.group_calls.specs.Steps.{Outcome, stops, serves, service, block_step, receive_step, transmit_step, chain_step, found_step, ring_step, are_none, outcome}
use Rattle.group_calls.specs.Disk.{SectorWrite, write_of_request, found_chain, next_chain, write_of_chain, write_of_service, byte_of_write, disk_bytes}
use Rattle.group_calls.specs.Storage.{Stored, memory_then, if_serves, write_then, with_write, memory_from, disk_writes, disk_from}
use Rattle.group_calls.specs.Replay.{disk_left, disk_then, memory_replayed, disk_replayed}

-- ---- a disk after one write more

-- a disk with a write put into it
abbrev put_on : Option SectorWrite → List ℕ → List ℕ
put_on None disk = disk
put_on (Some w) disk = overwrite (512 * w.sector) w.bytes disk

unwritten : (place : ℕ) (first : List ℕ) → disk_bytes [] place first ≡ first
unwritten place [] = refl
unwritten place (byte ∷ rest) = ap (λ bytes. byte ∷ bytes) (unwritten (place + 1) rest)

same_length : (writes : List SectorWrite) (place : ℕ) (first : List ℕ) → length (disk_bytes writes place first) ≡ length first
same_length writes place [] = refl
same_length writes place (byte ∷ rest) = let r = same_length writes (place + 1) rest in omega (arith, r)

-- a byte of the disk is the write's, if it covers the place
byte_now : (w : SectorWrite) (writes : List SectorWrite) (place : ℕ) (first : List ℕ) (k : ℕ) → k < length first
    → get_or (disk_bytes (w ∷ writes) place first) k 0 ≡ unwrap_or (byte_put (place + k) (512 * w.sector) w.bytes) (get_or (disk_bytes writes place first) k 0)
byte_now w writes place [] k below = absurd (omega arith)
byte_now w writes place (byte ∷ rest) zero below = ap (λ (at : ℕ). unwrap_or (byte_put at (512 * w.sector) w.bytes) (latest_or byte (byte_of_write place) writes)) (omega arith)
byte_now w writes place (byte ∷ rest) (suc k) below =
    byte_now w writes (place + 1) rest k (omega arith)
    ∙ ap (λ (at : ℕ). unwrap_or (byte_put at (512 * w.sector) w.bytes) (get_or (disk_bytes writes (place + 1) rest) k 0)) (omega arith)

module _ (at : ℕ) (bytes disk : List ℕ) (fits : at + length bytes ≤ length disk) (k : ℕ) where
  put_before : k < at → unwrap_or (byte_put k at bytes) (get_or disk k 0) ≡ get_or (overwrite at bytes disk) k 0
  put_before before =
      let test : nat_le at k ≡ false = grind (arith, nat_tests, before) in
      rw test (sym (get_or-overwrite_before at k bytes disk (omega arith) before))

  put_within : at ≤ k → k < at + length bytes → unwrap_or (byte_put k at bytes) (get_or disk k 0) ≡ get_or (overwrite at bytes disk) k 0
  put_within from below =
      let test : nat_le at k ≡ true = grind (arith, nat_tests, from) in
      let inside : k - at < length bytes = omega (arith, from, below) in
      let here : slice_get bytes (k - at) ≡ Some (get_or bytes (k - at) 0) = slice_get-get_or bytes (k - at) 0 inside in
      rw (test, here) (sym (get_or-overwrite_at at (k - at) k bytes disk (omega arith) (omega (arith, from)) inside))

  put_after : at + length bytes ≤ k → unwrap_or (byte_put k at bytes) (get_or disk k 0) ≡ get_or (overwrite at bytes disk) k 0
  put_after after =
      let test : nat_le at k ≡ true = let far : at ≤ k = omega (arith, after) in grind (arith, nat_tests, far) in
      let none : slice_get bytes (k - at) ≡ None = slice_get_past bytes (k - at) (omega (arith, after)) in
      rw (test, none) (sym (get_or-overwrite_after at k bytes disk (omega arith) after))

  put_byte : unwrap_or (byte_put k at bytes) (get_or disk k 0) ≡ get_or (overwrite at bytes disk) k 0
  put_byte = elim (cases_lt k at) [
    | inl before ↦ put_before before
    | inr from ↦ elim (cases_lt k (at + length bytes)) [ inl below ↦ put_within from below | inr after ↦ put_after after ]
  ]

-- the write lies in the disk
abbrev Lies : Option SectorWrite → List ℕ → Type 0
Lies None disk = Unit {0}
Lies (Some w) disk = 512 * w.sector + length w.bytes ≤ length disk

written_on : (o : Option SectorWrite) (writes : List SectorWrite) (first : List ℕ) → Lies o (disk_bytes writes 0 first) → disk_bytes (with_write o writes) 0 first ≡ put_on o (disk_bytes writes 0 first)
written_on None writes first lies = refl
written_on (Some w) writes first lies =
    let now : length (disk_bytes (w ∷ writes) 0 first) ≡ length first = same_length (w ∷ writes) 0 first in
    let was : length (disk_bytes writes 0 first) ≡ length first = same_length writes 0 first in
    let put : length (overwrite (512 * w.sector) w.bytes (disk_bytes writes 0 first)) ≡ length (disk_bytes writes 0 first) = length-overwrite (512 * w.sector) w.bytes (disk_bytes writes 0 first) lies in
    ext_get_or 0 (disk_bytes (w ∷ writes) 0 first) (overwrite (512 * w.sector) w.bytes (disk_bytes writes 0 first)) (now ∙ sym (put ∙ was))
    (λ k below. byte_now w writes 0 first k (omega (arith, now, below))
    ∙ ap (λ (place : ℕ). unwrap_or (byte_put place (512 * w.sector) w.bytes) (get_or (disk_bytes writes 0 first) k 0)) (omega arith)
    ∙ put_byte (512 * w.sector) w.bytes (disk_bytes writes 0 first) lies k)

-- ---- the write of a request

both_true : (a b : Bool) → (a && b) ≡ true → (a ≡ true) × (b ≡ true)
both_true true true e = (refl, refl)
both_true true false e = cc
both_true false b e = cc

sectors_fit : (most sector given : ℕ) → are_sectors (most / 512) sector given ≡ true → 512 * sector + given ≤ most
sectors_fit most sector given fit =
    let both = both_true (given % 512 == 0) (nat_le (sector + given / 512) (most / 512)) fit in
    let whole : given % 512 ≡ 0 = let t = both.0 in grind (arith, nat_tests, t) in
    let below : sector + given / 512 ≤ most / 512 = let t = both.1 in grind (arith, nat_tests, t) in
    omega (arith, whole, below)

out_fits : (sectors : ℕ) (ro : Bool) (sector given room : ℕ) → (status sectors ro 1 sector given room == 0) ≡ true → are_sectors sectors sector given ≡ true
out_fits sectors ro sector given room ok = go (are_sectors sectors sector given) ok
  where
    go : (b : Bool) → (cond (b && not ro) 0 1 == 0) ≡ true → b ≡ true
    go true e = refl
    go false e = cc

kind_fits : (sectors : ℕ) (ro : Bool) (kind sector given room : ℕ) → (kind == 1) ≡ true → (status sectors ro kind sector given room == 0) ≡ true → are_sectors sectors sector given ≡ true
kind_fits sectors ro kind sector given room is ok =
    let one : kind ≡ 1 = grind (arith, nat_tests, is) in
    out_fits sectors ro sector given room (subst (λ (k : ℕ). (status sectors ro k sector given room == 0) ≡ true) one ok)

module _ (ro : Bool) (disk request : List ℕ) (writable : ℕ) where
  abbrev write : SectorWrite
  write = record { sector = le64 8 request; bytes = drop 16 request }

  abbrev is_done_out : Bool
  is_done_out = (le32 0 request == 1) && (status_of ro disk request writable == 0)

  lies_if : (b : Bool) → is_done_out ≡ b → Lies (cond b (Some write) None) disk
  unfolding status_of
  lies_if false is = tt
  lies_if true is =
      let both = both_true (le32 0 request == 1) (status_of ro disk request writable == 0) is in
      let fit = kind_fits (capacity disk) ro (le32 0 request) (le64 8 request) (length request - 16) (writable - 1) both.0 both.1 in
      let most = sectors_fit (length disk) (le64 8 request) (length request - 16) fit in
      let size : length (drop 16 request) ≡ length request - 16 = length-drop 16 request in
      rw size most

  request_lies : Lies (write_of_request ro disk request writable) disk
  request_lies = lies_if is_done_out refl

  put_if : (b : Bool) → cond b (overwrite (512 * le64 8 request) (drop 16 request) disk) disk ≡ put_on (cond b (Some write) None) disk
  put_if true = refl
  put_if false = refl

  request_put : disk_after_request ro disk request writable ≡ put_on (write_of_request ro disk request writable) disk
  unfolding disk_after_request
  request_put = put_if is_done_out

-- ---- the write of a service

-- an outcome that serves leaves the disk with this write
abbrev Leaves : Option SectorWrite → List ℕ → Outcome → Type 0
Leaves w disk (stops reply) = Unit {0}
Leaves w disk (serves s) = s.disk ≡ put_on w disk

leaves_if : (w : Option SectorWrite) (disk : List ℕ) (b : Bool) (reply : MemberReply) (o : Outcome) → Leaves w disk o → Leaves w disk (cond b (stops reply) o)
leaves_if w disk true reply o leaves = tt
leaves_if w disk false reply o leaves = leaves

module _ (made : MemberMade) (memory disk : List ℕ) (f : Facts) (q : ℕ) where
  block_leaves : (ro : Bool) (l : Layout) (ds : List Descriptor) → Leaves (write_of_request ro disk (readable_bytes memory ds) (total_length (writable_part ds))) disk (block_step made ro memory disk f q l ds)
  unfolding block_step service
  block_leaves ro l ds = leaves_if _ disk (is_malformed (readable_bytes memory ds) (total_length (writable_part ds))) _ _ (request_put ro disk (readable_bytes memory ds) (total_length (writable_part ds)))

  receive_leaves : (l : Layout) (ds : List Descriptor) (waiting : List (List ℕ)) → Leaves None disk (receive_step memory disk f q l ds waiting)
  unfolding receive_step service
  receive_leaves l ds [] = tt
  receive_leaves l ds (frame ∷ frames) =
      leaves_if None disk (nat_lt (total_length (writable_part ds)) (length (with_header frame))) Dropped (service memory f q l ds (with_header frame) disk []) refl

  transmit_leaves : (l : Layout) (ds : List Descriptor) → Leaves None disk (transmit_step memory disk f q l ds)
  unfolding transmit_step service
  transmit_leaves l ds = refl

  net_leaves : (l : Layout) (ds : List Descriptor) (b : Bool) → Leaves None disk (cond b (receive_step memory disk f q l ds f.waiting) (transmit_step memory disk f q l ds))
  net_leaves l ds true = receive_leaves l ds f.waiting
  net_leaves l ds false = transmit_leaves l ds

  chain_leaves : (kind : Kind) (l : Layout) (ds : List Descriptor) → Leaves (write_of_chain kind memory disk ds) disk (chain_step made kind memory disk f q l ds)
  unfolding chain_step
  chain_leaves (Block sectors ro) l ds = block_leaves ro l ds
  chain_leaves (Net mac) l ds = net_leaves l ds (q == 0)

  found_leaves : (l : Layout) (there : Found) → Leaves (write_of_chain made.kind memory disk (found_chain there)) disk (found_step made memory disk f q l there)
  unfolding found_step
  found_leaves l nothing = tt
  found_leaves l bad_index = tt
  found_leaves l bad_chain = tt
  found_leaves l (chain ds) = chain_leaves made.kind l ds

  ring_leaves : (o : Option Layout) → Leaves (write_of_chain made.kind memory disk (next_chain memory f q o)) disk (ring_step made memory disk f q o)
  unfolding ring_step
  ring_leaves None = tt
  ring_leaves (Some l) = found_leaves l (found (uses_tables f.registers) memory l (f.position q))

  abbrev ring : Option Layout
  ring = legacy_layout (page_number f.registers q) member_ring_size (length memory)

  outcome_leaves : Leaves (write_of_service made.kind memory disk f q) disk (outcome made memory disk f q)
  unfolding outcome write_of_service
  outcome_leaves =
      leaves_if (write_of_service made.kind memory disk f q) disk (not (nat_lt q (queue_count made.kind) && f.pending q)) NotPending
      (if receives made.kind q && are_none f.waiting then stops Empty else ring_step made memory disk f q ring)
      (leaves_if (write_of_service made.kind memory disk f q) disk (receives made.kind q && are_none f.waiting) Empty (ring_step made memory disk f q ring) (ring_leaves ring))

  chain_lies : (kind : Kind) (ds : List Descriptor) → Lies (write_of_chain kind memory disk ds) disk
  chain_lies (Block sectors ro) ds = request_lies ro disk (readable_bytes memory ds) (total_length (writable_part ds))
  chain_lies (Net mac) ds = tt

  service_lies : Lies (write_of_service made.kind memory disk f q) disk
  unfolding write_of_service
  service_lies = chain_lies made.kind (next_chain memory f q ring)

-- ---- after one entry more

entry_put : (does : ℕ → Outcome) (writes : ℕ → Option SectorWrite) (past : List SectorWrite) (first : List ℕ) (call : MemberCall) (reply : MemberReply)
    → ((q : ℕ) → Leaves (writes q) (disk_bytes past 0 first) (does q)) → ((q : ℕ) → Lies (writes q) (disk_bytes past 0 first))
    → disk_bytes (with_write (write_then does writes call reply) past) 0 first ≡ disk_then does (disk_bytes past 0 first) call reply
entry_put does writes past first (Step q) (Served size irq sent) leaves lies = go (does q) (leaves q)
  where
    go : (o : Outcome) → Leaves (writes q) (disk_bytes past 0 first) o → disk_bytes (with_write (if_serves o (writes q)) past) 0 first ≡ disk_left (disk_bytes past 0 first) o
    go (stops told) left = refl
    go (serves s) left = written_on (writes q) past first (lies q) ∙ sym left
entry_put does writes past first _ _ leaves lies = refl

module _ (first : Stored) (made : MemberMade) where
  pub memory_from-more : (e : MemberEntry) (past : List MemberEntry)
      → memory_from first made (e ∷ past) ≡ memory_then (outcome made (memory_from first made past) (disk_from first made past) (facts made past)) (memory_from first made past) e.call e.reply
  unfolding memory_from
  memory_from-more e past = refl

  pub disk_from-start : disk_from first made [] ≡ first.disk
  unfolding disk_writes
  disk_from-start = unwritten 0 first.disk

  pub disk_from-more : (e : MemberEntry) (past : List MemberEntry)
      → disk_from first made (e ∷ past) ≡ disk_then (outcome made (memory_from first made past) (disk_from first made past) (facts made past)) (disk_from first made past) e.call e.reply
  unfolding disk_writes
  disk_from-more e past =
      entry_put (outcome made (memory_from first made past) (disk_from first made past) (facts made past)) (write_of_service made.kind (memory_from first made past) (disk_from first made past) (facts made past))
      (disk_writes first made past) first.disk e.call e.reply
      (outcome_leaves made (memory_from first made past) (disk_from first made past) (facts made past))
      (service_lies made (memory_from first made past) (disk_from first made past) (facts made past))

  -- memory and disk are what each entry leaves
  pub replayed : (h : List MemberEntry) → (memory_from first made h ≡ memory_replayed first made h) × (disk_from first made h ≡ disk_replayed first made h)
  unfolding memory_from memory_replayed disk_replayed
  replayed [] = (refl, disk_from-start)
  replayed (e ∷ past) =
      let r = replayed past in (
        (λ i. memory_then (outcome made (r.0 i) (r.1 i) (facts made past)) (r.0 i) e.call e.reply),
        disk_from-more e past ∙ (λ i. disk_then (outcome made (r.0 i) (r.1 i) (facts made past)) (r.1 i) e.call e.reply),
      )
