-- The registers after each kind of entry.
use Rattle.std.proofs.Common.{◌≡◌, ℕ, Bool, true, false, cond, List, [], ◌∷◌, Option, Some, None, refl, sym, ap, ◌∙◌}
use Rattle.std.specs.Prelude.{◌||◌, ◌&&◌, unwrap_or}
use Rattle.admin_wire.specs.declared.command.LegacyCmd.{LegacyCmd}
use Rattle.admin_wire.specs.declared.command.LegacyCmd.TheVariants.{CommonWrite, CommonRead, DevWrite, DevRead, Info as NotifyInfo}
use Rattle.legacy_regs.specs.declared.device.Kind.{Kind}
use Rattle.legacy_regs.specs.declared.accesses.Space.TheVariants.{Common, Device}
use Rattle.legacy_regs.specs.declared.interrupts.Irq.{Irq}
use Rattle.legacy_regs.specs.declared.interrupts.Irq.TheVariants.{Silent, Isr, Vector}
use Rattle.legacy_regs.specs.Fields.{touches, isr_field, driver_features_field, queue_address_field, queue_select_field, device_status_field, config_vector_field, queue_vector_field}
use Rattle.legacy_regs.specs.Registers.{Registers, queue_count, reset_of, flr_of, selected as selected_of}
use Rattle.legacy_regs.specs.Accesses.{byte_put, bytes_put, vector_put, changed_at, is_reset_write, read_common, write_common, write_device}
use Rattle.group_calls.specs.declared.member.MemberCall.{MemberCall}
use Rattle.group_calls.specs.declared.member.MemberCall.TheVariants.{Act, Notify, Msix, MemWrite, MemRead, TakeIrqs, Step, Arrive, Flr, Kill}
use Rattle.group_calls.specs.declared.member.MemberReply.{MemberReply}
use Rattle.group_calls.specs.declared.member.MemberReply.TheVariants.{Data, Written, Info, Refused, Gone, Served, Empty, NotPending, Halted, Dropped, Irqs, Arrived, BacklogFull, Killed}
use Rattle.group_calls.specs.MemberEntries.{MemberEntry, RegisterWrite, is_done, write_asked, done_write, is_zero_status, is_flr, is_reset, since_reset}
use Rattle.group_calls.specs.MemberRegisters.{writeback, msix_set, is_msix, raises_isr, asks_isr, reads_isr, isr, mac_bytes, registers_after}
use Rattle.group_calls.specs.RegisterSteps.{after_access, after_step, after_done, registers_then}
use Rattle.group_calls.proofs.RegisterSteps.{registers_of, registers_after-is, goes_on, ends, features-other, select-other, status-other, addresses-other, config-other, vectors-other, features-write, select-write, status-write, config-write, addresses-write, vectors-write, isr-other, isr-read, isr-raised, writeback-other, writeback-write, mac-other, mac-write, mac-flr, msix-other, msix-set}

-- what an entry tells the registers
pub record Tells (e : MemberEntry) (common device : Option RegisterWrite) (flr : Bool) (msix : Option Bool) (reads raises : Bool) : Type 0 where
  pub to_common : done_write Common e ≡ common
  pub to_device : done_write Device e ≡ device
  pub by_flr : is_flr e ≡ flr
  pub by_msix : msix_set e ≡ msix
  pub by_read : reads_isr e ≡ reads
  pub by_step : raises_isr e ≡ raises

-- an entry that isn't a reset by either
stays : (e : MemberEntry) → done_write Common e ≡ None → is_flr e ≡ false → is_reset e ≡ false
stays e none flr = ap (λ o. is_zero_status o || is_flr e) none ∙ flr

stays_written : (e : MemberEntry) (w : RegisterWrite) → done_write Common e ≡ Some w → is_reset_write w.offset w.bytes ≡ false → is_flr e ≡ false → is_reset e ≡ false
stays_written e w some test flr = ap (λ o. is_zero_status o || is_flr e) some ∙ (ap (λ b. b || is_flr e) test ∙ flr)

resets_written : (e : MemberEntry) (w : RegisterWrite) → done_write Common e ≡ Some w → is_reset_write w.offset w.bytes ≡ true → is_reset e ≡ true
resets_written e w some test = ap (λ o. is_zero_status o || is_flr e) some ∙ ap (λ b. b || is_flr e) test

either : (a b : Bool) → b ≡ true → (a || b) ≡ true
either true b is = refl
either false b is = is

module _ (kind : Kind) (e : MemberEntry) (past : List MemberEntry) where
  -- a run that goes on
  on_run : is_reset e ≡ false → registers_after kind (e ∷ past) ≡ registers_of kind (e ∷ since_reset past) (mac_bytes kind (e ∷ past)) (is_msix (e ∷ past))
  on_run same = registers_after-is kind (e ∷ past) ∙ ap (λ run. registers_of kind run (mac_bytes kind (e ∷ past)) (is_msix (e ∷ past))) (goes_on e past same)

  -- and one that ends
  on_reset : is_reset e ≡ true → registers_after kind (e ∷ past) ≡ registers_of kind [] (mac_bytes kind (e ∷ past)) (is_msix (e ∷ past))
  on_reset resets = registers_after-is kind (e ∷ past) ∙ ap (λ run. registers_of kind run (mac_bytes kind (e ∷ past)) (is_msix (e ∷ past))) (ends e past resets)

  written : (w : RegisterWrite) → Tells e (Some w) None false None false false → registers_after kind (e ∷ past) ≡ write_common kind w.offset w.bytes (registers_of kind (since_reset past) (mac_bytes kind past) (is_msix past))
  written w t = go (is_reset_write w.offset w.bytes) refl
    where
      r : Registers
      r = registers_of kind (since_reset past) (mac_bytes kind past) (is_msix past)

      go : (b : Bool) → is_reset_write w.offset w.bytes ≡ b → registers_after kind (e ∷ past) ≡ cond b (reset_of kind r) (record r {
        features = bytes_put driver_features_field.offset w.offset w.bytes r.features;
        addresses = changed_at (bytes_put queue_address_field.offset w.offset w.bytes) (selected_of r) r.addresses;
        select = bytes_put queue_select_field.offset w.offset w.bytes r.select;
        status = unwrap_or (byte_put device_status_field.offset w.offset w.bytes) r.status;
        config_vector = vector_put (queue_count kind) config_vector_field w.offset w.bytes r.config_vector;
        queue_vectors = changed_at (vector_put (queue_count kind) queue_vector_field w.offset w.bytes) (selected_of r) r.queue_vectors;
      })
      go true test = on_reset (resets_written e w t.to_common test) ∙ (λ i. registers_of kind [] (mac-other kind e past t.by_flr t.to_device i) (msix-other e past t.by_msix i))
      go false test = on_run (stays_written e w t.to_common test t.by_flr) ∙ (λ i. record {
        features = features-write kind e (since_reset past) w t.to_common i;
        addresses = addresses-write kind e (since_reset past) w t.to_common i;
        select = select-write kind e (since_reset past) w t.to_common i;
        status = status-write kind e (since_reset past) w t.to_common i;
        isr = isr-other e (since_reset past) t.by_read t.by_step i;
        config_vector = config-write kind e (since_reset past) w t.to_common i;
        queue_vectors = vectors-write kind e (since_reset past) w t.to_common i;
        writeback = writeback-other e (since_reset past) t.to_device i;
        mac = mac-other kind e past t.by_flr t.to_device i;
        msix = msix-other e past t.by_msix i;
      })

  -- an entry that doesn't write the common structure, and isn't a reset
  unwritten : (reads raises : Bool) (device : Option RegisterWrite) (msix : Option Bool) → Tells e None device false msix reads raises
      → registers_after kind (e ∷ past) ≡ record (registers_of kind (since_reset past) (mac_bytes kind past) (is_msix past)) {
        isr = isr (e ∷ since_reset past);
        writeback = writeback (e ∷ since_reset past);
        mac = mac_bytes kind (e ∷ past);
        msix = is_msix (e ∷ past);
      }
  unwritten reads raises device msix t = on_run (stays e t.to_common t.by_flr) ∙ (λ i. record {
    features = features-other kind e (since_reset past) t.to_common i;
    addresses = addresses-other kind e (since_reset past) t.to_common i;
    select = select-other kind e (since_reset past) t.to_common i;
    status = status-other kind e (since_reset past) t.to_common i;
    isr = isr (e ∷ since_reset past);
    config_vector = config-other kind e (since_reset past) t.to_common i;
    queue_vectors = vectors-other kind e (since_reset past) t.to_common i;
    writeback = writeback (e ∷ since_reset past);
    mac = mac_bytes kind (e ∷ past);
    msix = is_msix (e ∷ past);
  })

  device_written : (w : RegisterWrite) → Tells e None (Some w) false None false false → registers_after kind (e ∷ past) ≡ write_device w.offset w.bytes (registers_of kind (since_reset past) (mac_bytes kind past) (is_msix past))
  device_written w t = unwritten false false (Some w) None t ∙ (λ i. record (registers_of kind (since_reset past) (mac_bytes kind past) (is_msix past)) {
    isr = isr-other e (since_reset past) t.by_read t.by_step i;
    writeback = writeback-write e (since_reset past) w t.to_device i;
    mac = mac-write kind e past w t.by_flr t.to_device i;
    msix = msix-other e past t.by_msix i;
  })

  isr_read : Tells e None None false None true false → registers_after kind (e ∷ past) ≡ record (registers_of kind (since_reset past) (mac_bytes kind past) (is_msix past)) { isr = 0 }
  isr_read t = unwritten true false None None t ∙ (λ i. record (registers_of kind (since_reset past) (mac_bytes kind past) (is_msix past)) {
    isr = isr-read e (since_reset past) t.by_read i;
    writeback = writeback-other e (since_reset past) t.to_device i;
    mac = mac-other kind e past t.by_flr t.to_device i;
    msix = msix-other e past t.by_msix i;
  })

  isr_raised : Tells e None None false None false true → registers_after kind (e ∷ past) ≡ record (registers_of kind (since_reset past) (mac_bytes kind past) (is_msix past)) { isr = 1 }
  isr_raised t = unwritten false true None None t ∙ (λ i. record (registers_of kind (since_reset past) (mac_bytes kind past) (is_msix past)) {
    isr = isr-raised e (since_reset past) t.by_read t.by_step i;
    writeback = writeback-other e (since_reset past) t.to_device i;
    mac = mac-other kind e past t.by_flr t.to_device i;
    msix = msix-other e past t.by_msix i;
  })

  msix_turned : (on : Bool) → Tells e None None false (Some on) false false → registers_after kind (e ∷ past) ≡ record (registers_of kind (since_reset past) (mac_bytes kind past) (is_msix past)) { msix = on }
  msix_turned on t = unwritten false false None (Some on) t ∙ (λ i. record (registers_of kind (since_reset past) (mac_bytes kind past) (is_msix past)) {
    isr = isr-other e (since_reset past) t.by_read t.by_step i;
    writeback = writeback-other e (since_reset past) t.to_device i;
    mac = mac-other kind e past t.by_flr t.to_device i;
    msix = msix-set e past on t.by_msix i;
  })

  untouched : Tells e None None false None false false → registers_after kind (e ∷ past) ≡ registers_of kind (since_reset past) (mac_bytes kind past) (is_msix past)
  untouched t = unwritten false false None None t ∙ (λ i. record (registers_of kind (since_reset past) (mac_bytes kind past) (is_msix past)) {
    isr = isr-other e (since_reset past) t.by_read t.by_step i;
    writeback = writeback-other e (since_reset past) t.to_device i;
    mac = mac-other kind e past t.by_flr t.to_device i;
    msix = msix-other e past t.by_msix i;
  })

  flr_done : Tells e None None true None false false → registers_after kind (e ∷ past) ≡ flr_of kind (registers_of kind (since_reset past) (mac_bytes kind past) (is_msix past))
  flr_done t = on_reset (either (is_zero_status (done_write Common e)) (is_flr e) t.by_flr) ∙ (λ i. registers_of kind [] (mac-flr kind e past t.by_flr i) (msix-other e past t.by_msix i))

-- ---- each call

abbrev entry : ℕ → MemberCall → MemberReply → MemberEntry
entry who call reply = record { who = who; call = call; reply = reply }

-- a call that wasn't done tells nothing, unless it is a step
nothing_done : (who : ℕ) (call : MemberCall) (reply : MemberReply) → is_done reply ≡ false → raises_isr (entry who call reply) ≡ false → Tells (entry who call reply) None None false None false false
nothing_done who call reply test raises = record {
  to_common = ap (λ b. cond b (write_asked Common call) None) test;
  to_device = ap (λ b. cond b (write_asked Device call) None) test;
  by_flr = ap (λ b. b && elim call [ Flr ↦ true | _ ↦ false ]) test;
  by_msix = ap (λ b. cond b (elim call [ Msix on ↦ Some on | _ ↦ None ]) None) test;
  by_read = ap (λ b. b && asks_isr call) test;
  by_step = raises;
}

-- what a call that was done tells
call_told : (who : ℕ) (call : MemberCall) (reply : MemberReply) (raises : Bool) → is_done reply ≡ true → raises_isr (entry who call reply) ≡ raises
    → Tells (entry who call reply) (write_asked Common call) (write_asked Device call) (elim call [ Flr ↦ true | _ ↦ false ]) (elim call [ Msix on ↦ Some on | _ ↦ None ]) (asks_isr call) raises
call_told who call reply raises test is = record {
  to_common = ap (λ b. cond b (write_asked Common call) None) test;
  to_device = ap (λ b. cond b (write_asked Device call) None) test;
  by_flr = ap (λ b. b && elim call [ Flr ↦ true | _ ↦ false ]) test;
  by_msix = ap (λ b. cond b (elim call [ Msix on ↦ Some on | _ ↦ None ]) None) test;
  by_read = ap (λ b. b && asks_isr call) test;
  by_step = is;
}

call_done : (who : ℕ) (call : MemberCall) (reply : MemberReply) → is_done reply ≡ true
    → Tells (entry who call reply) (write_asked Common call) (write_asked Device call) (elim call [ Flr ↦ true | _ ↦ false ]) (elim call [ Msix on ↦ Some on | _ ↦ None ]) (asks_isr call) (raises_isr (entry who call reply))
call_done who call reply test = call_told who call reply (raises_isr (entry who call reply)) test refl

module _ (kind : Kind) (who : ℕ) (past : List MemberEntry) where
  r : Registers
  r = registers_of kind (since_reset past) (mac_bytes kind past) (is_msix past)

  -- a read of the common structure
  common_read : (offset count : ℕ) (reply : MemberReply) → is_done reply ≡ true → registers_after kind (entry who (Act (CommonRead offset count)) reply ∷ past) ≡ read_common offset count r
  unfolding r
  common_read offset count reply test = go (touches isr_field offset count) (call_done who (Act (CommonRead offset count)) reply test)
    where
      go : (b : Bool) → Tells (entry who (Act (CommonRead offset count)) reply) None None false None b false → registers_after kind (entry who (Act (CommonRead offset count)) reply ∷ past) ≡ cond b (record r { isr = 0 }) r
      go true t = isr_read kind (entry who (Act (CommonRead offset count)) reply) past t
      go false t = untouched kind (entry who (Act (CommonRead offset count)) reply) past t

  access : (command : LegacyCmd) (reply : MemberReply) → is_done reply ≡ true → registers_after kind (entry who (Act command) reply ∷ past) ≡ after_access kind command r
  unfolding r
  access (CommonWrite offset bytes) reply test = written kind (entry who (Act (CommonWrite offset bytes)) reply) past (record { offset = offset; bytes = bytes }) (call_done who (Act (CommonWrite offset bytes)) reply test)
  access (CommonRead offset count) reply test = common_read offset count reply test
  access (DevWrite offset bytes) reply test = device_written kind (entry who (Act (DevWrite offset bytes)) reply) past (record { offset = offset; bytes = bytes }) (call_done who (Act (DevWrite offset bytes)) reply test)
  access (DevRead offset count) reply test = untouched kind (entry who (Act (DevRead offset count)) reply) past (call_done who (Act (DevRead offset count)) reply test)
  access NotifyInfo reply test = untouched kind (entry who (Act NotifyInfo) reply) past (call_done who (Act NotifyInfo) reply test)

  step_served : (queue length : ℕ) (irq : Irq) (sent : List ℕ) → registers_after kind (entry who (Step queue) (Served length irq sent) ∷ past) ≡ after_step (Served length irq sent) r
  unfolding r
  step_served queue length Silent sent = untouched kind (entry who (Step queue) (Served length Silent sent)) past (call_done who (Step queue) (Served length Silent sent) refl)
  step_served queue length Isr sent = isr_raised kind (entry who (Step queue) (Served length Isr sent)) past (call_done who (Step queue) (Served length Isr sent) refl)
  step_served queue length (Vector v) sent = untouched kind (entry who (Step queue) (Served length (Vector v) sent)) past (call_done who (Step queue) (Served length (Vector v) sent) refl)

  -- a step with another reply
  step_other : (queue : ℕ) (reply : MemberReply) → is_done reply ≡ true → raises_isr (entry who (Step queue) reply) ≡ false → registers_after kind (entry who (Step queue) reply ∷ past) ≡ r
  unfolding r
  step_other queue reply test raises = untouched kind (entry who (Step queue) reply) past (call_told who (Step queue) reply false test raises)

  done : (call : MemberCall) (reply : MemberReply) → is_done reply ≡ true → registers_after kind (entry who call reply ∷ past) ≡ after_done kind call reply r
  unfolding r
  done (Act command) reply test = access command reply test
  done (Notify queue) reply test = untouched kind (entry who (Notify queue) reply) past (call_done who (Notify queue) reply test)
  done (Msix on) reply test = msix_turned kind (entry who (Msix on) reply) past on (call_done who (Msix on) reply test)
  done (MemWrite addr bytes) reply test = untouched kind (entry who (MemWrite addr bytes) reply) past (call_done who (MemWrite addr bytes) reply test)
  done (MemRead addr count) reply test = untouched kind (entry who (MemRead addr count) reply) past (call_done who (MemRead addr count) reply test)
  done TakeIrqs reply test = untouched kind (entry who TakeIrqs reply) past (call_done who TakeIrqs reply test)
  done (Step queue) (Served length irq sent) test = step_served queue length irq sent
  done (Step queue) (Data bytes) test = step_other queue (Data bytes) test refl
  done (Step queue) Written test = step_other queue Written test refl
  done (Step queue) Info test = step_other queue Info test refl
  done (Step queue) (Refused why) test = step_other queue (Refused why) test refl
  done (Step queue) (Gone floor) test = step_other queue (Gone floor) test refl
  done (Step queue) Empty test = step_other queue Empty test refl
  done (Step queue) NotPending test = step_other queue NotPending test refl
  done (Step queue) (Halted halt) test = step_other queue (Halted halt) test refl
  done (Step queue) Dropped test = step_other queue Dropped test refl
  done (Step queue) (Irqs mask) test = step_other queue (Irqs mask) test refl
  done (Step queue) Arrived test = step_other queue Arrived test refl
  done (Step queue) BacklogFull test = step_other queue BacklogFull test refl
  done (Step queue) Killed test = step_other queue Killed test refl
  done (Arrive frame) reply test = untouched kind (entry who (Arrive frame) reply) past (call_done who (Arrive frame) reply test)
  done Flr reply test = flr_done kind (entry who Flr reply) past (call_done who Flr reply test)
  done Kill reply test = untouched kind (entry who Kill reply) past (call_done who Kill reply test)

  -- what isn't done raises nothing
  raises_none : (call : MemberCall) (reply : MemberReply) → is_done reply ≡ false → raises_isr (entry who call reply) ≡ false
  raises_none (Step queue) (Served length irq sent) test = cc
  raises_none (Step queue) (Data bytes) test = refl
  raises_none (Step queue) Written test = refl
  raises_none (Step queue) Info test = refl
  raises_none (Step queue) (Refused why) test = refl
  raises_none (Step queue) (Gone floor) test = refl
  raises_none (Step queue) Empty test = refl
  raises_none (Step queue) NotPending test = refl
  raises_none (Step queue) (Halted halt) test = refl
  raises_none (Step queue) Dropped test = refl
  raises_none (Step queue) (Irqs mask) test = refl
  raises_none (Step queue) Arrived test = refl
  raises_none (Step queue) BacklogFull test = refl
  raises_none (Step queue) Killed test = refl
  raises_none (Act command) reply test = refl
  raises_none (Notify queue) reply test = refl
  raises_none (Msix on) reply test = refl
  raises_none (MemWrite addr bytes) reply test = refl
  raises_none (MemRead addr count) reply test = refl
  raises_none TakeIrqs reply test = refl
  raises_none (Arrive frame) reply test = refl
  raises_none Flr reply test = refl
  raises_none Kill reply test = refl

  any_entry : (call : MemberCall) (reply : MemberReply) → registers_after kind (entry who call reply ∷ past) ≡ registers_then kind call reply r
  unfolding r
  any_entry call reply = go (is_done reply) refl
    where
      go : (b : Bool) → is_done reply ≡ b → registers_after kind (entry who call reply ∷ past) ≡ cond b (after_done kind call reply r) r
      go true test = done call reply test
      go false test = untouched kind (entry who call reply) past (nothing_done who call reply test (raises_none call reply test))

-- the registers after any entry
pub registers_after-more : (kind : Kind) (who : ℕ) (call : MemberCall) (reply : MemberReply) (past : List MemberEntry)
    → registers_after kind (record { who = who; call = call; reply = reply } ∷ past) ≡ registers_then kind call reply (registers_after kind past)
unfolding r
registers_after-more kind who call reply past = any_entry kind who past call reply ∙ ap (registers_then kind call reply) (sym (registers_after-is kind past))
