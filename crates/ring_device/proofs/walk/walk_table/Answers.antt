use Rattle.std.proofs.Common.{◌≡◌, Bool, ◌+◌, ◌-◌, ◌∷◌, [], ◌++◌, sym, ap, ◌∙◌, arith, length-append}
use Rattle.ring_device.specs.Buffers.{Buffers}
use Rattle.ring_device.specs.Follow.{met_at}
use Rattle.ring_device.proofs.Steps.{walk_stops, walk_names, walk_ends, walk_goes}
use Rattle.ring_device.proofs.walk.walk_table.Goals as goal

pub returns-in-Named-clause-reached : goal.returns-in-Named-clause-reached
returns-in-Named-clause-reached c own =
    walk_names own c.args.mem.now c.args.table.now c.loop-met.index (c.args.table.now.count - c.loop-met._met) c.loop-met.chain.parts _ (c.loop-met.invariant.goes own) c.in-Named.part (omega arith)
    (c.in-Named.ensures.value ∙ ap (λ (w : Bool). met_at c.args.mem.now c.args.table.now w c.loop-met.index) c.has_writable.ensures)

pub returns-in-Nothing-clause-reached : goal.returns-in-Nothing-clause-reached
returns-in-Nothing-clause-reached c own =
    walk_stops own c.args.mem.now c.args.table.now c.loop-met.index (c.args.table.now.count - c.loop-met._met) c.loop-met.chain.parts _ (c.loop-met.invariant.goes own)
    (c.in-Nothing.ensures.value ∙ ap (λ (w : Bool). met_at c.args.mem.now c.args.table.now w c.loop-met.index) c.has_writable.ensures)

pub returns-then-not-contains-clause-reached : goal.returns-then-not-contains-clause-reached
returns-then-not-contains-clause-reached c own =
    walk_ends own c.args.mem.now c.args.table.now c.loop-met.index (c.args.table.now.count - c.loop-met._met) c.loop-met.chain.parts _ (c.loop-met.invariant.goes own) c.in-Buffer.part c.push.new.self.parts (omega arith)
    (c.in-Buffer.ensures.value ∙ ap (λ (w : Bool). met_at c.args.mem.now c.args.table.now w c.loop-met.index) c.has_writable.ensures)
    (sym (c.contains.ensures tt) ∙ c.if-not-contains.true)
    (ap (λ (b : Buffers). b.parts) c.in_ok-push-in-Buffer.ensures.ok)

pub loop-met-preserved : goal.loop-met-preserved
loop-met-preserved c =
    let new : c.push.new.self ≡ record { head = c.loop-met.chain.head; parts = c.loop-met.chain.parts ++ c.in-Buffer.part ∷ [] } = c.in_ok-push-in-Buffer.ensures.ok in
    let parts : c.push.new.self.parts ≡ c.loop-met.chain.parts ++ c.in-Buffer.part ∷ [] = ap (λ (b : Buffers). b.parts) new in
    let few = c.loop-met.invariant.few in
    record {
      goes = λ own.
          walk_goes own c.args.mem.now c.args.table.now c.loop-met.index (c.args.table.now.count - c.loop-met._met) c.loop-met.chain.parts _ (c.loop-met.invariant.goes own) (c.args.table.now.count - (c.loop-met._met + 1))
          c.in-Buffer.part c.push.new.self.parts (omega arith) (c.in-Buffer.ensures.value ∙ ap (λ (w : Bool). met_at c.args.mem.now c.args.table.now w c.loop-met.index) c.has_writable.ensures)
          (sym (c.contains.ensures tt) ∙ c.if-not-contains.false) parts;
      head = ap (λ (b : Buffers). b.head) new ∙ c.loop-met.invariant.head;
      few = rw parts (simp length-append (omega (arith, few)));
    }
