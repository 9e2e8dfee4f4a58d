use Rattle.std.proofs.Common.{arith, ℕ, [], ap, ◌∙◌}
use Rattle.byte_fields.specs.Places.{bytes_at}
use Rattle.ring_driver.specs.Between.{with_used}
use Rattle.admin_ring.specs.Host.{pair_of}
use Rattle.admin_ring.proofs.Completing.{fitting, stands_two, not_empty, back, head_fits, command_at_head, before_answer, behind_answer, answer_there}
use Rattle.admin_ring.proofs.host.Host.complete.Goals as goal

pub take_used-requires : goal.take_used-requires
take_used-requires c =
    let min = c.min-count.ensures in
    let fits = fitting c.args.reply.now c.min-count.result c.args.chain.writable.len (λ e. omega (arith, min)) (λ e. omega (arith, min)) in
    (with_used c.requires.ring.0 [] (pair_of c.args.chain) [] c.min-count.result, stands_two c.args.self.now c.args.chain c.requires.host c.requires.serving c.requires.slot.0 c.requires.slot.1 c.args.pos c.requires.ring.0 c.requires.ring.1 c.requires.ring.2 c.args.reply.now c.min-count.result fits c.write.new.self c.put_used.new.mem c.write.ensures.written c.write.ensures.length c.put_used.ensures.written c.put_used.ensures.length)

pub unreachable-requires : goal.unreachable-requires
unreachable-requires c =
    let min = c.min-count.ensures in
    let fits = fitting c.args.reply.now c.min-count.result c.args.chain.writable.len (λ e. omega (arith, min)) (λ e. omega (arith, min)) in
    not_empty c.args.self.now c.args.chain c.requires.host c.requires.serving c.requires.slot.0 c.requires.slot.1 c.args.pos c.requires.ring.0 c.requires.ring.1 c.requires.ring.2 c.args.reply.now c.min-count.result fits c.write.new.self c.put_used.new.mem c.write.ensures.written c.write.ensures.length c.put_used.ensures.written c.put_used.ensures.length c.take_used.result c.take_used.new.self (c.take_used.ensures.taken (with_used c.requires.ring.0 [] (pair_of c.args.chain) [] c.min-count.result) (stands_two c.args.self.now c.args.chain c.requires.host c.requires.serving c.requires.slot.0 c.requires.slot.1 c.args.pos c.requires.ring.0 c.requires.ring.1 c.requires.ring.2 c.args.reply.now c.min-count.result fits c.write.new.self c.put_used.new.mem c.write.ensures.written c.write.ensures.length c.put_used.ensures.written c.put_used.ensures.length)) c.in_default.is

pub read_descriptor-command-requires-clause-index : goal.read_descriptor-command-requires-clause-index
read_descriptor-command-requires-clause-index c =
    let min = c.min-count.ensures in
    let fits = fitting c.args.reply.now c.min-count.result c.args.chain.writable.len (λ e. omega (arith, min)) (λ e. omega (arith, min)) in
    let b = back c.args.self.now c.args.chain c.requires.host c.requires.serving c.requires.slot.0 c.requires.slot.1 c.args.pos c.requires.ring.0 c.requires.ring.1 c.requires.ring.2 c.args.reply.now c.min-count.result fits c.write.new.self c.put_used.new.mem c.write.ensures.written c.write.ensures.length c.put_used.ensures.written c.put_used.ensures.length c.take_used.result c.take_used.new.self (c.take_used.ensures.taken (with_used c.requires.ring.0 [] (pair_of c.args.chain) [] c.min-count.result) (stands_two c.args.self.now c.args.chain c.requires.host c.requires.serving c.requires.slot.0 c.requires.slot.1 c.args.pos c.requires.ring.0 c.requires.ring.1 c.requires.ring.2 c.args.reply.now c.min-count.result fits c.write.new.self c.put_used.new.mem c.write.ensures.written c.write.ensures.length c.put_used.ensures.written c.put_used.ensures.length)) c.in-Used.head c.in-Used.length c.in-Used.is in
    head_fits c.args.self.now c.args.chain c.requires.host c.requires.serving c.requires.slot.0 c.requires.slot.1 c.args.pos c.requires.ring.0 c.requires.ring.1 c.requires.ring.2 c.args.reply.now c.min-count.result fits c.write.new.self c.put_used.new.mem c.write.ensures.written c.write.ensures.length c.put_used.ensures.written c.put_used.ensures.length c.in-Used.head b.head_back

pub slot_at-requires : goal.slot_at-requires
slot_at-requires c =
    let min = c.min-count.ensures in
    let fits = fitting c.args.reply.now c.min-count.result c.args.chain.writable.len (λ e. omega (arith, min)) (λ e. omega (arith, min)) in
    let b = back c.args.self.now c.args.chain c.requires.host c.requires.serving c.requires.slot.0 c.requires.slot.1 c.args.pos c.requires.ring.0 c.requires.ring.1 c.requires.ring.2 c.args.reply.now c.min-count.result fits c.write.new.self c.put_used.new.mem c.write.ensures.written c.write.ensures.length c.put_used.ensures.written c.put_used.ensures.length c.take_used.result c.take_used.new.self (c.take_used.ensures.taken (with_used c.requires.ring.0 [] (pair_of c.args.chain) [] c.min-count.result) (stands_two c.args.self.now c.args.chain c.requires.host c.requires.serving c.requires.slot.0 c.requires.slot.1 c.args.pos c.requires.ring.0 c.requires.ring.1 c.requires.ring.2 c.args.reply.now c.min-count.result fits c.write.new.self c.put_used.new.mem c.write.ensures.written c.write.ensures.length c.put_used.ensures.written c.put_used.ensures.length)) c.in-Used.head c.in-Used.length c.in-Used.is in
    let a = command_at_head c.args.self.now c.args.chain c.requires.host c.requires.serving c.requires.slot.0 c.requires.slot.1 c.args.pos c.requires.ring.0 c.requires.ring.1 c.requires.ring.2 c.args.reply.now c.min-count.result fits c.write.new.self c.put_used.new.mem c.write.ensures.written c.write.ensures.length c.put_used.ensures.written c.put_used.ensures.length c.in-Used.head c.read_descriptor-command.result.addr b.head_back (ap (λ d. d.addr) c.read_descriptor-command.ensures) in
    omega (arith, a)

pub returns-clause-ring : goal.returns-clause-ring
returns-clause-ring c = λ r has at.
    let min = c.min-count.ensures in
    let fits = fitting c.args.reply.now c.min-count.result c.args.chain.writable.len (λ e. omega (arith, min)) (λ e. omega (arith, min)) in
    let b = back c.args.self.now c.args.chain c.requires.host c.requires.serving c.requires.slot.0 c.requires.slot.1 c.args.pos r has at c.args.reply.now c.min-count.result fits c.write.new.self c.put_used.new.mem c.write.ensures.written c.write.ensures.length c.put_used.ensures.written c.put_used.ensures.length c.take_used.result c.take_used.new.self (c.take_used.ensures.taken (with_used r [] (pair_of c.args.chain) [] c.min-count.result) (stands_two c.args.self.now c.args.chain c.requires.host c.requires.serving c.requires.slot.0 c.requires.slot.1 c.args.pos r has at c.args.reply.now c.min-count.result fits c.write.new.self c.put_used.new.mem c.write.ensures.written c.write.ensures.length c.put_used.ensures.written c.put_used.ensures.length)) c.in-Used.head c.in-Used.length c.in-Used.is in
    b.ring

pub returns-clause-slot : goal.returns-clause-slot
returns-clause-slot c = λ key of.
    let min = c.min-count.ensures in
    let fits = fitting c.args.reply.now c.min-count.result c.args.chain.writable.len (λ e. omega (arith, min)) (λ e. omega (arith, min)) in
    let b = back c.args.self.now c.args.chain c.requires.host c.requires.serving key of c.args.pos c.requires.ring.0 c.requires.ring.1 c.requires.ring.2 c.args.reply.now c.min-count.result fits c.write.new.self c.put_used.new.mem c.write.ensures.written c.write.ensures.length c.put_used.ensures.written c.put_used.ensures.length c.take_used.result c.take_used.new.self (c.take_used.ensures.taken (with_used c.requires.ring.0 [] (pair_of c.args.chain) [] c.min-count.result) (stands_two c.args.self.now c.args.chain c.requires.host c.requires.serving key of c.args.pos c.requires.ring.0 c.requires.ring.1 c.requires.ring.2 c.args.reply.now c.min-count.result fits c.write.new.self c.put_used.new.mem c.write.ensures.written c.write.ensures.length c.put_used.ensures.written c.put_used.ensures.length)) c.in-Used.head c.in-Used.length c.in-Used.is in
    let a = command_at_head c.args.self.now c.args.chain c.requires.host c.requires.serving key of c.args.pos c.requires.ring.0 c.requires.ring.1 c.requires.ring.2 c.args.reply.now c.min-count.result fits c.write.new.self c.put_used.new.mem c.write.ensures.written c.write.ensures.length c.put_used.ensures.written c.put_used.ensures.length c.in-Used.head c.read_descriptor-command.result.addr b.head_back (ap (λ d. d.addr) c.read_descriptor-command.ensures) in
    let e = c.slot_at.ensures in
    omega (arith, a, e)

pub returns-clause-count : goal.returns-clause-count
returns-clause-count c =
    let min = c.min-count.ensures in
    let fits = fitting c.args.reply.now c.min-count.result c.args.chain.writable.len (λ e. omega (arith, min)) (λ e. omega (arith, min)) in
    let b = back c.args.self.now c.args.chain c.requires.host c.requires.serving c.requires.slot.0 c.requires.slot.1 c.args.pos c.requires.ring.0 c.requires.ring.1 c.requires.ring.2 c.args.reply.now c.min-count.result fits c.write.new.self c.put_used.new.mem c.write.ensures.written c.write.ensures.length c.put_used.ensures.written c.put_used.ensures.length c.take_used.result c.take_used.new.self (c.take_used.ensures.taken (with_used c.requires.ring.0 [] (pair_of c.args.chain) [] c.min-count.result) (stands_two c.args.self.now c.args.chain c.requires.host c.requires.serving c.requires.slot.0 c.requires.slot.1 c.args.pos c.requires.ring.0 c.requires.ring.1 c.requires.ring.2 c.args.reply.now c.min-count.result fits c.write.new.self c.put_used.new.mem c.write.ensures.written c.write.ensures.length c.put_used.ensures.written c.put_used.ensures.length)) c.in-Used.head c.in-Used.length c.in-Used.is in
    b.whole ∙ fits.whole

pub returns-clause-answer : goal.returns-clause-answer
returns-clause-answer c =
    let min = c.min-count.ensures in
    let fits = fitting c.args.reply.now c.min-count.result c.args.chain.writable.len (λ e. omega (arith, min)) (λ e. omega (arith, min)) in
    let b = back c.args.self.now c.args.chain c.requires.host c.requires.serving c.requires.slot.0 c.requires.slot.1 c.args.pos c.requires.ring.0 c.requires.ring.1 c.requires.ring.2 c.args.reply.now c.min-count.result fits c.write.new.self c.put_used.new.mem c.write.ensures.written c.write.ensures.length c.put_used.ensures.written c.put_used.ensures.length c.take_used.result c.take_used.new.self (c.take_used.ensures.taken (with_used c.requires.ring.0 [] (pair_of c.args.chain) [] c.min-count.result) (stands_two c.args.self.now c.args.chain c.requires.host c.requires.serving c.requires.slot.0 c.requires.slot.1 c.args.pos c.requires.ring.0 c.requires.ring.1 c.requires.ring.2 c.args.reply.now c.min-count.result fits c.write.new.self c.put_used.new.mem c.write.ensures.written c.write.ensures.length c.put_used.ensures.written c.put_used.ensures.length)) c.in-Used.head c.in-Used.length c.in-Used.is in
    ap (λ (n : ℕ). bytes_at c.args.chain.writable.addr n c.put_used.new.mem) b.whole ∙ answer_there c.args.self.now c.args.chain c.requires.host c.requires.serving c.requires.slot.0 c.requires.slot.1 c.args.pos c.requires.ring.0 c.requires.ring.1 c.requires.ring.2 c.args.reply.now c.min-count.result fits c.write.new.self c.put_used.new.mem c.write.ensures.written c.write.ensures.length c.put_used.ensures.written c.put_used.ensures.length

pub returns-clause-before : goal.returns-clause-before
returns-clause-before c =
    let min = c.min-count.ensures in
    let fits = fitting c.args.reply.now c.min-count.result c.args.chain.writable.len (λ e. omega (arith, min)) (λ e. omega (arith, min)) in
    before_answer c.args.self.now c.args.chain c.requires.host c.requires.serving c.requires.slot.0 c.requires.slot.1 c.args.pos c.requires.ring.0 c.requires.ring.1 c.requires.ring.2 c.args.reply.now c.min-count.result fits c.write.new.self c.put_used.new.mem c.write.ensures.written c.write.ensures.length c.put_used.ensures.written c.put_used.ensures.length

pub returns-clause-behind : goal.returns-clause-behind
returns-clause-behind c =
    let min = c.min-count.ensures in
    let fits = fitting c.args.reply.now c.min-count.result c.args.chain.writable.len (λ e. omega (arith, min)) (λ e. omega (arith, min)) in
    behind_answer c.args.self.now c.args.chain c.requires.host c.requires.serving c.requires.slot.0 c.requires.slot.1 c.args.pos c.requires.ring.0 c.requires.ring.1 c.requires.ring.2 c.args.reply.now c.min-count.result fits c.write.new.self c.put_used.new.mem c.write.ensures.written c.write.ensures.length c.put_used.ensures.written c.put_used.ensures.length
