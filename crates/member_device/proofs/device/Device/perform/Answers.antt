use Rattle.std.proofs.Common.{◌≡◌, ℕ, ◌<◌, List, [], length, ap, ◌∙◌}
use Rattle.group_calls.specs.declared.member.MemberReply.TheVariants.{Served}
use Rattle.blk_engine.specs.Block.{HasRoomAt}
use Rattle.group_calls.specs.Steps.{service, outcome_reply}
use Rattle.member_device.specs.Device.{Holdings, left_by_step}
use Rattle.member_device.specs.Plan.{facts_of, IsPlace, IsUsable}
use Rattle.member_device.proofs.Served.{served_reply, request_leaves, frame_leaves, chain_leaves}
use Rattle.member_device.proofs.device.Device.perform.Goals as goal

pub returns-in-Answers-clause-told : goal.returns-in-Answers-clause-told
returns-in-Answers-clause-told c = λ pending.
    let used = c.use_chain-used in
    rw c.in-Answers.is (c.answer.ensures.told ∙ ap (λ (s : List ℕ). Served used.result.length used.result.irq s) c.new.ensures
    ∙ served_reply c.args.self.now c.args.queue c.args.position c.in-Answers.place c.in-Answers.reply used.result.irq pending (used.ensures.irq pending) used.result.length _ [] used.ensures.length)

pub returns-in-Answers-clause-left : goal.returns-in-Answers-clause-left
returns-in-Answers-clause-left c = λ pending.
    let d : Holdings = c.args.self.now in
    let used = c.use_chain-used in
    let ready : IsUsable d.memory c.args.position c.in-Answers.place c.in-Answers.reply × (d.waiting ≡ []) × HasRoomAt c.in-Answers.put_at c.in-Answers.request d.disk = rw c.in-Answers.is at c.requires in
    rw c.in-Answers.is (request_leaves d c.args.queue c.args.position c.in-Answers.place c.in-Answers.reply used.result.irq pending (used.ensures.irq pending) ready.0.place.head
    used.new.self used.ensures.left c.store.new.self c.in-Answers.put_at c.in-Answers.request c.store.ensures ready.1)

pub returns-in-Receives-clause-told : goal.returns-in-Receives-clause-told
returns-in-Receives-clause-told c = λ pending.
    let used = c.use_chain-used-in-Receives in
    rw c.in-Receives.is (c.answer-in-Receives.ensures.told ∙ ap (λ (s : List ℕ). Served used.result.length used.result.irq s) c.new-in-Receives.ensures
    ∙ served_reply c.args.self.now c.args.queue c.args.position c.in-Receives.place c.in-Receives.reply used.result.irq pending (used.ensures.irq pending) used.result.length c.args.self.now.disk [] used.ensures.length)

pub returns-in-Receives-clause-left : goal.returns-in-Receives-clause-left
returns-in-Receives-clause-left c = λ pending.
    let d : Holdings = c.args.self.now in
    let used = c.use_chain-used-in-Receives in
    let ready : IsUsable d.memory c.args.position c.in-Receives.place c.in-Receives.reply × (c.args.queue ≡ 0) × (0 < length d.waiting) = rw c.in-Receives.is at c.requires in
    rw c.in-Receives.is (frame_leaves d c.args.queue c.args.position c.in-Receives.place c.in-Receives.reply used.result.irq pending (used.ensures.irq pending) ready.0.place.head
    used.new.self used.ensures.left c.drop_first-in-Receives.new.self c.drop_first-in-Receives.ensures ready.1)

pub returns-in-Transmits-clause-told : goal.returns-in-Transmits-clause-told
returns-in-Transmits-clause-told c = λ pending.
    let d : Holdings = c.args.self.now in
    let used = c.use_chain-used-in-Transmits in
    rw c.in-Transmits.is (c.answer-in-Transmits.ensures.told
    ∙ served_reply d c.args.queue c.args.position c.in-Transmits.place c.new-nothing.result used.result.irq pending (used.ensures.irq pending) used.result.length d.disk c.in-Transmits.sent used.ensures.length
    ∙ ap (λ (r : List ℕ). outcome_reply (service d.memory (facts_of d c.args.position pending) c.args.queue c.in-Transmits.place.layout c.in-Transmits.place.chain.parts r d.disk c.in-Transmits.sent)) c.new-nothing.ensures)

pub returns-in-Transmits-clause-left : goal.returns-in-Transmits-clause-left
returns-in-Transmits-clause-left c = λ pending.
    let d : Holdings = c.args.self.now in
    let used = c.use_chain-used-in-Transmits in
    let ready : IsPlace d.memory c.args.position c.in-Transmits.place × ¬ (c.args.queue ≡ 0) × (c.in-Transmits.sent_again ≡ c.in-Transmits.sent) = rw c.in-Transmits.is at c.requires in
    rw c.in-Transmits.is (chain_leaves d c.args.queue c.args.position c.in-Transmits.place c.new-nothing.result used.result.irq pending (used.ensures.irq pending) ready.0.head
    used.new.self used.ensures.left c.in-Transmits.sent ready.1
    ∙ ap (λ (r : List ℕ). left_by_step c.args.queue (service d.memory (facts_of d c.args.position pending) c.args.queue c.in-Transmits.place.layout c.in-Transmits.place.chain.parts r d.disk c.in-Transmits.sent) d) c.new-nothing.ensures)
