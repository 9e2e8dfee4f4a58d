use Rattle.std.proofs.Common.{rules, ◌≡◌, ℕ, List, ◌∷◌, ◌++◌, replicate, sym, ap, ◌∙◌, append_assoc, inl, inr}
use Rattle.admin_wire.specs.Writing.{legacy_bytes, legacy_data, fixed_part, opcode_for}
use Rattle.admin_wire.proofs.ReadAgain.{legacy_again}
use Rattle.admin_wire.proofs.writing.write_legacy.Goals as goal

pub returns-in-Info-clause-read_again : goal.returns-in-Info-clause-read_again
returns-in-Info-clause-read_again c =
    let bytes : c.write_fixed_part-bytes.result ≡ legacy_bytes c.args.member c.args.command.now = search rules in
    rw bytes (legacy_again c.args.member c.args.command.now c.ranges.member.fits)

pub returns-in-CommonRead-clause-read_again : goal.returns-in-CommonRead-clause-read_again
returns-in-CommonRead-clause-read_again c =
    let bytes : c.push.new.self ≡ legacy_bytes c.args.member c.args.command.now = search rules in
    rw bytes (legacy_again c.args.member c.args.command.now c.ranges.member.fits)

pub returns-in-CommonWrite-clause-read_again : goal.returns-in-CommonWrite-clause-read_again
returns-in-CommonWrite-clause-read_again c =
    let offset : List ℕ = c.in-CommonWrite.offset ∷ replicate 7 0 in
    let rest : legacy_data c.args.command.now ≡ offset ++ c.in-CommonWrite.data = elim c.in-CommonWrite.is [ inl common ↦ ap legacy_data common | inr device ↦ ap legacy_data device ] in
    let fixed : c.write_fixed_part-bytes.result ≡ fixed_part (opcode_for c.args.command.now) c.args.member =
    c.write_fixed_part-bytes.ensures.bytes ∙ ap (λ opcode. fixed_part opcode c.args.member) c.opcode_of.ensures in
    let bytes : c.extend-in-CommonWrite.new.self ≡ legacy_bytes c.args.member c.args.command.now =
    c.extend-in-CommonWrite.ensures
    ∙ ap (λ front. front ++ c.as_slice.result.now) c.extend.ensures
    ∙ append_assoc c.write_fixed_part-bytes.result offset c.as_slice.result.now
    ∙ ap (λ behind. c.write_fixed_part-bytes.result ++ (offset ++ behind)) c.as_slice.ensures.bytes
    ∙ ap (λ front. front ++ (offset ++ c.in-CommonWrite.data)) fixed
    ∙ ap (λ behind. fixed_part (opcode_for c.args.command.now) c.args.member ++ behind) (sym rest) in
    rw bytes (legacy_again c.args.member c.args.command.now c.ranges.member.fits)
