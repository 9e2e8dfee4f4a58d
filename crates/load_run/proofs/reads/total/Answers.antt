use Rattle.std.proofs.Common.{◌≡◌, ◌+◌, ◌-◌, ◌<◌, ℕ, length, Some, sym, ap, ◌∙◌, subst, arith, rules}
use Rattle.std.specs.List.{slice_get}
use Rattle.journal.specs.Lines.{numbers, members_of}
use Rattle.load_run.specs.Load.{total_of, total_in}
use Rattle.load_run.proofs.Counting.{total_on_members}
use Rattle.load_run.proofs.reads.total.Goals as goal

pub members-preserved : goal.members-preserved
members-preserved c = λ s j holds.
    let n = c.members.total in
    let m = c.in_ok-total_of.field-0 in
    let index = c.members.index in
    let cell = c.member_cell.result.now in
    let count : length c.args.cells.now.members ≡ members_of s = holds.member_count in
    let end : c.members-index-end.result ≡ length c.args.cells.now.members = c.members-index-end.ensures in
    let less : index < members_of s = omega arith in
    let place : index + 1 - 1 ≡ index = omega arith in
    let here : slice_get c.args.cells.now.members index ≡ Some cell = subst (λ (k : ℕ). slice_get c.args.cells.now.members k ≡ Some cell) place c.member_cell.ensures in
    let history = (holds.member index cell here).1 in
    let added : c.in_ok-total.total ≡ n + m = search rules in
    total_on_members j index (members_of s) n m (total_in j (numbers 1 (members_of s))) less (c.in_ok-total_of.ensures ∙ ap total_of history) (c.members.invariant s j holds)
    ∙ ap (λ (k : ℕ). k + total_in j (numbers (index + 1 + 1) (members_of s - (index + 1)))) (sym added)
