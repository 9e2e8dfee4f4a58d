use Rattle.std.proofs.Common.{◌≡◌, ◌<◌, ◌+◌, ◌∷◌, [], ◌++◌, length, get_or, slice_set, Some, arith, ap, refl, ◌∙◌}
use Rattle.std.specs.List.{slice_get}
use Rattle.std.proofs.lemmas.Option.{slice_get_read}
use Rattle.group_cells.proofs.Closing.{put_last, one_put}
use Rattle.group_cells.proofs.close.put_member_keys.Goals as goal

pub loop-key-preserved : goal.loop-key-preserved
loop-key-preserved c =
    let l = c.loop-key in
    let rest = c.pop.new.self.items in
    let key = c.in-Some.key in
    let passes = c.index_mut.result.now in
    let is : l.keys.items ≡ rest ++ key ∷ [] = c.in-Some.ensures.items in
    let place : c.len-index.result ≡ length rest = c.len-index.ensures ∙ c.pop.new.self.ok.0 in
    let one : length l.keys.items ≡ length rest + 1 = put_last c.args.keys.items l.keys.items rest key c.args.bunches.now.items l.bunches.items l.invariant is in
    let within : length rest < length l.bunches.items = omega (arith, one, l.invariant.as_many, l.invariant.few, c.requires.as_many) in
    let at : slice_get l.bunches.items (length rest) ≡ Some passes =
    slice_get_read l.bunches.items _ (length rest) passes refl within (c.index_mut.ensures.value ∙ ap (λ at. get_or l.bunches.items at passes) place) in
    one_put c.args.bunches.now.items l.bunches.items _ c.args.keys.items l.keys.items rest passes c.put_back.new.self key l.invariant is at (ap (λ at. slice_set l.bunches.items at c.put_back.new.self) place) (record { last = c.put_back.ensures.0; room = c.put_back.ensures.1 })
