use Rattle.std.proofs.Common.{◌≡◌, ◌<◌, length, Some, ap, sym, ◌∙◌, reverse}
use Rattle.std.proofs.lemmas.List.{length-reverse}
use Rattle.history.proofs.PlaceLemmas.{entry_at-reverse}
use Rattle.history.proofs.log.Log.entry.Goals as goal

pub returns : goal.returns
returns g c =
    let l = length-reverse c.self.inside.entries.items in
    let same : reverse c.self.inside.entries.items ≡ c.args.self.now.entries = ap (λ k. k.entries) c.self.view_is in
    let room : c.args.at < length c.self.inside.entries.items = rw (← l, same) c.requires in
    rw (← same) (entry_at-reverse c.self.inside.entries.items c.args.at c.index.result.now room ∙ ap Some (sym c.index.ensures))
