use Rattle.std.proofs.Common.{sym, ◌∙◌}
use Rattle.vfio_driver.proofs.Fitting.{routed_fits}
use Rattle.vfio_driver.proofs.driver.Driver.start.Goals as goal

pub post-requires : goal.post-requires
post-requires c =
    let self = c.args.self.now in
    routed_fits self.bar self.msix self.io c.args.access c.in-Command.command c.requires.width (sym c.route.ensures ∙ c.in-Command.is)
