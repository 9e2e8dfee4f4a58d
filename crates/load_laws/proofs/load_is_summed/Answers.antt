use Rattle.load_laws.proofs.Loaded.{loaded_summed}
use Rattle.load_laws.proofs.load_is_summed.Goals as goal

pub returns : goal.returns
returns c seed count few = loaded_summed seed count few
