use Rattle.promises.proofs.bands_keep_laws.Goals as goal
use Rattle.promises.proofs.Bands.{bands-keep-laws}

pub returns : goal.returns
returns c = bands-keep-laws
