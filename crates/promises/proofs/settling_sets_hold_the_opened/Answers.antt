use Rattle.promises.proofs.settling_sets_hold_the_opened.Goals as goal
use Rattle.promises.proofs.Promises.{frugal}

pub returns : goal.returns
returns c = frugal
