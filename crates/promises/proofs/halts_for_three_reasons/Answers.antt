use Rattle.promises.proofs.Halting.{halts-only}
use Rattle.promises.proofs.halts_for_three_reasons.Goals as goal

pub returns : goal.returns
returns c = halts-only
