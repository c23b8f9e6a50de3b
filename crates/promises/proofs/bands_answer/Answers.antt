use Rattle.promises.proofs.bands_answer.Goals as goal
use Rattle.promises.proofs.Bands.{bands-answer}

pub returns : goal.returns
returns c = bands-answer
