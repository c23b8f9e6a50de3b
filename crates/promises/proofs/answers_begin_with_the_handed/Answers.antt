use Rattle.promises.proofs.answers_begin_with_the_handed.Goals as goal
use Rattle.promises.proofs.Promises.{sound}

pub returns : goal.returns
returns c = sound
