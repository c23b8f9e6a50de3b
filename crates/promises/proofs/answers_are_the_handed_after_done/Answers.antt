use Rattle.promises.proofs.answers_are_the_handed_after_done.Goals as goal
use Rattle.promises.proofs.Promises.{sound_done}

pub returns : goal.returns
returns c = sound_done
