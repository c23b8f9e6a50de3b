use Rattle.promises.proofs.next_steps_along_the_row.Goals as goal
use Rattle.promises.proofs.Stepping.{stepping}

pub returns : goal.returns
returns c = stepping
