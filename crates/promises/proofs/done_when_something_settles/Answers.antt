use Rattle.promises.proofs.done_when_something_settles.Goals as goal
use Rattle.promises.proofs.Promises.{decisive}

pub returns : goal.returns
returns c = decisive
