use Rattle.promises.proofs.worked_cases_hold.Goals as goal
use Rattle.promises.proofs.Cases.{worked_cases}

pub returns : goal.returns
returns c = worked_cases
