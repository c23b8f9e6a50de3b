use Rattle.promises.proofs.promises_hold_after_any_history.Goals as goal
use Rattle.promises.proofs.Histories.{every-history}

pub returns : goal.returns
returns c = every-history
