use Rattle.promises.proofs.named_pages_can_be_filled.Goals as goal
use Rattle.promises.proofs.Filling.{fillable}

pub returns : goal.returns
returns c = fillable
