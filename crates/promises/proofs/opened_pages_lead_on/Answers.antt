use Rattle.promises.proofs.opened_pages_lead_on.Goals as goal
use Rattle.promises.proofs.Theory.{onward}

pub returns : goal.returns
returns c = onward
