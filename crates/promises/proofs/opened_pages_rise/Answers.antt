use Rattle.promises.proofs.opened_pages_rise.Goals as goal
use Rattle.promises.proofs.Theory.{upward}

pub returns : goal.returns
returns c = upward
