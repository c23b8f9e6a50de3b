use Rattle.logs.proofs.Laws.{accepts_exactly}
use Rattle.logs.proofs.law.accepts_exactly_renderings.Goals as goal

pub returns : goal.returns
returns c = accepts_exactly
