use Rattle.promises.proofs.answer_stands_on_opened.Goals as goal
use Rattle.promises.proofs.Theory.{standing}

pub returns : goal.returns
returns c = standing
