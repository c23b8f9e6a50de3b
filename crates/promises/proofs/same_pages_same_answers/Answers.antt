use Rattle.promises.proofs.same_pages_same_answers.Goals as goal
use Rattle.promises.proofs.Theory.{same_answers}

pub returns : goal.returns
returns c = same_answers
