use Rattle.promises.proofs.answer_counts_like_field.Goals as goal
use Rattle.promises.proofs.Theory.{counting-stands}

pub returns : goal.returns
returns c = counting-stands
