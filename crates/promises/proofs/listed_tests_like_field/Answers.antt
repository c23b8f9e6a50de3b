use Rattle.promises.proofs.listed_tests_like_field.Goals as goal
use Rattle.promises.proofs.Theory.{listed_tests}

pub returns : goal.returns
returns c = listed_tests
