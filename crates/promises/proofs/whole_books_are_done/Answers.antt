use Rattle.promises.proofs.whole_books_are_done.Goals as goal
use Rattle.promises.proofs.Promises.{exact}

pub returns : goal.returns
returns c = exact
