use Rattle.promises.proofs.tested_books_are_lawful.Goals as goal
use Rattle.promises.proofs.Checking.{checked}

pub returns : goal.returns
returns c = checked
