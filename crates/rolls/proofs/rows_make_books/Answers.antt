use Rattle.rolls.proofs.Books.{rows_make_books}
use Rattle.rolls.proofs.rows_make_books.Goals as goal

pub returns : goal.returns
returns c = rows_make_books
