use Rattle.rolls.proofs.Counts.{rows_make_pages}
use Rattle.rolls.proofs.rows_make_pages.Goals as goal

pub returns : goal.returns
returns c = rows_make_pages
