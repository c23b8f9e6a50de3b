use Rattle.writer.proofs.Rows.{reads-back}
use Rattle.writer.proofs.written_books_read_back.Goals as goal

pub returns : goal.returns
returns c = reads-back
