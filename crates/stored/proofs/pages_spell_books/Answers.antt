use Rattle.stored.proofs.Spelling.{pages_spell_books}
use Rattle.stored.proofs.pages_spell_books.Goals as goal

pub returns : goal.returns
returns c = pages_spell_books
