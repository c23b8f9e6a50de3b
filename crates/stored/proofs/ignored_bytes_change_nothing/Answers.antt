use Rattle.stored.proofs.Spelling.{pages_alike}
use Rattle.stored.proofs.ignored_bytes_change_nothing.Goals as goal

pub returns : goal.returns
returns c = pages_alike
