use Rattle.waiting.proofs.Heaps.{taken-from}
use Rattle.waiting.proofs.waiting.Queue.pop.Goals as goal

pub returns : goal.returns
returns c = let s = c.args.self.now in taken-from s.items s.used c.in_ok-first.first c.pop.new.keys c.in_ok-first.ensures.2
