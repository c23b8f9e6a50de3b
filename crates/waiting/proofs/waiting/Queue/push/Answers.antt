use Rattle.waiting.proofs.Heaps.{put-from}
use Rattle.waiting.proofs.waiting.Queue.push.Goals as goal

pub returns-in-Some : goal.returns-in-Some
returns-in-Some c = let s = c.args.self.now in let e = c.in-Some.ensures in put-from s.items s.used c.args.item c.push.new.keys c.in-Some.used e.1 e.2
