use Rattle.std.proofs.Common.{◌≡◌}
use Rattle.waiting.specs.Held.{listing}
use Rattle.search.specs.Runs.{Kept, left}
use Rattle.search.proofs.Runs.{Come}
use Rattle.search.proofs.run.Run.reply.Given as goal

abbrev pub invariant-loop-found : goal.invariant-loop-found
invariant-loop-found g l = Kept g.S.PageSource l.initial.self l.self × (listing l.self.listed ≡ listing l.initial.self.listed) × Come g.S.PageSource g.R.Ranking l.initial.self l.self

abbrev pub decreases-loop-found : goal.decreases-loop-found
decreases-loop-found g l = left l.self
