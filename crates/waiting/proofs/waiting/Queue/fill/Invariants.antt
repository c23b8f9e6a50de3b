use Rattle.std.proofs.Common.{◌+◌, ◌≤◌, length, take}
use Rattle.waiting.specs.Asking.{bands_of}
use Rattle.waiting.specs.Held.{held, listing, Filled}
use Rattle.waiting.proofs.waiting.Queue.fill.Given as goal

abbrev pub invariant-loop-entry : goal.invariant-loop-entry
invariant-loop-entry g l = Filled (bands_of g.R.Ranking.score l.query) (listing l.listed) (take l.entry-index l.entry-items) (held l.initial.self) (held l.self) × (length (held l.self) ≤ length (held l.initial.self) + l.entry-index)
