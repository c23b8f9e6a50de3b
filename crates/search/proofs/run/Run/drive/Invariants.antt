use Rattle.std.proofs.Common.{◌-◌, length}
use Rattle.waiting.specs.Held.{listing}
use Rattle.search.specs.Runs.{Unchanged}
use Rattle.search.proofs.Driving.{Hands}
use Rattle.search.proofs.run.Run.drive.Given as goal

abbrev pub invariant-loop : goal.invariant-loop
invariant-loop g l = Unchanged g.S.PageSource l.initial.self l.self × Hands g.S.PageSource g.R.Ranking l.initial.self l.self

-- each station handed out takes a place of the list
abbrev pub decreases-loop : goal.decreases-loop
decreases-loop g l = 512 - length (listing l.self.listed)
