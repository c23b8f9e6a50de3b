use Rattle.std.proofs.Common.{take}
use Rattle.search.specs.Playing.{Made}
use Rattle.search.proofs.plays.play.Given as goal

abbrev pub invariant-loop-call : goal.invariant-loop-call
invariant-loop-call g l = Made g.S.PageSource g.R.Ranking (g.R.Ranking.score l.initial.run.query.ranking) (g.S.PageSource.book l.initial.run.source) (take l.call-index l.calls) l.run
