use Rattle.search.proofs.Producing.{stop-none, stop-some}
use Rattle.search.proofs.run.Run.stop.Goals as goal

pub returns-in-None-clause-produces : goal.returns-in-None-clause-produces
returns-in-None-clause-produces g c = rw c.into.ensures (stop-none g.S.PageSource g.R.Ranking c.args.self.now c.in-None.is)

pub returns-clause-produces : goal.returns-clause-produces
returns-clause-produces g c = let o = c.clear.ensures in stop-some g.S.PageSource g.R.Ranking c.args.self.now c.clear.new.self c.in_default.not-None o.source o.ranking o.phase o.none
