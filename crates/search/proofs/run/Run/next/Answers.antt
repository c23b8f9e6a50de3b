use Rattle.search.proofs.Producing.{next-none, next-done, next-halted, next-searching}
use Rattle.search.proofs.run.Run.next.Goals as goal

pub returns-in-None-clause-produces : goal.returns-in-None-clause-produces
returns-in-None-clause-produces g c = rw c.into.ensures (next-none g.S.PageSource g.R.Ranking c.args.self.now c.in-None.is)

pub returns-in-Done-clause-produces : goal.returns-in-Done-clause-produces
returns-in-Done-clause-produces g c = next-done g.S.PageSource g.R.Ranking g.met.R.Ranking.monotone c.args.self.now c.in-Done.is

pub returns-in-Halted-clause-produces : goal.returns-in-Halted-clause-produces
returns-in-Halted-clause-produces g c = next-halted g.S.PageSource g.R.Ranking g.met.R.Ranking.monotone c.args.self.now c.in-Halted.fault c.in-Halted.is

pub returns-in-Searching-clause-produces : goal.returns-in-Searching-clause-produces
returns-in-Searching-clause-produces g c =
    let o = c.search-reply.ensures in
    next-searching g.S.PageSource g.R.Ranking c.args.self.now _ c.search-reply.result c.in-Searching.is (record { unchanged = record { same = o.kept.unchanged.same; counted = o.kept.unchanged.counted; ranking = o.kept.unchanged.ranking }; question = o.kept.question; metered = o.kept.metered }) c.into-self.ensures o.gives
