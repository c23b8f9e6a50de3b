use Rattle.std.proofs.Common.{refl}
use Rattle.std.proofs.lemmas.Result.{err_from_is_err_and}
use Rattle.search.proofs.Producing.{start-refused, start-accepted}
use Rattle.search.proofs.run.Run.start.Goals as goal

pub returns-in_err-check-clause-produces : goal.returns-in_err-check-clause-produces
returns-in_err-check-clause-produces g c =
    let p = err_from_is_err_and c.from_residual.result c.from_residual.ensures.1 in
    rw (p.1, p.2) (start-refused g.S.PageSource g.R.Ranking c.args.self.now c.args.question c.in_err-check.field-0.0 c.in_err-check.ensures)

pub returns-clause-produces : goal.returns-clause-produces
returns-clause-produces g c =
    let o = c.clear.ensures in
    start-accepted g.S.PageSource g.R.Ranking c.args.self.now _ c.args.question c.in_ok-check.ensures o.source o.ranking refl o.phase o.none
