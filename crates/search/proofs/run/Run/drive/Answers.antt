use Rattle.std.proofs.Common.{◌≡◌, None, Ok, refl, rules}
use Rattle.std.proofs.lemmas.Result.{err_from_is_err_and}
use Rattle.search.proofs.Driving.{hands-none, hands-more, driven-err, driven-done}
use Rattle.search.proofs.Runs.{unchanged_then}
use Rattle.search.proofs.run.Run.drive.Goals as goal

pub loop-init : goal.loop-init
loop-init g c = (record { same = refl; counted = refl; ranking = refl }, hands-none g.S.PageSource g.R.Ranking c.args.self.now)

pub returns-in_err-next-clause-driven : goal.returns-in_err-next-clause-driven
returns-in_err-next-clause-driven g c =
    let p = err_from_is_err_and c.from_residual.result c.from_residual.ensures.1 in
    rw (p.1, p.2) (driven-err g.S.PageSource g.R.Ranking g.met.R.Ranking.monotone c.args.self.now c.loop.self c.next.new.self c.loop.invariant.1 c.in_err-next.field-0.0 c.in_err-next.ensures.produces)

pub loop-preserved : goal.loop-preserved
loop-preserved g c = (
  unchanged_then g.S.PageSource g.R.Ranking c.args.self.now c.loop.self c.next.new.self c.loop.invariant.0 c.next.ensures.unchanged,
  hands-more g.S.PageSource g.R.Ranking c.args.self.now c.loop.self c.next.new.self c.next.result c.loop.invariant.1 c.next.ensures.produces,
)

pub returns-clause-driven : goal.returns-clause-driven
returns-clause-driven g c =
    let done : c.next.result ≡ Ok None = search rules in
    driven-done g.S.PageSource g.R.Ranking g.met.R.Ranking.monotone c.args.self.now c.loop.self c.next.new.self c.loop.invariant.1 (rw (← done) c.next.ensures.produces)
