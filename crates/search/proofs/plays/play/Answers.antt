use Rattle.std.proofs.Common.{[], take, sym, subst, take_all}
use Rattle.search.specs.Playing.{Made}
use Rattle.search.proofs.Playing.{made_none, made-next, made_with, played}
use Rattle.search.proofs.plays.play.Goals as goal

pub loop-call-init : goal.loop-call-init
loop-call-init g c =
    let n = c.new-run.ensures in
    let meter = g.S.PageSource.meter c.args.source in
    made_with g.S.PageSource g.R.Ranking c.args.source c.new-run.result.source c.args.ranking c.new-run.result.query.ranking [] c.new-run.result (sym n.source) (sym n.ranking) (made_none g.S.PageSource g.R.Ranking (g.R.Ranking.score c.args.ranking) (g.S.PageSource.book c.args.source) meter c.new-run.result (n.produces meter))

pub loop-call-preserved : goal.loop-call-preserved
loop-call-preserved g c =
    let rank = g.R.Ranking.score c.new-run.result.query.ranking in
    let b = g.S.PageSource.book c.new-run.result.source in
    made-next g.S.PageSource g.R.Ranking rank b c.args.calls.now c.loop-call.call-index _ c.make.new.run c.loop-call-test.true (c.make.ensures rank b (take c.loop-call.call-index c.args.calls.now) c.loop-call.invariant)

pub returns : goal.returns
returns g c =
    let n = c.new-run.ensures in
    let r = c.loop-call.run in
    let made = subst (λ cs. Made g.S.PageSource g.R.Ranking (g.R.Ranking.score c.new-run.result.query.ranking) (g.S.PageSource.book c.new-run.result.source) cs r) (take_all _ c.args.calls.now c.loop-call-test.false) c.loop-call.invariant in
    played g.S.PageSource g.R.Ranking (g.R.Ranking.score c.args.ranking) (g.S.PageSource.book c.args.source) (g.met.R.Ranking.monotone c.args.ranking) (g.S.PageSource.laws.lawful c.args.source) c.args.calls.now r (made_with g.S.PageSource g.R.Ranking c.new-run.result.source c.args.source c.new-run.result.query.ranking c.args.ranking c.args.calls.now r n.source n.ranking made)
