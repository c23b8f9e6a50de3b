use Rattle.std.proofs.Common.{take, arith, rules}
use Rattle.std.proofs.lemmas.Result.{err_from_is_err_and}
use Rattle.waiting.specs.Asking.{bands_of}
use Rattle.waiting.specs.Held.{held, listing}
use Rattle.waiting.proofs.Filling.{fills-more, fills-full}
use Rattle.waiting.proofs.waiting.Queue.fill.Goals as goal

pub returns-in_err-admit-clause-fills : goal.returns-in_err-admit-clause-fills
returns-in_err-admit-clause-fills g c =
    let p = err_from_is_err_and c.from_residual.result c.from_residual.ensures.1 in
    let score = g.R.Ranking.score in
    rw p.1 (fills-full (bands_of score c.args.query.now) (listing c.args.listed.now) (take c.args.page.now.len c.args.page.now.entries) c.loop-entry.entry-index _ (search rules) c.in_err-admit.field-0.0 (held c.args.self.now) (held c.loop-entry.self) (held c.admit.new.self) c.loop-entry.invariant.0 c.in_err-admit.ensures.fills)

pub loop-entry-preserved : goal.loop-entry-preserved
loop-entry-preserved g c = (
  fills-more (bands_of g.R.Ranking.score c.args.query.now) (listing c.args.listed.now) (take c.args.page.now.len c.args.page.now.entries) c.loop-entry.entry-index _ (search rules) (held c.args.self.now) (held c.loop-entry.self) (held c.admit.new.self) c.loop-entry.invariant.0 c.in_ok-admit.ensures.fills,
  omega (arith, c.loop-entry.invariant.1, c.in_ok-admit.ensures.few),
)
