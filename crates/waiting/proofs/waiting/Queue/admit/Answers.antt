use Rattle.std.proofs.Common.{sym, ◌∙◌}
use Rattle.waiting.specs.Asking.{bands_of}
use Rattle.waiting.specs.Held.{held, listing}
use Rattle.waiting.proofs.Filling.{fills-put}
use Rattle.waiting.proofs.waiting.Queue.admit.Goals as goal

pub returns-then-passes : goal.returns-then-passes
returns-then-passes g c =
    let score = g.R.Ranking.score in
    let q = c.args.query.now in
    let f = fills-put (bands_of score q) (listing c.args.listed.now) c.args.entry (held c.args.self.now) _ c.push.result (held c.push.new.self) (sym (c.passes.ensures (score q.ranking)) ∙ c.if-passes.true) c.keyed.ensures c.push.ensures in
    record { fills = f.0; few = f.1 }
