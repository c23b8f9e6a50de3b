use Rattle.std.proofs.Common.{◌≡◌, count_by, ◌∙◌, rules}
use Rattle.std.proofs.iter.runs.Made.{chains}
use Rattle.stations.specs.Beating.{beats}
use Rattle.waiting.specs.Held.{listing}
use Rattle.waiting.proofs.Tests.{counted}
use Rattle.waiting.proofs.listed.Listed.beating.Goals as goal

pub returns : goal.returns
returns c =
    let found : c.count.result ≡ count_by (λ s. beats s.at c.args.at) (listing c.args.self.now) = search (rules, chains) in
    found ∙ counted (λ s. beats s.at c.args.at) (listing c.args.self.now)
