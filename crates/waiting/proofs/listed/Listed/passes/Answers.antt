use Rattle.std.proofs.Common.{ltb, ap, ◌∙◌}
use Rattle.stations.specs.Beating.{beats}
use Rattle.stations.specs.Counting.{count}
use Rattle.waiting.specs.Held.{listing}
use Rattle.waiting.proofs.Tests.{both-parts}
use Rattle.waiting.proofs.listed.Listed.passes.Goals as goal

pub returns-then-is_in_play : goal.returns-then-is_in_play
returns-then-is_in_play g c rank =
    both-parts c.is_in_play.result _ c.few_beat.result _ c.if-is_in_play.true (c.is_in_play.ensures rank) (c.few_beat.ensures ∙ ap (λ p. ltb (count (λ s. beats s.at p) (listing c.args.self.now)) c.args.query.now.question.k) (c.measures_of.ensures rank))
