use Rattle.std.proofs.Common.{◌+◌, ap, arith, rules}
use borrow.Author.Tests.{le-false}
use Rattle.stations.specs.Beating.{beats}
use Rattle.stations.specs.Counting.{bit}
use Rattle.waiting.specs.Held.{listing}
use Rattle.waiting.proofs.Tests.{count-more, count-front}
use Rattle.waiting.proofs.listed.Listed.few_beat.Goals as goal
use Rattle.waiting.proofs.listed.Listed.few_beat.Goals.{then-beats+else-left-le1, else-beats}

pub returns-then-left-le1 : goal.returns-then-left-le1
returns-then-left-le1 c =
    let xs = listing c.args.self.now in
    let one = count-more (λ s. beats s.at c.args.at) xs c.loop-station.station-index _ c.beats.result (search rules) c.beats.ensures in
    le-false _ _ (omega (arith, one, ap bit c.if-beats.true, c.loop-station.invariant, count-front (λ s. beats s.at c.args.at) xs (c.loop-station.station-index + 1)))

pub loop-station-preserved : goal.loop-station-preserved
loop-station-preserved c =
    let one = count-more (λ s. beats s.at c.args.at) (listing c.args.self.now) c.loop-station.station-index _ c.beats.result (search rules) c.beats.ensures in
    elim c.if-beats.branch [ then-beats+else-left-le1 w ↦ omega (arith, w.left-is, ap bit w.if-beats.true, one, c.loop-station.invariant) | else-beats w ↦ omega (arith, w.left-is, ap bit w.if-beats.false, one, c.loop-station.invariant) ]
