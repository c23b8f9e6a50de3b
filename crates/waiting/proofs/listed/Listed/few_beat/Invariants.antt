use Rattle.std.proofs.Common.{◌≡◌, ◌+◌, take}
use Rattle.stations.specs.Beating.{beats}
use Rattle.stations.specs.Counting.{count}
use Rattle.waiting.proofs.listed.Listed.few_beat.Given as goal

abbrev pub invariant-loop-station : goal.invariant-loop-station
invariant-loop-station l = l.left + count (λ s. beats s.at l.at) (take l.station-index l.station-items) ≡ l.k
