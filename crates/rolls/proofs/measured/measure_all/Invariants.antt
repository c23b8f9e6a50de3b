use Rattle.std.proofs.Common.{take}
use Rattle.std.specs.List.{AllByRecursion as Each}
use Rattle.stations.specs.Beating.{Ordinary}
use Rattle.rolls.proofs.measured.measure_all.Given as goal

abbrev pub invariant-loop-s : goal.invariant-loop-s
invariant-loop-s l = Each (λ s. Ordinary s.at) (take l.s-index l.row)
