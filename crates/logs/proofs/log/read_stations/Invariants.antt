use Rattle.std.proofs.Common.{length}
use Rattle.logs.proofs.Rows.{Going}
use Rattle.logs.proofs.log.read_stations.Given as goal

abbrev pub invariant-loop-rest : goal.invariant-loop-rest
invariant-loop-rest l = Going l.text l.rest l.row.items

abbrev pub decreases-loop-rest : goal.decreases-loop-rest
decreases-loop-rest l = length l.rest
