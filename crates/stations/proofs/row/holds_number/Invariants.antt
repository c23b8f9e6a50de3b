use Rattle.std.proofs.Common.{◌≡◌, ◌||◌, drop}
use Rattle.stations.specs.Rows.{holds_number}
use Rattle.stations.proofs.row.holds_number.Given as goal

-- what was found, and what is left
abbrev pub invariant-loop-s : goal.invariant-loop-s
invariant-loop-s l = (l.found || holds_number l.number (drop l.s-index l.row)) ≡ holds_number l.number l.row
