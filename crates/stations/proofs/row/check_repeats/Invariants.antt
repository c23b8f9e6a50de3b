use Rattle.std.proofs.Common.{◌≡◌, [], take, drop}
use Rattle.stations.specs.Marks.{Covers}
use Rattle.stations.specs.Rows.{holds_number, repeat_fault}
use Rattle.stations.proofs.row.check_repeats.Given as goal

-- what is left decides, after what came before it, and every number that came before is marked
abbrev pub invariant-loop-i : goal.invariant-loop-i
invariant-loop-i l = (repeat_fault (take l.i l.row) l.i (drop l.i l.row) ≡ repeat_fault [] 0 l.row) × Covers l.marks (λ n. holds_number n (take l.i l.row))
