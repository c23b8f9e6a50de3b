use Rattle.std.proofs.Common.{◌-◌, length}
use Rattle.logs.proofs.Scans.{Scan}
use Rattle.logs.proofs.line.split_line.Given as goal

abbrev pub invariant-loop-token : goal.invariant-loop-token
invariant-loop-token l = Scan l.text l.«at» l.commas

abbrev pub decreases-loop-token : goal.decreases-loop-token
decreases-loop-token l = length l.text - l.«at»
