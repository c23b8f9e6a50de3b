use Rattle.logs.specs.Values.{Along}
use Rattle.logs.proofs.field.read_digits.Given as goal

abbrev pub invariant-loop-i : goal.invariant-loop-i
invariant-loop-i l = Along l.text l.number l.i
