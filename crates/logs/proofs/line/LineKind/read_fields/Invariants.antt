use Rattle.logs.proofs.Fields.{Going}
use Rattle.logs.proofs.line.LineKind.read_fields.Given as goal

abbrev pub invariant-loop-place : goal.invariant-loop-place
invariant-loop-place g l = Going l.number l.line l.self.fields l.numbers l.place l.rest
