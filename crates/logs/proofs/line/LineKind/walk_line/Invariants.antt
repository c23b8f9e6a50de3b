use Rattle.logs.proofs.Walks.{Walk}
use Rattle.logs.proofs.line.LineKind.walk_line.Given as goal

abbrev pub invariant-loop-place : goal.invariant-loop-place
invariant-loop-place g l = Walk l.text l.self.fields l.numbers l.place l.rest
