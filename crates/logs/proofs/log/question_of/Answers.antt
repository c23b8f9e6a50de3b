use Rattle.std.proofs.Common.{refl, arith}
use Rattle.logs.specs.Fields.{question_line}
use Rattle.logs.proofs.Ranges.{ordinary-at}
use Rattle.logs.proofs.log.question_of.Goals as goal

pub measures_at-requires-2-clause-ordinary : goal.measures_at-requires-2-clause-ordinary
measures_at-requires-2-clause-ordinary c = ordinary-at question_line c.args.numbers.now 6 c.requires c.told-numbers (omega arith) refl refl refl refl
