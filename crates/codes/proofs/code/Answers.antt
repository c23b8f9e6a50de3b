use Rattle.std.proofs.Common.{subst, rules}
use Rattle.codes.specs.Codes.{Interleaved, Alone}
use Rattle.codes.proofs.Laws.{code_interleaved, code_apart}
use Rattle.codes.proofs.code.Goals as goal

pub returns-clause-bits : goal.returns-clause-bits
returns-clause-bits c = subst (Interleaved c.args.at) (search rules) (code_interleaved c.args.at)

pub returns-clause-apart : goal.returns-clause-apart
returns-clause-apart c = subst (Alone c.args.at) (search rules) (code_apart c.args.at (search rules))
