-- The worked cases, by evaluation.
use Rattle.std.proofs.Common.{refl}
use Rattle.promises.specs.Cases.{WorkedCases}

pub worked_cases : WorkedCases
worked_cases = record { books = refl; outcomes = refl; corner = refl; eight = refl; nine = refl; fourteen = refl }
