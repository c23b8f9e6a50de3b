-- The worked cases, by evaluation.
use Rattle.std.proofs.Common.{refl}
use Rattle.std.specs.Fmt.{digits}
use Rattle.codes.specs.Codes.{spread}
use Rattle.logs.specs.Checks.{log_fault}
use Rattle.stored.specs.Loading.{load_fault, spelled_book}
use Rattle.writer.specs.Bytes.{book_bytes}
use Rattle.cases.specs.Cases.{WorkedCases}

pub worked_cases : WorkedCases
unfolding digits spread log_fault load_fault spelled_book book_bytes
worked_cases = record { books = refl; outcomes = refl; corner = refl; refusals = refl; code = refl; spread_byte = refl; printed = refl; answered = refl }
