use Rattle.std.proofs.Common.{◌≡◌, length, sym, ap, ◌∙◌, Some, arith}
use Rattle.std.proofs.lemmas.Result.{err_from_is_err_and}
use Rattle.stations.specs.declared.fault.Code.TheVariants.{OutOfRange}
use Rattle.logs.specs.Pieces.{fields_of}
use Rattle.logs.specs.Fields.{admits}
use Rattle.logs.specs.Checks.{field_fault}
use Rattle.logs.proofs.Heads.{first_found}
use Rattle.logs.proofs.Verdicts.{verdict-err, refused_count, refused_spelling, refused_range}
use Rattle.logs.proofs.line.LineKind.read_line.Goals as goal

pub returns-then-line : goal.returns-then-line
returns-then-line g c =
    let bytes = c.in-Some.line.bytes.now in
    let kinds = c.args.self.now.fields in
    first_found c.args.number kinds c.in-Some.ensures.0 ∙ refused_count c.args.number kinds bytes (λ e. absurd (omega (arith, c.in-Some.ensures.1, c.if-line.true))) ∙ ap Some (sym c.at-then-line.ensures)

pub returns-in_err-numbers : goal.returns-in_err-numbers
returns-in_err-numbers g c =
    let p = err_from_is_err_and c.from_residual.result c.from_residual.ensures.1 in
    let bytes = c.in-Some.line.bytes.now in
    let kinds = c.args.self.now.fields in
    let count : length (fields_of bytes) ≡ length kinds = omega (arith, c.in-Some.ensures.1) in
    rw (p.1, p.2) (first_found c.args.number kinds c.in-Some.ensures.0 ∙ refused_spelling c.args.number kinds bytes _ count c.in_err-numbers.ensures)

pub returns-in_err-check_ranges : goal.returns-in_err-check_ranges
returns-in_err-check_ranges g c =
    let p = err_from_is_err_and c.from_residual-in_err-check_ranges.result c.from_residual-in_err-check_ranges.ensures.1 in
    let bytes = c.in-Some.line.bytes.now in
    let kinds = c.args.self.now.fields in
    let count : length (fields_of bytes) ≡ length kinds = omega (arith, c.in-Some.ensures.1) in
    let read = c.in_ok-numbers.ensures in
    rw (p.1, p.2) (first_found c.args.number kinds c.in-Some.ensures.0
    ∙ refused_range c.args.number kinds bytes _ count read.0 (ap (field_fault admits OutOfRange c.args.number 1 kinds) (sym read.1) ∙ verdict-err _ _ c.in_err-check_ranges.ensures))
