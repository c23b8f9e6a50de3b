use Rattle.std.proofs.Common.{◌≡◌, ◌+◌, ◌<◌, length, Some, sym, ap, ◌∙◌, subst, ℕ, arith}
use Rattle.std.proofs.lemmas.Result.{err_from_is_err_and}
use Rattle.std.proofs.lemmas.Bool.{eqb-true, eqb-false}
use Rattle.stations.specs.Rows.{most_stations}
use Rattle.stations.specs.Faults.{fault}
use Rattle.stations.specs.declared.fault.Code.TheVariants.{TooManyStations}
use Rattle.logs.specs.Fields.{station_line}
use Rattle.logs.specs.Walks.{Taken}
use Rattle.logs.proofs.Rows.{going_crowd, going_refused, going_more}
use Rattle.logs.proofs.Verdicts.{fine-numbers}
use Rattle.logs.proofs.log.read_stations.Goals as goal

pub returns-then-is_full : goal.returns-then-is_full
returns-then-is_full c =
    let full : length c.loop-rest.row.items ≡ most_stations = eqb-true _ _ (sym c.if-is_full.ensures.value) in
    going_crowd c.loop-rest.invariant (omega (arith, eqb-false _ _ (sym c.loop-rest-test.ensures))) full ∙ ap Some (ap (λ n. fault TooManyStations (n + 2) 0) (sym c.len.ensures.value) ∙ sym c.at.ensures)

pub returns-in_err-line : goal.returns-in_err-line
returns-in_err-line c =
    let p = err_from_is_err_and c.from_residual.result c.from_residual.ensures.1 in
    let room : length c.loop-rest.row.items < most_stations = omega (arith, eqb-false _ _ (sym c.if-is_full.ensures.value), c.loop-rest.invariant.few) in
    rw (p.1, p.2) (going_refused c.loop-rest.invariant room _ (omega (arith, eqb-false _ _ (sym c.loop-rest-test.ensures))) (rw (← c.len.ensures.value) c.in_err-line.ensures))

pub station_of-requires : goal.station_of-requires
station_of-requires c = let taken = c.in_ok-line.ensures in (fine-numbers (c.len.result + 2) station_line taken.bytes c.in_ok-line.line.value taken.accepted taken.says).1

pub loop-rest-preserved : goal.loop-rest-preserved
loop-rest-preserved c =
    let room : length c.loop-rest.row.items < most_stations = omega (arith, eqb-false _ _ (sym c.if-is_full.ensures.value), c.loop-rest.invariant.few) in
    let taken = subst (λ (n : ℕ). Taken (n + 2) station_line c.loop-rest.rest.now c.in_ok-line.line.value c.in_ok-line.line.rest.now) c.len.ensures.value c.in_ok-line.ensures in
    rw c.push.ensures.items (going_more c.loop-rest.invariant room c.station_of.result taken c.station_of.ensures)
