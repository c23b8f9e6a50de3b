use Rattle.std.proofs.Common.{drop, ap, ◌+◌, arith}
use Rattle.printing.specs.Printed.{numbered, closing_line}
use Rattle.printing.proofs.Lines.{closing_room, length-listing-at}
use Rattle.printing.proofs.listing_len.Goals as goal

pub returns-in_err-left : goal.returns-in_err-left
returns-in_err-left g c =
    let none = c.in_err-left.ensures in
    rw c.from_residual.ensures (omega (arith, none, closing_room (g.R.Ranking.score c.args.ranking.now) (closing_line c.args.closing) c.args.list.now, c.closing_len.ensures.value))

pub loop-s-init : goal.loop-s-init
loop-s-init g c = let some = c.in_ok-left.ensures in omega (arith, some.0, some.1, c.closing_len.ensures.value)

pub returns-in_err-left-2 : goal.returns-in_err-left-2
returns-in_err-left-2 g c =
    let none = c.in_err-left-2.ensures in
    let rank = g.R.Ranking.score c.args.ranking.now in
    let last = closing_line c.args.closing in
    let list = c.args.list.now in
    let line = numbered c.station_numbers.result in
    rw c.from_residual-in_err-left-2.ensures
    (omega (arith, none, c.line_len.ensures.value, c.loop-s.invariant, length-listing-at rank last list c.loop-s.s-index c.loop-s-test.true line (ap numbered c.station_numbers.ensures), closing_room rank last (drop (c.loop-s.s-index + 1) list)))
