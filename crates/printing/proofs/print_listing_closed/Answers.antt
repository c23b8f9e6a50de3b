use Rattle.std.proofs.Common.{ap, ◌∙◌, arith}
use Rattle.printing.specs.Printed.{numbered, closing_line}
use Rattle.printing.proofs.Lines.{closing_room, rows_room, rows_more}
use Rattle.printing.proofs.print_listing_closed.Goals as goal

pub put_closing-requires : goal.put_closing-requires
put_closing-requires g c = let some = c.in-Some.ensures in omega (arith, some.0, closing_room (g.R.Ranking.score c.args.ranking.now) (closing_line c.args.closing) c.args.list.now)

pub put_line-requires : goal.put_line-requires
put_line-requires g c =
    let some = c.in-Some.ensures in
    let rank = g.R.Ranking.score c.args.ranking.now in
    rows_room rank (closing_line c.args.closing) c.loop-s.invariant.rows c.next.new.self.iter.rest.now c.in-Some-s.s.now c.in-Some-s.ensures.steps (numbered c.station_numbers.result) (ap numbered c.station_numbers.ensures) (omega (arith, some.0))

pub loop-s-preserved : goal.loop-s-preserved
loop-s-preserved g c =
    let rank = g.R.Ranking.score c.args.ranking.now in
    record {
      same = c.put_line.ensures.same ∙ c.loop-s.invariant.same;
      rows = rows_more rank (closing_line c.args.closing) c.loop-s.invariant.rows c.next.new.self.iter.rest.now c.in-Some-s.s.now c.in-Some-s.ensures.steps (numbered c.station_numbers.result) (ap numbered c.station_numbers.ensures) c.put_line.new.self.start c.put_line.new.self.out.now c.put_line.ensures.wrote;
    }
