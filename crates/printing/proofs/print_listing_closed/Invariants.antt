use Rattle.std.proofs.Common.{◌≡◌}
use Rattle.printing.specs.Printed.{closing_line}
use Rattle.printing.proofs.Lines.{Rows}
use Rattle.printing.proofs.print_listing_closed.Given as goal

abbrev pub invariant-loop-s : goal.invariant-loop-s
invariant-loop-s g l = record {
  same : l.printer.out.ghost_name ≡ l.initial.printer.out.ghost_name;
  rows : Rows (g.R.Ranking.score l.ranking) (closing_line l.fn.closing) l.len l.fn.out l.list l.s-iterator.iter.rest.now l.printer.start l.printer.out.now;
}
