use Rattle.std.proofs.Common.{◌≡◌, ◌+◌, length, drop}
use Rattle.printing.specs.Printed.{closing_line, closed_listing}
use Rattle.printing.proofs.listing_len.Given as goal

abbrev pub invariant-loop-s : goal.invariant-loop-s
invariant-loop-s g l =
    l.left + length (closing_line l.fn.closing) + length (closed_listing (g.R.Ranking.score l.ranking) (closing_line l.fn.closing) l.list) ≡ l.room + length (closed_listing (g.R.Ranking.score l.ranking) (closing_line l.fn.closing) (drop l.s-index l.list))
