use Rattle.std.proofs.Common.{◌≤◌, subst, arith, rules}
use Rattle.rankings.specs.Scores.{ranker_score}
use Rattle.printing.specs.Printed.{listing, Printed}
use Rattle.scans.proofs.Listing.{answer-short}
use Rattle.reports.proofs.print_answer.Goals as goal

pub returns-in_err-n : goal.returns-in_err-n
returns-in_err-n c =
    absurd (omega (arith, answer-short (ranker_score c.args.log.now.ranking) c.args.log.now.question c.args.row.now, c.in_err-n.ensures.1, c.requires))

pub slice_bounds-print_listing-end : goal.slice_bounds-print_listing-end
slice_bounds-print_listing-end c =
    let m : c.in_ok-n.n ≤ 1152 = omega (arith, answer-short (ranker_score c.args.log.now.ranking) c.args.log.now.question c.args.row.now, c.in_ok-n.ensures.0, c.requires) in
    search rules

pub returns : goal.returns
returns c = subst (λ found. Printed (listing (ranker_score c.args.log.now.ranking) found) c.args.print.now c.print_listing.new.out c.print_listing.result) c.in_ok-n.ensures.1 c.print_listing.ensures
