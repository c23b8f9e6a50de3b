use Rattle.std.proofs.Common.{take, sym, ◌∙◌}
use Rattle.stations.specs.Rows.{holds_number}
use Rattle.stations.proofs.Covers.{covers_more}
use Rattle.stations.proofs.Rows.{repeat_passed, holds-step}
use Rattle.stations.proofs.row.check_repeats.Goals as goal

pub loop-i-preserved : goal.loop-i-preserved
loop-i-preserved c =
    let row = c.args.row.now in
    let i = c.loop-i.i in (
      sym (repeat_passed row i c.loop-i-test.true (sym c.if-is_among.ensures)) ∙ c.loop-i.invariant.0,
      covers_more c.loop-i.marks c.mark.new.self _ c.mark.ensures.lows c.mark.ensures.highs (λ n. holds_number n (take i row)) _ (holds-step row i c.loop-i-test.true) c.loop-i.invariant.1,
    )
