use Rattle.std.proofs.Common.{refl, ◌-◌}
use Rattle.rolls.proofs.Seeking.{among, below_that, found}
use Rattle.rolls.proofs.place.Place.find.Goals as goal

pub returns-then-page-below : goal.returns-then-page-below
returns-then-page-below c =
    let s = among c.args.row.now c.args.page c.loop-level.level c.loop-level.first c.loop-level-test.true c.loop-level.invariant in
    record { within = refl; stands = rw c.pages_of.ensures (found c.args.row.now c.args.page (c.loop-level.level - 1) c.loop-level.first s (rw c.pages_of.ensures at c.if-page-below.true)) }

pub loop-level-preserved : goal.loop-level-preserved
loop-level-preserved c =
    let s = among c.args.row.now c.args.page c.loop-level.level c.loop-level.first c.loop-level-test.true c.loop-level.invariant in
    rw c.pages_of.ensures (below_that c.args.row.now c.args.page (c.loop-level.level - 1) c.loop-level.first s (rw c.pages_of.ensures at c.if-page-below.false))
