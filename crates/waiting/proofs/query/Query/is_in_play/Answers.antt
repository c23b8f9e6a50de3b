use Rattle.waiting.proofs.Tests.{both-parts, first-part, page-counts}
use Rattle.waiting.proofs.query.Query.is_in_play.Goals as goal

pub returns-then-at_most : goal.returns-then-at_most
returns-then-at_most g c rank =
    page-counts rank c.args.self.now.question c.args.entry _ c.in-Page.child (c.measures_of-corner.ensures rank) c.in-Page.is _ (both-parts _ _ _ _ c.if-at_most.true c.at_most.ensures c.at_most-then-at_most.ensures)

pub returns-else-at_most : goal.returns-else-at_most
returns-else-at_most g c rank =
    page-counts rank c.args.self.now.question c.args.entry _ c.in-Page.child (c.measures_of-corner.ensures rank) c.in-Page.is _ (first-part _ _ _ c.if-at_most.false c.at_most.ensures)
