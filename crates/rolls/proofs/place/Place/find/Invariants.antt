use Rattle.rolls.specs.Places.{Sought}
use Rattle.rolls.proofs.place.Place.find.Given as goal

-- the page is not on the levels that were passed
abbrev pub invariant-loop-level : goal.invariant-loop-level
invariant-loop-level l = Sought l.row l.page l.level l.first
