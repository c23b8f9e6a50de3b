use Rattle.std.proofs.Common.{length, refl, ap}
use Rattle.promises.specs.Histories.{new}
use Rattle.search.proofs.run.Run.new.Goals as goal

pub returns-clause-produces : goal.returns-clause-produces
returns-clause-produces g c m = record { source_is = refl; ranking_is = refl; history = new; listed_is = c.new-2.ensures; state = (refl, refl, ap length c.new-2.ensures) }
