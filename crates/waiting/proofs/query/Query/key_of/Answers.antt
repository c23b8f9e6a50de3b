use Rattle.waiting.specs.Asking.{bands_of}
use Rattle.waiting.proofs.Tests.{key-page, key-station}
use Rattle.waiting.proofs.query.Query.key_of.Goals as goal

pub returns-in-Page : goal.returns-in-Page
returns-in-Page g c = let score = g.R.Ranking.score in key-page (bands_of score c.args.self.now) c.args.entry _ _ (c.measures_of-at.ensures (score c.args.self.now.ranking)) c.in-Page.child c.in-Page.is c.key_at.ensures

pub returns-in-Station : goal.returns-in-Station
returns-in-Station g c = let score = g.R.Ranking.score in key-station (bands_of score c.args.self.now) c.args.entry _ _ (c.measures_of-at.ensures (score c.args.self.now.ranking)) c.in-Station.station c.in-Station.is c.key_at-in-Station.ensures
