use Rattle.std.proofs.Common.{rules}
use Rattle.panel.proofs.Counting.{counted}
use Rattle.panel.proofs.count_stations.Goals as goal

pub returns : goal.returns
returns c = let a = c.in_ok-read.ensures in (a.accepted, counted a a.fits (search rules))
