-- The answer to a question over a row of stations: the k-skyband inside the region, in key order.
use Rattle.std.specs.Prelude.{ℕ, Bool, List, filter, nat_lt}
use Rattle.stations.specs.declared.measures.Measures.{Measures}
use Rattle.stations.specs.declared.station.Station.{Station}
use Rattle.stations.specs.declared.question.Question.{Question}
use Rattle.stations.specs.Beating.{beats}
use Rattle.stations.specs.Play.{in_play}
use Rattle.stations.specs.Keys.{before, station_key}
use Rattle.stations.specs.Counting.{count, sort}

-- the stations of the row that are in play
abbrev pub field : Question → List Station → List Station
field q row = filter (in_play q) row

-- fewer than k of these stations beat the measures
abbrev pub few : ℕ → List Station → Measures → Bool
few k ss p = nat_lt (count (λ s. beats s.at p) ss) k

-- the stations in play that fewer than k stations in play beat, in row order
abbrev pub band : Question → List Station → List Station
band q row = filter (λ s. few q.k (field q row) s.at) (field q row)

-- one station's key comes before another's, under a ranking
abbrev pub earlier : (Measures → ℕ) → Station → Station → Bool
earlier rank s t = before (station_key (rank s.at) s) (station_key (rank t.at) t)

-- the band in rising key order
abbrev pub answer : (Measures → ℕ) → Question → List Station → List Station
answer rank q row = sort (earlier rank) (band q row)
