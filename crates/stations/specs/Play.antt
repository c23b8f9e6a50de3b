-- A region holds the measures between its low and its high, ends included. A station there is in play.
use Rattle.std.specs.Prelude.{Bool, ◌&&◌}
use Rattle.stations.specs.declared.measures.Measures.{Measures}
use Rattle.stations.specs.declared.region.Region.{Region}
use Rattle.stations.specs.declared.station.Station.{Station}
use Rattle.stations.specs.declared.question.Question.{Question}
use Rattle.stations.specs.Beating.{at_most}

abbrev pub inside : Region → Measures → Bool
inside b p = at_most b.low p && at_most p b.high

-- the station lies in the question's region
abbrev pub in_play : Question → Station → Bool
in_play q s = inside q.region s.at
