-- The least box around stations.
use Rattle.std.specs.Prelude.{min, max, List, [], ◌∷◌}
use Rattle.std.specs.List.{fold}
use Rattle.stations.specs.declared.measures.Measures.{Measures}
use Rattle.stations.specs.declared.station.Station.{Station}
use Rattle.stations.specs.declared.region.Region.{Region}
use Rattle.stations.specs.Beating.{both}

-- the box that holds only these measures
abbrev pub point : Measures → Region
point p = record { low = p; high = p }

-- the box, just as much wider as it must be to hold the measures
abbrev pub widen : Region → Measures → Region
widen box p = record { low = both min box.low p; high = both max box.high p }

-- the same for one station after the other
abbrev pub widen_all : Region → List Station → Region
widen_all = fold (λ box s. widen box s.at)

-- the least box around stations: for each measure the least and the greatest. Around no stations there is none, and this is the box at the corner
abbrev pub around : List Station → Region
around [] = point (record { m1 = 0; m2 = 0; m3 = 0; m4 = 0 })
around (s ∷ ss) = widen_all (point s.at) ss
