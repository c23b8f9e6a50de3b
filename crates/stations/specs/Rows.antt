-- When a row of stations is refused: too many, then a number 0, then a number that repeats.
use Rattle.std.specs.Prelude.{ℕ, suc, Bool, List, [], ◌∷◌, ◌++◌, length, None, Option, ◌==◌, nat_lt}
use Rattle.std.specs.List.{list_any}
use Rattle.stations.specs.declared.fault.Fault.{Fault}
use Rattle.stations.specs.declared.fault.Code.TheVariants.{OutOfRange, TooManyStations, RepeatedNumber}
use Rattle.stations.specs.declared.station.Station.{Station}
use Rattle.stations.specs.Faults.{fault, placeless, refuse_if, or_else}

-- some station of the row has the number
abbrev pub holds_number : ℕ → List Station → Bool
holds_number n row = list_any (λ s. s.number == n) row

-- the first station, counted from i, whose number is 0
abbrev pub zero_fault : ℕ → List Station → Option Fault
zero_fault i [] = None
zero_fault i (s ∷ ss) = or_else (refuse_if (s.number == 0) (fault OutOfRange i 0)) (zero_fault (suc i) ss)

-- the first station, counted from i, that has the number of an earlier one
abbrev pub repeat_fault : List Station → ℕ → List Station → Option Fault
repeat_fault earlier i [] = None
repeat_fault earlier i (s ∷ ss) = or_else (refuse_if (holds_number s.number earlier) (fault RepeatedNumber i 0)) (repeat_fault (earlier ++ s ∷ []) (suc i) ss)

-- the most stations of a row
abbrev pub most_stations : ℕ
most_stations = 1152

abbrev pub row_fault : List Station → Option Fault
row_fault row = or_else (refuse_if (nat_lt most_stations (length row)) (placeless TooManyStations)) (or_else (zero_fault 0 row) (repeat_fault [] 0 row))
