-- Refusals: each code has its number, and a check either refuses or does not.
use Rattle.std.specs.Prelude.{ℕ, Bool, true, false, List, ◌∷◌, ◌++◌, Some, None, Ok, Err, Option, Result, decimal}
use Rattle.stations.specs.declared.fault.Fault.{Fault}
use Rattle.stations.specs.declared.fault.Code.{Code}
use Rattle.stations.specs.declared.fault.Code.TheVariants.{TextTooLong, BadField, OutOfRange, TooManyStations, RepeatedNumber, ShortBuffer, BookLength, PageHeader, PageLevel, NamedPage, BoxOrder, StationNumber, OutsideBox, BandCount, RegionOrder, NoSearch, PageNumber, DeadPage, WaitingFull, ListFull}

-- the number by which a code is known
abbrev pub number_of : Code → ℕ
number_of TextTooLong = 1
number_of BadField = 2
number_of OutOfRange = 3
number_of TooManyStations = 4
number_of RepeatedNumber = 5
number_of ShortBuffer = 6
number_of BookLength = 7
number_of PageHeader = 8
number_of PageLevel = 9
number_of NamedPage = 10
number_of BoxOrder = 11
number_of StationNumber = 12
number_of OutsideBox = 13
number_of BandCount = 14
number_of RegionOrder = 15
number_of NoSearch = 16
number_of PageNumber = 17
number_of DeadPage = 18
number_of WaitingFull = 19
number_of ListFull = 20

-- a fault with both of its places
abbrev pub fault : Code → ℕ → ℕ → Fault
fault c i j = record { code = c; first = i; second = j }

-- a code that says no place has 0 for both
abbrev pub placeless : Code → Fault
placeless c = fault c 0 0

-- refuses where the test holds
abbrev pub refuse_if : Bool → Fault → Option Fault
refuse_if true f = Some f
refuse_if false f = None

-- the first refusal of two checks, made one after the other
abbrev pub or_else : Option Fault → Option Fault → Option Fault
or_else (Some f) later = Some f
or_else None later = later

-- what a call answers that only checks
abbrev pub verdict : Option Fault → Result (Unit {0}) Fault
verdict (Some f) = Err f
verdict None = Ok tt

-- a refusal as it is written: the number of its code and the two places, with a comma between two
abbrev pub fault_text : Fault → List ℕ
fault_text f = decimal (number_of f.code) ++ 44 ∷ decimal f.first ++ 44 ∷ decimal f.second
