-- The bytes that are printed, and what a lent buffer holds when they are written into it.
use Rattle.std.specs.Prelude.{◌≡◌, ℕ, ◌+◌, ◌<◌, List, [], ◌∷◌, ◌++◌, length, take, drop, Some, None, Ok, Err, codes, decimal, Option, Result}
use Rattle.stations.specs.declared.fault.Fault.{Fault}
use Rattle.stations.specs.declared.fault.Code.TheVariants.{ShortBuffer}
use Rattle.stations.specs.declared.measures.Measures.{Measures}
use Rattle.stations.specs.declared.station.Station.{Station}
use Rattle.stations.specs.Faults.{number_of, placeless}
use Rattle.printing.specs.declared.closing.Closing.{Closing}
use Rattle.printing.specs.declared.closing.Closing.TheVariants as closing
use Rattle.printing.specs.declared.closing.Closing.TheVariants.{Complete}
use Rattle.printing.specs.declared.report.Report.{Report}

-- what follows a number: a comma, or the line's end behind the last
abbrev pub ender : List ℕ → ℕ
ender [] = 10
ender (n ∷ ns) = 44

-- numbers in decimal, parted by commas, and a line end
abbrev pub numbered : List ℕ → List ℕ
numbered [] = []
numbered (n ∷ ns) = decimal n ++ ender ns ∷ numbered ns

-- what is printed of a station: number, M1 to M4, rank
abbrev pub station_numbers : ℕ → Station → List ℕ
station_numbers rank s = s.number ∷ s.at.m1 ∷ s.at.m2 ∷ s.at.m3 ∷ s.at.m4 ∷ rank ∷ []

-- what is printed of a refusal: its code and its two places
abbrev pub fault_numbers : Fault → List ℕ
fault_numbers f = number_of f.code ∷ f.first ∷ f.second ∷ []

-- the line of a refusal: its code and its two places
abbrev pub refusal : Fault → List ℕ
refusal f = codes "refused," ++ numbered (number_of f.code ∷ f.first ∷ f.second ∷ [])

-- the last line of a listing
abbrev pub closing_line : Closing → List ℕ
closing_line Complete = codes "done" ++ 10 ∷ []
closing_line (closing.Done pages) = codes "done," ++ numbered (pages ∷ [])
closing_line (closing.Refused f) = refusal f

-- a line for each station, and then the last line
abbrev pub closed_listing : (Measures → ℕ) → List ℕ → List Station → List ℕ
closed_listing rank last [] = last
closed_listing rank last (s ∷ ss) = numbered (station_numbers (rank s.at) s) ++ closed_listing rank last ss

-- a line for each station, and then `done`
abbrev pub listing : (Measures → ℕ) → List Station → List ℕ
listing rank ss = closed_listing rank (closing_line Complete) ss

-- bytes written in front of the first place: they begin at the second, and nothing else changed
pub record Wrote (end : ℕ) (was bytes : List ℕ) (start : ℕ) (is : List ℕ) : Type 0 where
  pub ends : start + length bytes ≡ end
  pub behind : drop start is ≡ bytes ++ drop end was
  pub before : take start is ≡ take start was

-- the first bytes of the buffer are these and the others are as they were; or the buffer was too short, and is as it was
abbrev pub Printed : List ℕ → List ℕ → List ℕ → Result ℕ Fault → Type 0
Printed bytes was is (Ok n) = (n ≡ length bytes) × (take n is ≡ bytes) × (drop n is ≡ drop n was)
Printed bytes was is (Err f) = (f ≡ placeless ShortBuffer) × (length was < length bytes) × (is ≡ was)

-- the bytes are printed, and the report says whether what they list is complete or why it ends; or the buffer was too short
abbrev pub Prints : Option Fault → List ℕ → List ℕ → List ℕ → Result Report Fault → Type 0
Prints why bytes was is (Ok r) = (why ≡ r.refusal) × Printed bytes was is (Ok r.len)
Prints why bytes was is (Err f) = Printed bytes was is (Err f)

-- a refusal is printed alone; else the lines are
abbrev pub refused_or : Option Fault → List ℕ → List ℕ
refused_or (Some f) lines = refusal f
refused_or None lines = lines
