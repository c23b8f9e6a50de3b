-- A book in bytes: pages of 256 bytes one after the other, numbers high byte first.
use Rattle.std.specs.Prelude.{ℕ, ◌-◌, ◌/◌, ◌%◌, List, [], ◌∷◌, ◌++◌, length, replicate}
use Rattle.std.specs.List.{flat_map}
use Rattle.stations.specs.declared.measures.Measures.{Measures}
use Rattle.stations.specs.declared.station.Station.{Station}
use Rattle.books.specs.declared.Child.{Child}
use Rattle.books.specs.declared.Entry.{Entry}
use Rattle.books.specs.declared.Entry.TheVariants as entries
use Rattle.books.specs.Books.{Slot, Book, level, entries_on}

-- a number in two bytes
abbrev pub short_bytes : ℕ → List ℕ
short_bytes n = n / 256 % 256 ∷ n % 256 ∷ []

-- a number in four bytes
abbrev pub long_bytes : ℕ → List ℕ
long_bytes n = short_bytes (n / 65536) ++ short_bytes n

-- M1 to M4
abbrev pub measures_bytes : Measures → List ℕ
measures_bytes p = short_bytes p.m1 ++ short_bytes p.m2 ++ short_bytes p.m3 ++ short_bytes p.m4

-- a station in 12 bytes: its number, and its measures
abbrev pub station_bytes : Station → List ℕ
station_bytes s = long_bytes s.number ++ measures_bytes s.at

-- a named page in 18 bytes: its number, the lows of its box, and the highs
abbrev pub child_bytes : Child → List ℕ
child_bytes c = short_bytes c.page ++ measures_bytes c.bounds.low ++ measures_bytes c.bounds.high

-- an entry: a named page or a station
abbrev pub entry_bytes : Entry → List ℕ
entry_bytes (entries.Page c) = child_bytes c
entry_bytes (entries.Station s) = station_bytes s

-- zeros after the bytes, up to a whole page
abbrev pub filled : List ℕ → List ℕ
filled bytes = bytes ++ replicate (256 - length bytes) 0

-- the page of level l with these entries: the level, how many entries there are, six zeros, the entries, and zeros
abbrev pub page_with : ℕ → List Entry → List ℕ
page_with l es = filled (l ∷ length es ∷ 0 ∷ 0 ∷ 0 ∷ 0 ∷ 0 ∷ 0 ∷ flat_map entry_bytes es)

-- a page of a book: its level and its entries
abbrev pub slot_bytes : Slot → List ℕ
slot_bytes s = page_with (level s) (entries_on s)

-- the pages, one after the other
unfoldable pub book_bytes : Book → List ℕ
book_bytes b = flat_map slot_bytes b
