-- A page in 256 bytes, numbers high byte first.
use Rattle.std.specs.Prelude.{ℕ, zero, suc, ◌+◌, ◌*◌, ◌%◌, Bool, cond, ◌&&◌, List, map, take, drop, ◌==◌, slice_index}
use Rattle.std.specs.List.{range_with_len}
use Rattle.stations.specs.declared.measures.Measures.{Measures}
use Rattle.stations.specs.declared.station.Station.{Station}
use Rattle.books.specs.declared.Child.{Child}
use Rattle.books.specs.Books.{Slot, dead, leaf, node}

-- the byte at a place: below 256, whatever number a list may hold there
abbrev pub byte_at : List ℕ → ℕ → ℕ
byte_at bytes i = slice_index bytes i % 256

-- the number in two bytes
abbrev pub short_at : List ℕ → ℕ → ℕ
short_at bytes i = byte_at bytes i * 256 + byte_at bytes (i + 1)

-- the number in four bytes
abbrev pub long_at : List ℕ → ℕ → ℕ
long_at bytes i = short_at bytes i * 65536 + short_at bytes (i + 2)

-- M1 to M4, two bytes each
abbrev pub measures_at : List ℕ → ℕ → Measures
measures_at bytes i = record { m1 = short_at bytes i; m2 = short_at bytes (i + 2); m3 = short_at bytes (i + 4); m4 = short_at bytes (i + 6) }

-- a station in 12 bytes: its number, and its measures
abbrev pub station_at : List ℕ → ℕ → Station
station_at bytes i = record { number = long_at bytes i; at = measures_at bytes (i + 4) }

-- a named page in 18 bytes: its number, the lows of its box, and the highs
abbrev pub child_at : List ℕ → ℕ → Child
child_at bytes i = record { page = short_at bytes i; bounds = record { low = measures_at bytes (i + 2); high = measures_at bytes (i + 10) } }

-- the first byte: the level, or 255 on a dead page
abbrev pub level_byte : List ℕ → ℕ
level_byte page = byte_at page 0

-- the second byte: how many entries there are
abbrev pub count_byte : List ℕ → ℕ
count_byte page = byte_at page 1

-- the mark of a dead page
abbrev pub is_marked_dead : List ℕ → Bool
is_marked_dead page = level_byte page == 255

-- bytes 2 to 7 are 0
abbrev pub is_padded : List ℕ → Bool
is_padded page = byte_at page 2 == 0 && byte_at page 3 == 0 && byte_at page 4 == 0 && byte_at page 5 == 0 && byte_at page 6 == 0 && byte_at page 7 == 0

-- the bytes of each entry of a page, n for an entry, from byte 8
abbrev pub entry_bytes : ℕ → List ℕ → List (List ℕ)
entry_bytes n page = map (λ i. take n (drop (n * i) (drop 8 page))) (range_with_len 0 (count_byte page))

-- the stations in these bytes
abbrev pub stations_of : List (List ℕ) → List Station
stations_of chunks = map (λ bytes. station_at bytes 0) chunks

-- the named pages in these bytes
abbrev pub children_of : List (List ℕ) → List Child
children_of chunks = map (λ bytes. child_at bytes 0) chunks

-- the stations of a page of level 0, from byte 8
abbrev pub stations_in : List ℕ → List Station
stations_in page = map (λ i. station_at page (8 + 12 * i)) (range_with_len 0 (count_byte page))

-- the named pages of a higher page, from byte 8
abbrev pub children_in : List ℕ → List Child
children_in page = map (λ i. child_at page (8 + 18 * i)) (range_with_len 0 (count_byte page))

-- the live page of this level that the bytes spell
abbrev pub live_slot : ℕ → List ℕ → Slot
live_slot zero page = leaf (stations_in page)
live_slot (suc l) page = node l (children_in page)

-- the page that the bytes spell where they have no mark of a dead page
abbrev pub live : List ℕ → Slot
live page = live_slot (level_byte page) page

-- the page that the bytes spell
abbrev pub spelled_slot : List ℕ → Slot
spelled_slot page = cond (is_marked_dead page) dead (live page)
