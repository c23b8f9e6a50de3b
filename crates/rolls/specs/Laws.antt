-- What holds of every roll's book.
use Rattle.std.specs.Prelude.{◌≡◌, ℕ, ◌≤◌, List, length}
use Rattle.std.specs.List.{AllByRecursion as Each}
use Rattle.stations.specs.declared.station.Station.{Station}
use Rattle.stations.specs.declared.region.Region.{Region}
use Rattle.stations.specs.Beating.{Ordinary}
use Rattle.stations.specs.Counting.{count}
use Rattle.stations.specs.Rows.{most_stations}
use Rattle.books.specs.Books.{Slot, dead, leaf, node, Book, slot, stations, named, numbered, Inside, Nested, Lawful, Whole}
use Rattle.rolls.specs.Rolls.{roll_book}

-- what stands on the page lies in the box: each station of a leaf, and the box of each page that a node names
abbrev pub Held : Region → Slot → Type 0
Held box dead = Unit {0}
Held box (leaf ss) = Each (λ s. Inside s.at box) ss
Held box (node l cs) = Each (λ c. Nested c.bounds box) cs

-- the box holds what stands on the page, and every box that does so holds this one
pub record LeastOf (box : Region) (page : Slot) : Type 0 where
  pub holds : Held box page
  pub least : (other : Region) → Held other page → Nested box other

-- every named page is named with its least box
abbrev pub LeastBoxes : Book → Type 0
LeastBoxes b = Each (λ c. LeastOf c.bounds (slot b c.page)) (named b)

-- a row that may be read as a book
pub record Sound (row : List Station) : Type 0 where
  pub few : length row ≤ most_stations
  -- station numbers are from 1
  pub numbers : Each (λ s. 1 ≤ s.number) row
  -- no two stations have one number
  pub numbered_once : (n : ℕ) → count (numbered n) row ≤ 1
  -- no measure is above 65,535
  pub measures : Each (λ s. Ordinary s.at) row

-- what a row's book keeps
pub record RollLaws (row : List Station) : Type 0 where
  pub lawful : Lawful (roll_book row)
  pub whole : Whole (roll_book row)
  pub least : LeastBoxes (roll_book row)
  -- its stations are the row's, in row order
  pub same : stations (roll_book row) ≡ row

-- a sound row makes a lawful and whole book of least boxes, with the row's stations
abbrev pub RowsMakeBooks : Type 0
RowsMakeBooks = (row : List Station) → Sound row → RollLaws row

-- a row of n stations makes m pages
abbrev pub Makes : ℕ → ℕ → Type 0
Makes n m = (row : List Station) → length row ≡ n → length (roll_book row) ≡ m

-- where a page, and where a level, is added
abbrev pub RowsMakePages : Type 0
RowsMakePages = Makes 0 1 × Makes 1 1 × Makes 12 1 × Makes 13 3 × Makes 144 13 × Makes 145 16 × Makes 1152 105
