-- A book is a list of slots, and a page's number is its place there.
use Rattle.std.specs.Prelude.{◌≡◌, ℕ, suc, ◌<◌, ◌≤◌, Bool, true, false, List, [], map, length, ◌==◌, ◌≢◌, slice_index_or}
use Rattle.std.specs.List.{flat_map, AllByRecursion as Each}
use Rattle.stations.specs.declared.measures.Measures.{Measures}
use Rattle.stations.specs.declared.station.Station.{Station}
use Rattle.stations.specs.declared.region.Region.{Region}
use Rattle.stations.specs.Beating.{Ordinary, ◌≼◌}
use Rattle.stations.specs.Counting.{count}
use Rattle.books.specs.declared.Child.{Child}
use Rattle.books.specs.declared.Entry.{Entry}
use Rattle.books.specs.declared.Entry.TheVariants as entry

-- a page that cannot be read, or that does not count, is dead; a leaf has level 0 and holds stations; a node names pages
-- of level l, and has the level above
pub data Slot : Type 0 where
  dead : Slot
  leaf : List Station → Slot
  node : ℕ → List Child → Slot

-- by page number
abbrev pub Book : Type 0
Book = List Slot

-- past the end every slot is dead
abbrev pub slot : Book → ℕ → Slot
slot b p = slice_index_or b p dead

-- a page's level
abbrev pub level : Slot → ℕ
level dead = 0
level (leaf ss) = 0
level (node l cs) = suc l

-- the stations that a page holds
abbrev pub stations_on : Slot → List Station
stations_on dead = []
stations_on (leaf ss) = ss
stations_on (node l cs) = []

-- the pages that a page names
abbrev pub children_on : Slot → List Child
children_on dead = []
children_on (leaf ss) = []
children_on (node l cs) = cs

-- what stands on a page, in order
abbrev pub entries_on : Slot → List Entry
entries_on dead = []
entries_on (leaf ss) = map entry.Station ss
entries_on (node l cs) = map entry.Page cs

-- how many entries stand on a page
abbrev pub size : Slot → ℕ
size dead = 0
size (leaf ss) = length ss
size (node l cs) = length cs

-- the stations of the live pages, by page and place
abbrev pub stations : Book → List Station
stations b = flat_map stations_on b

-- the pages that live pages name, by page and place
abbrev pub named : Book → List Child
named b = flat_map children_on b

-- the page can be read
abbrev pub IsLive : Slot → Type 0
IsLive dead = ⊥
IsLive (leaf ss) = Unit {0}
IsLive (node l cs) = Unit {0}

-- it cannot, as a test
abbrev pub is_dead : Slot → Bool
is_dead dead = true
is_dead (leaf ss) = false
is_dead (node l cs) = false

-- the measures lie in the box
pub record Inside (p : Measures) (box : Region) : Type 0 where
  pub above : box.low ≼ p
  pub below : p ≼ box.high

-- the inner box lies in the outer one
pub record Nested (inner outer : Region) : Type 0 where
  pub above : outer.low ≼ inner.low
  pub below : inner.high ≼ outer.high

-- what a page named on a page of level l with this box must be: one level lower, and inside the box. A dead page is nothing else
abbrev pub Fits : ℕ → Region → Slot → Type 0
Fits l box dead = Unit {0}
Fits l box (leaf ss) = (l ≡ 1) × Each (λ s. Inside s.at box) ss
Fits l box (node m cs) = (l ≡ suc (suc m)) × Each (λ c. Nested c.bounds box) cs

-- only the top may be without entries, and only as a leaf
abbrev pub Filled : ℕ → Slot → Type 0
Filled p dead = Unit {0}
Filled p (leaf ss) = length ss ≡ 0 → p ≡ 0
Filled p (node l cs) = 1 ≤ length cs

-- the page that the entry names is the page p
abbrev pub names : ℕ → Child → Bool
names p c = c.page == p

-- the station has the number n
abbrev pub numbered : ℕ → Station → Bool
numbered n s = s.number == n

-- what every book keeps
pub record Lawful (b : Book) : Type 0 where
  -- a level is from 0 to 7
  pub levels : (p : ℕ) → level (slot b p) ≤ 7
  -- a page has at most 12 entries
  pub sizes : (p : ℕ) → size (slot b p) ≤ 12
  -- only a top page of level 0 may have none
  pub filled : (p : ℕ) → Filled p (slot b p)
  -- a named page has a greater number than its namer, and lies in the book
  pub after : (p : ℕ) → Each (λ c. (p < c.page) × (c.page < length b)) (children_on (slot b p))
  -- where it is live, it is one level lower and inside the box that it is named with
  pub fits : (p : ℕ) → Each (λ c. Fits (level (slot b p)) c.bounds (slot b c.page)) (children_on (slot b p))
  -- every live page but the top is named by a live page
  pub reached : (p : ℕ) → IsLive (slot b p) → (p ≢ 0) → 1 ≤ count (names p) (named b)
  -- no page is named twice
  pub named_once : (p : ℕ) → count (names p) (named b) ≤ 1
  -- no low of a box is above its high
  pub ordered : Each (λ c. c.bounds.low ≼ c.bounds.high) (named b)
  -- no high of a box is above 65,535, and so no low
  pub boxes : Each (λ c. Ordinary c.bounds.high) (named b)
  -- no measure of a station is above 65,535
  pub measures : Each (λ s. Ordinary s.at) (stations b)
  -- station numbers are from 1
  pub numbers : Each (λ s. 1 ≤ s.number) (stations b)
  -- no two stations have one number
  pub numbered_once : (n : ℕ) → count (numbered n) (stations b) ≤ 1

-- the top is live, and so is every named page
pub record Whole (b : Book) : Type 0 where
  pub top : IsLive (slot b 0)
  pub rest : Each (λ c. IsLive (slot b c.page)) (named b)
