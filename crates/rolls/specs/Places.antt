-- Where the pages of a roll stand.
use Rattle.std.specs.Prelude.{◌≡◌, ℕ, zero, suc, ◌+◌, ◌-◌, ◌<◌, ◌≤◌, List, length, slice_index_or}
use Rattle.stations.specs.declared.station.Station.{Station}
use Rattle.books.specs.Books.{dead, slot}
use Rattle.rolls.specs.declared.place.Place.{Place}
use Rattle.rolls.specs.Rolls.{pages_of, top_level, pages_to, page_count, page_at, pages_from, roll_book}

-- the page is the one of this level and index, where below is the number of the first page of the level below
pub record StandsAt (row : List Station) (page level index below : ℕ) : Type 0 where
  pub low : level ≤ top_level (length row)
  pub there : index < pages_of (length row) level
  pub next : below ≤ page_count (length row)
  pub holds : slot (roll_book row) page ≡ page_at row level below index

-- the page stands at the place
pub record Stands (row : List Station) (page : ℕ) (at : Place) : Type 0 where
  pub within : at.row.now ≡ row
  pub stands : StandsAt row page at.level at.index at.below

-- the page is among those of level l and below, of which the first has the number first
pub record Among (row : List Station) (page l first : ℕ) : Type 0 where
  pub low : l ≤ top_level (length row)
  pub from : first ≤ page
  pub left : first + pages_to (length row) l ≡ page_count (length row)
  pub holds : slot (roll_book row) page ≡ slice_index_or (pages_from row l first) (page - first) dead

-- the same where the lowest n levels are left; where none is, there is no such page
abbrev pub Sought : List Station → ℕ → ℕ → ℕ → Type 0
Sought row page zero first = page_count (length row) ≤ page
Sought row page (suc l) first = Among row page l first
