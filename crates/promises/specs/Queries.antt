-- A question, as the theory of the search sees it, and the laws that the theory needs of it.
use Rattle.std.specs.Prelude.{◌≡◌, ℕ, ◌<◌, Bool, true, List, filter, nat_lt}
use Rattle.stations.specs.declared.measures.Measures.{Measures}
use Rattle.stations.specs.declared.station.Station as stated
use Rattle.stations.specs.declared.region.Region.{Region}
use Rattle.stations.specs.declared.key.Key.{Key}
use Rattle.stations.specs.declared.key.Kind.{Kind}
use Rattle.stations.specs.declared.key.Kind.TheVariants.{Page, Station}
use Rattle.stations.specs.Beating.{◌≼◌, sum}
use Rattle.stations.specs.Keys.{before}
use Rattle.stations.specs.Counting.{count, sort}
use Rattle.books.specs.declared.Child.{Child}
use Rattle.books.specs.Books.{Book, stations, Inside, Nested}

-- `over` is how a station counts against measures, for bands by beating them; the corner of a box counts only where it is `cornered`
pub record Query : Type 0 where
  pub over : Measures → Measures → Bool
  pub in_play : Measures → Bool
  pub cornered : Region → Bool
  pub corner : Region → Measures
  pub rank : Measures → ℕ
  pub k : ℕ

-- the key of what has these measures, this kind and this number
abbrev pub key_at : Query → Measures → Kind → ℕ → Key
key_at q p kind number = record { rank = q.rank p; sum = sum p; kind = kind; number = number }

-- a station's key is that of its measures
abbrev pub station_key : Query → stated.Station → Key
station_key q s = key_at q s.at Station s.number

-- a page's key is that of its corner
abbrev pub page_key : Query → Child → Key
page_key q c = key_at q (q.corner c.bounds) Page c.page

-- what the theory needs of a query, and nothing else
pub record Laws (q : Query) : Type 0 where
  -- what is over measures is over all that are nowhere smaller
  pub over_down : (s a b : Measures) → q.over s a ≡ true → a ≼ b → q.over s b ≡ true
  -- what is over measures has a key before theirs, whatever the kinds and numbers
  pub over_key : (s c : Measures) → q.over s c ≡ true → (i : Kind) (m : ℕ) (j : Kind) (n : ℕ) → before (key_at q s i m) (key_at q c j n) ≡ true
  -- what is over something is over all that that is over
  pub over_trans : (a b c : Measures) → q.over a b ≡ true → q.over b c ≡ true → q.over a c ≡ true
  -- a box with something in play has a corner, nowhere larger
  pub corner_below : (x : Measures) (b : Region) → Inside x b → q.in_play x ≡ true → (q.cornered b ≡ true) × (q.corner b ≼ x)
  -- a corner lies in its box and in play
  pub corner_inside : (b : Region) → q.cornered b ≡ true → Inside (q.corner b) b × (q.in_play (q.corner b) ≡ true)
  -- an outer box has a corner where an inner one has, nowhere larger
  pub corner_nested : (inner outer : Region) → Nested inner outer → q.cornered inner ≡ true → (q.cornered outer ≡ true) × (q.corner outer ≼ q.corner inner)
  -- a page comes before what stands below it
  pub page_first : (a b : Measures) → a ≼ b → (p n : ℕ) → before (key_at q a Page p) (key_at q b Station n) ≡ true
  -- a page comes before the pages that it names
  pub page_down : (a b : Measures) → a ≼ b → (m n : ℕ) → m < n → before (key_at q a Page m) (key_at q b Page n) ≡ true

module _ (q : Query) where
  -- the stations in play
  abbrev pub field : Book → List stated.Station
  field b = filter (λ s. q.in_play s.at) (stations b)

  -- the station is over the measures
  abbrev pub overs : Measures → stated.Station → Bool
  overs c s = q.over s.at c

  -- fewer than k of the stations are over the measures
  abbrev pub few : List stated.Station → Measures → Bool
  few xs c = nat_lt (count (overs c) xs) q.k

  -- those of the stations that fewer than k of them are over
  abbrev pub chosen : List stated.Station → List stated.Station
  chosen xs = filter (λ s. few xs s.at) xs

  -- in rising key order
  abbrev pub sorted : List stated.Station → List stated.Station
  sorted xs = sort (λ s t. before (station_key q s) (station_key q t)) xs

  -- the answer over the live pages of a book
  abbrev pub answer : Book → List stated.Station
  answer b = sorted (chosen (field b))
