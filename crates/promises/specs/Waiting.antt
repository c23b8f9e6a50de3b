-- Which entries wait, said from the book alone.
use Rattle.std.specs.Prelude.{ℕ, suc, Bool, not, ◌&&◌, ◌||◌, List, [], ◌∷◌, ◌++◌, map, filter, ◌==◌, nat_lt}
use Rattle.stations.specs.declared.measures.Measures.{Measures}
use Rattle.stations.specs.declared.station.Station as stated
use Rattle.stations.specs.declared.key.Key.{Key}
use Rattle.stations.specs.Counting.{count}
use Rattle.books.specs.declared.Entry.{Entry}
use Rattle.books.specs.declared.Entry.TheVariants.{Page, Station}
use Rattle.books.specs.Books.{Book, entries_on}
use Rattle.promises.specs.Bounds.{Bound, below, within}
use Rattle.promises.specs.Queries.{Query, station_key, page_key, few}
use Rattle.promises.specs.Opening.{called_for, listed}

module _ (q : Query) where
  -- the key by which an entry is taken
  abbrev pub key_of : Entry → Key
  key_of (Page c) = page_key q c
  key_of (Station s) = station_key q s

  -- the measures that stations are held against: a page's corner, or the station's own
  abbrev pub measures_of : Entry → Measures
  measures_of (Page c) = q.corner c.bounds
  measures_of (Station s) = s.at

  -- a page with a corner, or a station in play
  abbrev pub counts : Entry → Bool
  counts (Page c) = q.cornered c.bounds
  counts (Station s) = q.in_play s.at

  -- not set aside while these stations are listed: it counts, and fewer than k of them are over it
  abbrev pub passes : List stated.Station → Entry → Bool
  passes xs e = counts e && few q xs (measures_of e)

-- an entry with the page that it stands on
pub record Place : Type 0 where
  pub page : ℕ
  pub entry : Entry

-- every entry of the book, with the slots counted from n
abbrev pub places : ℕ → Book → List Place
places n [] = []
places n (s ∷ b) = map (λ e. record { page = n; entry = e }) (entries_on s) ++ places (suc n) b

-- some member passes the test
abbrev pub some : {A : Type 0} → (A → Bool) → List A → Bool
some p xs = nat_lt 0 (count p xs)

module _ (q : Query) (b : Book) where
  -- its page is opened as far as the bound, and it passed its first test: the one with the stations listed when that page was opened
  abbrev pub passed : Bound → Place → Bool
  passed u e =
      (e.page == 0 && passes q [] e.entry) || some (λ c. (c.page == e.page) && (within u (page_key q c) && passes q (listed q b (below (page_key q c))) e.entry)) (called_for q b)

  -- it has passed, and its key lies beyond the bound
  abbrev pub waits : Bound → Place → Bool
  waits u e = passed u e && not (within u (key_of q e.entry))

  -- the entries that wait once the search has come as far as the bound
  abbrev pub waiting : Bound → List Entry
  waiting u = map (λ e. e.entry) (filter (waits u) (places 0 b))
