-- Which pages a search opens.
use Rattle.std.specs.Prelude.{ℕ, Bool, ◌&&◌, List, ◌∷◌, map, filter}
use Rattle.stations.specs.declared.station.Station.{Station}
use Rattle.books.specs.declared.Child.{Child}
use Rattle.books.specs.Books.{Book, named}
use Rattle.promises.specs.Bounds.{Bound, within}
use Rattle.promises.specs.Queries.{Query, station_key, page_key, field, few, answer}

module _ (q : Query) where
  -- the page has a corner, and fewer than k of the stations are over it
  abbrev pub calls : List Station → Child → Bool
  calls xs c = q.cornered c.bounds && few q xs (q.corner c.bounds)

  -- the pages that are called for: those that the stations in play on live pages leave open
  abbrev pub called_for : Book → List Child
  called_for b = filter (calls (field q b)) (named b)

  -- the top, and the pages called for as far as the bound
  abbrev pub opened : Book → Bound → List ℕ
  opened b u = 0 ∷ map (λ c. c.page) (filter (λ c. within u (page_key q c)) (called_for b))

  -- those of the stations whose keys lie within the bound
  abbrev pub up_to_bound : Bound → List Station → List Station
  up_to_bound u xs = filter (λ s. within u (station_key q s)) xs

  -- the answer as far as the bound
  abbrev pub listed : Book → Bound → List Station
  listed b u = up_to_bound u (answer q b)
