-- One call of `next` as one step along the row.
use Rattle.std.specs.Prelude.{◌≡◌, ℕ, suc, ◌≤◌, true, length, Some, None, Ok, Err}
use Rattle.stations.specs.declared.station.Station as stated
use Rattle.stations.specs.declared.fault.Fault.{Fault}
use Rattle.books.specs.declared.Entry.{Entry}
use Rattle.books.specs.Lists.{◌∈◌}
use Rattle.books.specs.Books.{Book, Lawful}
use Rattle.promises.specs.Bounds.{Bound, all, below, up_to, within}
use Rattle.promises.specs.Queries.{Query, Laws, station_key, answer}
use Rattle.promises.specs.Opening.{opened, listed}
use Rattle.promises.specs.Waiting.{key_of}
use Rattle.promises.specs.Searching.{Limits, top_key, row, open_fault, halt_at, next, opened_after}

-- nothing halts the search as far as the bound
pub record Clear (q : Query) (b : Book) (limits : Limits) (u : Bound) : Type 0 where
  pub top : open_fault q b limits 0 (below top_key) ≡ None
  pub rest : (e : Entry) → e ∈ row q b → within u (key_of q e) ≡ true → halt_at q b limits e ≡ None

-- what is given and what was opened after n calls before it, for each place along the row that a search can have come to
pub record Steps (q : Query) (b : Book) (limits : Limits) : Type 0 where
  -- a station of the answer that the search comes to is handed out
  pub hands : (s : stated.Station) → s ∈ answer q b → Clear q b limits (up_to (station_key q s)) → (n : ℕ) → length (listed q b (below (station_key q s))) ≡ n →
      (next q b limits n ≡ Ok (Some s)) × (opened_after q b limits (suc n) ≡ opened q b (below (station_key q s)))
  -- the first entry that halts the search is the end, for this call and every later one
  pub halts : (e : Entry) (f : Fault) → e ∈ row q b → Clear q b limits (below (key_of q e)) → halt_at q b limits e ≡ Some f → (n : ℕ) → length (listed q b (below (key_of q e))) ≤ n →
      (next q b limits n ≡ Err f) × (opened_after q b limits (suc n) ≡ opened q b (up_to (key_of q e)))
  -- so is a top that halts it
  pub top_halts : (f : Fault) → open_fault q b limits 0 (below top_key) ≡ Some f → (n : ℕ) →
      (next q b limits n ≡ Err f) × (opened_after q b limits (suc n) ≡ opened q b (up_to top_key))
  -- and where nothing halts it, the search is done after the answer
  pub ends : Clear q b limits all → (n : ℕ) → length (answer q b) ≤ n →
      (next q b limits n ≡ Ok None) × (opened_after q b limits (suc n) ≡ opened q b all)

abbrev pub Stepping : Type 0
Stepping = (q : Query) → Laws q → (b : Book) → Lawful b → (limits : Limits) → Steps q b limits
