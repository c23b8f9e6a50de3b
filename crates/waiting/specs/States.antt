-- How far a search has come, by what waits and what is listed.
use Rattle.std.specs.Prelude.{◌≡◌, ℕ, suc, ◌+◌, ◌<◌, ◌≤◌, ◌⊎◌, List, length, Some, None, Ok, Err, Option, Result}
use Rattle.std.specs.List.{AllByRecursion as Each}
use Rattle.stations.specs.declared.station.Station.{Station}
use Rattle.stations.specs.declared.fault.Fault.{Fault}
use Rattle.stations.specs.declared.fault.Code.TheVariants.{DeadPage, WaitingFull}
use Rattle.stations.specs.Faults.{fault}
use Rattle.stations.specs.Counting.{count}
use Rattle.books.specs.Books.{Book, dead, slot, entries_on, IsLive}
use Rattle.heaps.specs.Heap.{Heaped}
use Rattle.promises.specs.Bounds.{Bound}
use Rattle.promises.specs.Queries.{Query}
use Rattle.promises.specs.Opening.{opened, listed}
use Rattle.promises.specs.Waiting.{passes, waiting}
use Rattle.promises.specs.Searching.{Limits, next, opened_after}
use Rattle.promises.specs.Stepping.{Clear}
use Rattle.promises.specs.Turning.{Same}
use Rattle.promises.specs.Histories as histories
use Rattle.promises.specs.Histories.{nexted, handing, phase_by}
use Rattle.waiting.specs.declared.waiting.Waiting.{Waiting}
use Rattle.waiting.specs.Orders.{by_key}
use Rattle.waiting.specs.Held.{Keyed, entries_of, Filled}

-- 1,024 entries may wait and 512 stations be listed
abbrev pub limits : Limits
limits = record { most_waiting = 1024; most_listed = 512 }

-- what `next` gives
abbrev pub Reply : Type 0
Reply = Result (Option Station) Fault

module _ (q : Query) (b : Book) where
  -- a page that is not filled in: too many were opened, or the source has no such page, or it is dead, or it leaves too many waiting
  pub data Refuses (pages p : ℕ) (ss : List Station) (xs : List Waiting) (n m : ℕ) (f : Fault) : Type 0 where
    many : 256 ≤ n → Refuses pages p ss xs n m f
    unnamed : pages ≤ p → Refuses pages p ss xs n m f
    dies : slot b p ≡ dead → m ≡ n + 1 → f ≡ fault DeadPage p 0 → Refuses pages p ss xs n m f
    crowds : IsLive (slot b p) → m ≡ n + 1 → f ≡ fault WaitingFull p 0 → limits.most_waiting < length xs + count (passes q ss) (entries_on (slot b p)) → Refuses pages p ss xs n m f

  -- what opening the page p comes to, with n pages opened before and m after
  abbrev pub Opens : ℕ → ℕ → List Station → List Waiting → List Waiting → ℕ → ℕ → Result (Unit {0}) Fault → Type 0
  Opens pages p ss xs ys n m (Ok u) = IsLive (slot b p) × (m ≡ n + 1) × Filled q ss (entries_on (slot b p)) xs ys
  Opens pages p ss xs ys n m (Err f) = Refuses pages p ss xs n m f

  -- the search has come as far as the bound, with this waiting, these stations listed and so many pages opened
  pub record At (u : Bound) (xs : List Waiting) (ss : List Station) (n : ℕ) : Type 0 where
    pub keys : Each (Keyed q) xs
    pub heap : Heaped by_key xs
    pub waits : Same (entries_of xs) (waiting q b u)
    pub listed : ss ≡ listed q b u
    pub reads : n ≡ length (opened q b u)
    pub clear : Clear q b limits u

  -- a search that goes on has opened no page yet, or stands at a bound
  abbrev pub Goes : List Waiting → List Station → ℕ → Type 0
  Goes xs ss n = ((n ≡ 0) × (length xs ≡ 0) × (length ss ≡ 0)) ⊎ ((u : Bound) × At u xs ss n)

  -- a reply, and what stands after it
  pub record Gave (ss : List Station) (r : Reply) (ys : List Waiting) (ss' : List Station) (m : ℕ) : Type 0 where
    pub gives : r ≡ next q b limits (length ss)
    pub reads : m ≡ length (opened_after q b limits (suc (length ss)))
    pub lists : ss' ≡ handing ss (nexted r)
    pub goes : phase_by r ≡ histories.searching → (u : Bound) × At u ys ss' m

  -- a turn goes on, or ends in a reply
  abbrev pub Turned : List Station → Option Reply → List Waiting → List Station → ℕ → Type 0
  Turned ss None ys ss' m = (ss' ≡ ss) × ((u : Bound) × At u ys ss' m)
  Turned ss (Some r) ys ss' m = Gave ss r ys ss' m

-- a turn that goes on leaves less to do
abbrev pub Falls : Option Reply → ℕ → ℕ → Type 0
Falls None m n = n < m
Falls (Some r) m n = Unit {0}
