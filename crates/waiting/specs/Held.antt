-- What the waiting and the listed hold, and what putting and taking do.
use Rattle.std.specs.Prelude.{◌≡◌, ℕ, ◌+◌, ◌<◌, ◌≤◌, false, List, [], ◌∷◌, ◌++◌, map, length, take, Some, None, Ok, Err, filter, Option, Result}
use Rattle.std.specs.List.Sorted.{IsPermutation}
use Rattle.std.specs.List.{AllByRecursion as Each}
use Rattle.stations.specs.declared.station.Station.{Station}
use Rattle.stations.specs.Keys.{before}
use Rattle.stations.specs.Counting.{count}
use Rattle.books.specs.declared.Entry.{Entry}
use Rattle.heaps.specs.Heap.{Heaped}
use Rattle.promises.specs.Queries.{Query}
use Rattle.promises.specs.Waiting.{key_of, passes}
use Rattle.promises.specs.Turning.{Same}
use Rattle.waiting.specs.declared.waiting.Full.{Full}
use Rattle.waiting.specs.declared.waiting.Waiting.{Waiting}
use Rattle.waiting.specs.declared.waiting.Queue.{Queue}
use Rattle.waiting.specs.declared.listed.Listed.{Listed}
use Rattle.waiting.specs.Orders.{by_key}

-- the entries that wait, as the heap has them
abbrev pub held : Queue → List Waiting
held w = take w.used w.items

-- the stations listed
abbrev pub listing : Listed → List Station
listing l = take l.len l.stations

-- one more is listed where there is room
abbrev pub Lists : ℕ → List Station → Station → Result (Unit {0}) Full → List Station → Type 0
Lists limit xs s (Ok u) ys = (length xs < limit) × (ys ≡ xs ++ s ∷ [])
Lists limit xs s (Err full) ys = (limit ≤ length xs) × (ys ≡ xs)

-- an entry with its key
abbrev pub waiting_of : Query → Entry → Waiting
waiting_of q e = record { key = key_of q e; entry = e }

-- its key is the one that the question gives it
abbrev pub Keyed : Query → Waiting → Type 0
Keyed q w = w.key ≡ key_of q w.entry

-- the entries without their keys
abbrev pub entries_of : List Waiting → List Entry
entries_of xs = map (λ w. w.entry) xs

-- one more waits, and a heap stays one
pub record Put (xs : List Waiting) (w : Waiting) (ys : List Waiting) : Type 0 where
  pub holds : IsPermutation (w ∷ xs) ys
  pub heap : Heaped by_key xs → Heaped by_key ys

-- so it is where there is room
abbrev pub Puts : ℕ → List Waiting → Waiting → Result (Unit {0}) Full → List Waiting → Type 0
Puts limit xs w (Ok u) ys = Put xs w ys
Puts limit xs w (Err full) ys = (length xs ≡ limit) × (ys ≡ xs)

-- one waits no more; of a heap it is the least, and a heap is left
pub record Taken (xs : List Waiting) (w : Waiting) (ys : List Waiting) : Type 0 where
  pub holds : IsPermutation xs (w ∷ ys)
  pub heap : Heaped by_key xs → Heaped by_key ys
  pub least : Heaped by_key xs → Each (λ v. before v.key w.key ≡ false) ys

-- so it is where some wait
abbrev pub Takes : List Waiting → Option Waiting → List Waiting → Type 0
Takes xs (Some w) ys = Taken xs w ys
Takes xs None ys = (length xs ≡ 0) × (ys ≡ xs)

-- those of the entries that pass wait too
pub record Filled (q : Query) (ss : List Station) (es : List Entry) (xs ys : List Waiting) : Type 0 where
  pub same : Same (entries_of ys) (filter (passes q ss) es ++ entries_of xs)
  pub keys : Each (Keyed q) xs → Each (Keyed q) ys
  pub heap : Heaped by_key xs → Heaped by_key ys

-- so it is where there is room for them
abbrev pub Fills : ℕ → Query → List Station → List Entry → List Waiting → Result (Unit {0}) Full → List Waiting → Type 0
Fills limit q ss es xs (Ok u) ys = Filled q ss es xs ys
Fills limit q ss es xs (Err full) ys = limit < length xs + count (passes q ss) es
