-- One turn of a search that takes the least of what waits: what that entry tells of the book.
use Rattle.std.specs.Prelude.{◌≡◌, suc, Bool, true, false, List, [], ◌∷◌, ◌++◌, length, filter}
use Rattle.std.specs.List.{AllByRecursion as Each}
use Rattle.stations.specs.declared.station.Station as stated
use Rattle.stations.specs.Keys.{before}
use Rattle.stations.specs.Counting.{count}
use Rattle.books.specs.declared.Child.{Child}
use Rattle.books.specs.declared.Entry.{Entry}
use Rattle.books.specs.declared.Entry.TheVariants.{Page, Station}
use Rattle.books.specs.Lists.{◌∈◌}
use Rattle.books.specs.Books.{Book, slot, entries_on, Lawful}
use Rattle.promises.specs.Bounds.{Bound, below, up_to, within}
use Rattle.promises.specs.Queries.{Query, Laws}
use Rattle.promises.specs.Opening.{opened, listed}
use Rattle.promises.specs.Waiting.{key_of, passes, waiting}
use Rattle.promises.specs.Searching.{top_key, row}

-- the same members, each as often
abbrev pub Same : {A : Type 0} → List A → List A → Type 0
Same {A} xs ys = (t : A → Bool) → count t xs ≡ count t ys

-- an entry with the least key, and the others
pub record Least (q : Query) (xs : List Entry) (e : Entry) (rest : List Entry) : Type 0 where
  pub same : Same xs (e ∷ rest)
  pub least : Each (λ f. before (key_of q f) (key_of q e) ≡ false) rest

-- the search has come as far as u, and takes the entry e; the rest wait
pub record Turns (q : Query) (b : Book) (u : Bound) (e : Entry) (rest : List Entry) : Type 0 where
  -- nothing on the row lies between
  pub nearest : (f : Entry) → f ∈ row q b → within u (key_of q f) ≡ before (key_of q f) (key_of q e)
  -- the test with the stations listed by now says whether the entry is on the row
  pub wanted : passes q (listed q b u) e ≡ true → e ∈ row q b
  pub unwanted : passes q (listed q b u) e ≡ false → e ∈ row q b → ⊥
  -- a station of the answer is the next to be listed; else the list stays
  pub lists : (s : stated.Station) → e ≡ Station s → e ∈ row q b → listed q b (up_to (key_of q e)) ≡ listed q b u ++ s ∷ []
  pub listed_same : ((s : stated.Station) → e ≡ Station s → e ∈ row q b → ⊥) → listed q b (up_to (key_of q e)) ≡ listed q b u
  -- a page called for is one page more, and those of its entries come that pass; else what is opened stays, and the entry only leaves
  pub opens : (c : Child) → e ≡ Page c → e ∈ row q b → length (opened q b (up_to (key_of q e))) ≡ suc (length (opened q b u))
  pub comes : (c : Child) → e ≡ Page c → e ∈ row q b → Same (waiting q b (up_to (key_of q e))) (filter (passes q (listed q b u)) (entries_on (slot b c.page)) ++ rest)
  pub opened_same : ((c : Child) → e ≡ Page c → e ∈ row q b → ⊥) → opened q b (up_to (key_of q e)) ≡ opened q b u
  pub leaves : ((c : Child) → e ≡ Page c → e ∈ row q b → ⊥) → Same (waiting q b (up_to (key_of q e))) rest

-- what waits once the top is opened, at each turn, and at the end
pub record Turned (q : Query) (b : Book) : Type 0 where
  pub top : Same (waiting q b (below top_key)) (filter (passes q []) (entries_on (slot b 0)))
  pub turns : (u : Bound) (e : Entry) (rest : List Entry) → Least q (waiting q b u) e rest → Turns q b u e rest
  pub ends : (u : Bound) → length (waiting q b u) ≡ 0 → (f : Entry) → f ∈ row q b → within u (key_of q f) ≡ true

abbrev pub Turning : Type 0
Turning = (q : Query) → Laws q → (b : Book) → Lawful b → Turned q b
