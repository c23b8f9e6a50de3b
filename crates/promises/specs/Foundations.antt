-- What the promises rest on, for every query that keeps the laws and every lawful book.
use Rattle.std.specs.Prelude.{◌≡◌, ℕ, ◌≤◌, true, false, ◌⊎◌, List}
use Rattle.std.specs.List.{AllByRecursion as Each}
use Rattle.stations.specs.declared.measures.Measures.{Measures}
use Rattle.stations.specs.declared.station.Station.{Station}
use Rattle.stations.specs.declared.key.Kind.{Kind}
use Rattle.stations.specs.Counting.{count}
use Rattle.books.specs.declared.Child.{Child}
use Rattle.books.specs.Lists.{◌∈◌}
use Rattle.books.specs.Books.{Book, slot, stations_on, children_on, Lawful}
use Rattle.promises.specs.Bounds.{Bound, below, within}
use Rattle.promises.specs.Queries.{Query, Laws, key_at, station_key, page_key, field, overs, few, answer}
use Rattle.promises.specs.Opening.{called_for, opened, listed}

-- the two books have the same slots at these places
abbrev pub Agree : List ℕ → Book → Book → Type 0
Agree ps b b' = Each (λ p. slot b p ≡ slot b' p) ps

-- where k of the stations in play are over measures, k of the answer are
abbrev pub Counting : Type 0
Counting = (q : Query) → Laws q → (b : Book) (c : Measures) → q.k ≤ count (overs q c) (field q b) → q.k ≤ count (overs q c) (answer q b)

-- among the answer's stations with earlier keys there are as few over measures as among all in play
abbrev pub Listed : Type 0
Listed = (q : Query) → Laws q → (b : Book) (c : Measures) (kind : Kind) (number : ℕ) → few q (listed q b (below (key_at q c kind number))) c ≡ few q (field q b) c

-- what names a page called for is opened before it
abbrev pub Upward : Type 0
Upward = (q : Query) → Laws q → (b : Book) → Lawful b → (p : ℕ) (d : Child) → d ∈ children_on (slot b p) → d ∈ called_for q b → p ∈ opened q b (below (page_key q d))

-- a station of the answer stands on a page that is opened before it
abbrev pub Standing : Type 0
Standing = (q : Query) → Laws q → (b : Book) → Lawful b → (s : Station) → s ∈ answer q b → (p : ℕ) × (s ∈ stations_on (slot b p)) × (p ∈ opened q b (below (station_key q s)))

-- what is opened as far as one bound is opened as far as another, or that one names a page called for that lies between
abbrev pub Onward : Type 0
Onward = (q : Query) → Laws q → (b : Book) → Lawful b → (u v : Bound) → Each (λ p. (p ∈ opened q b u) ⊎ ((n : ℕ) × (e : Child) × (n ∈ opened q b u) × (e ∈ children_on (slot b n)) × (e ∈ called_for q b) × (within u (page_key q e) ≡ false) × (within v (page_key q e) ≡ true))) (opened q b v)

-- lawful books that agree on what the search opens in one of them as far as a bound have the same answer as far as that bound
abbrev pub SameAnswers : Type 0
SameAnswers = (q : Query) → Laws q → (u : Bound) (b b' : Book) → Lawful b → Lawful b' → Agree (opened q b u) b b' → listed q b u ≡ listed q b' u
