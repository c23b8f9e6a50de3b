-- Whole books around some pages of a book.
use Rattle.std.specs.Prelude.{◌≡◌, ℕ, ◌⊎◌, List}
use Rattle.stations.specs.declared.measures.Measures.{Measures}
use Rattle.stations.specs.declared.station.Station.{Station}
use Rattle.books.specs.declared.Child.{Child}
use Rattle.books.specs.Lists.{◌∈◌}
use Rattle.books.specs.Books.{Book, slot, stations_on, children_on, stations, Lawful, Inside}
use Rattle.promises.specs.Settling.{Keeps, Rooted}

-- the station stands on one of these pages of b
abbrev pub StandsOn : Book → List ℕ → Station → Type 0
StandsOn b ps s = (p : ℕ) × (p ∈ ps) × (s ∈ stations_on (slot b p))

-- it lies in a box that one of these pages names, for a page that is none of them
abbrev pub LiesBelow : Book → List ℕ → Station → Type 0
LiesBelow b ps s = (p : ℕ) × (h : Child) × (p ∈ ps) × (h ∈ children_on (slot b p)) × (h.page ∈ ps → ⊥) × Inside s.at h.bounds

-- a whole book that has these pages, with its other stations in the boxes that they name and do not hold
pub record Fills (b : Book) (ps : List ℕ) (w : Book) : Type 0 where
  pub keeps : Keeps b ps w
  pub origin : (s : Station) → s ∈ stations w → StandsOn b ps s ⊎ LiesBelow b ps s

-- below a page that is named and not held a station can stand at any measures in the box, or that station in no way
abbrev pub Fillable : Type 0
Fillable = (b : Book) → Lawful b → (ps : List ℕ) → Rooted b ps → (p : ℕ) (g : Child) → p ∈ ps → g ∈ children_on (slot b p) → (g.page ∈ ps → ⊥) → (c : Measures) → Inside c g.bounds →
    (v : Book) × (w : Book) × (t : Station) × Fills b ps v × Fills b ps w × (t ∈ stations v) × (t.at ≡ c) × (t ∈ stations w → ⊥)
