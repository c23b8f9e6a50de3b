-- What the entries of a page keep where none is refused.
use Rattle.std.proofs.Common.{◌≡◌, ℕ, ◌+◌, ◌<◌, ◌≤◌, true, false, eqb, List, [], ◌∷◌, ◌++◌, map, length, Some, None, Option, arith}
use Rattle.std.specs.List.{AllByRecursion as Each}
use Rattle.std.proofs.lemmas.Grind.{common_steps}
use Rattle.std.proofs.lemmas.List.Folds.{list_any-append}
use Rattle.stations.specs.declared.measures.Measures.{Measures}
use Rattle.stations.specs.declared.station.Station.{Station}
use Rattle.stations.specs.Beating.{◌≼◌}
use Rattle.stations.specs.Counting.{bit, count}
use Rattle.books.specs.declared.Child.{Child}
use Rattle.books.specs.Books.{names, numbered}
use Rattle.stored.specs.declared.naming.Naming.{Naming}
use Rattle.stored.specs.Notes.{Notes, note_of, is_named, naming, note_one, note_all, occurs}
use Rattle.stored.specs.Checks.{is_within, child_fault, station_fault, children_fault, stations_fault}
use Rattle.stored.proofs.Counts.{both-pass}

-- what the low and the high of an entry keep by the box of its page
pub record Held (n : Naming) (low high : Measures) : Type 0 where
  pub above : n.bounds.low ≼ low
  pub below : high ≼ n.bounds.high

abbrev pub HeldBy : Option Naming → Measures → Measures → Type 0
HeldBy nm low high = (n : Naming) → nm ≡ Some n → Held n low high

held-from : (nm : Option Naming) (low high : Measures) → is_within nm low high ≡ true → HeldBy nm low high
held-from nm low high e = grind arith

-- a named page that is not refused
record ChildPasses (pages p : ℕ) (nm : Option Naming) (notes : Notes) (c : Child) : Type 0 where
  above : p < c.page
  below : c.page < pages
  fresh : is_named notes c.page ≡ false
  ordered : c.bounds.low ≼ c.bounds.high
  within : is_within nm c.bounds.low c.bounds.high ≡ true

child-passes : (pages p : ℕ) (nm : Option Naming) (notes : Notes) (i : ℕ) (c : Child) → child_fault pages p nm notes i c ≡ None → ChildPasses pages p nm notes c
child-passes pages p nm notes i c e = record { above = grind arith; below = grind arith; fresh = grind arith; ordered = grind arith; within = grind arith }

-- what is said of a page stays said
note-kept : (l : ℕ) (notes : Notes) (c : Child) → is_named notes c.page ≡ false → (q : ℕ) (n : Naming) → note_of notes q ≡ Some n → note_of (note_one l notes c) q ≡ Some n
note-kept l notes c fresh q n e = grind (arith, common_steps)

-- one more page is named
note-counts : (l : ℕ) (notes : Notes) (c : Child) → c.page < length notes → is_named notes c.page ≡ false → (q : ℕ) → bit (is_named (note_one l notes c) q) ≡ bit (is_named notes q) + bit (names q c)
note-counts l notes c h fresh q = grind (arith, common_steps)

-- named pages that are not refused
pub record ChildrenPass (pages p : ℕ) (nm : Option Naming) (l : ℕ) (notes : Notes) (cs : List Child) : Type 0 where
  pub after : Each (λ c. (p < c.page) × (c.page < pages)) cs
  pub ordered : Each (λ c. c.bounds.low ≼ c.bounds.high) cs
  pub held : Each (λ c. HeldBy nm c.bounds.low c.bounds.high) cs
  pub counted : (q : ℕ) → bit (is_named (note_all l notes cs) q) ≡ bit (is_named notes q) + count (names q) cs
  pub kept : (q : ℕ) (n : Naming) → note_of notes q ≡ Some n → note_of (note_all l notes cs) q ≡ Some n
  pub noted : Each (λ c. note_of (note_all l notes cs) c.page ≡ Some (naming l c)) cs
  pub long : length (note_all l notes cs) ≡ length notes

pub children-pass : (pages p : ℕ) (nm : Option Naming) (l : ℕ) (notes : Notes) (i : ℕ) (cs : List Child) → pages ≤ length notes → children_fault pages p nm l notes i cs ≡ None → ChildrenPass pages p nm l notes cs
children-pass pages p nm l notes i [] fit e = grind arith
children-pass pages p nm l notes i (c ∷ cs) fit e =
    let parts = both-pass _ _ e in
    let one = child-passes pages p nm notes i c parts.0 in
    let same : length (note_one l notes c) ≡ length notes = grind (arith, common_steps) in
    let rest = children-pass pages p nm l (note_one l notes c) (i + 1) cs (omega arith) parts.1 in
    let inside : c.page < length notes = omega arith in
    record {
      after = ((one.above, one.below), rest.after);
      ordered = (one.ordered, rest.ordered);
      held = (held-from nm _ _ one.within, rest.held);
      counted = λ q. omega (arith, rest.counted q, note-counts l notes c inside one.fresh q);
      kept = λ q n h. rest.kept q n (note-kept l notes c one.fresh q n h);
      noted = (rest.kept c.page (naming l c) (grind (arith, common_steps)), rest.noted);
      long = omega (arith, rest.long);
    }

-- one more number occurs
number_counts : (numbers : List ℕ) (m : ℕ) → occurs m numbers ≡ false → (n : ℕ) → bit (occurs n (numbers ++ m ∷ [])) ≡ bit (occurs n numbers) + bit (eqb m n)
number_counts numbers m fresh n = grind (arith, list_any-append)

-- a station that is not refused
record StationPasses (nm : Option Naming) (numbers : List ℕ) (s : Station) : Type 0 where
  positive : 1 ≤ s.number
  fresh : occurs s.number numbers ≡ false
  held : HeldBy nm s.at s.at

station-passes : (p : ℕ) (nm : Option Naming) (numbers : List ℕ) (i : ℕ) (s : Station) → station_fault p nm numbers i s ≡ None → StationPasses nm numbers s
station-passes p nm numbers i s e = grind arith

-- stations that are not refused
pub record StationsPass (nm : Option Naming) (numbers : List ℕ) (ss : List Station) : Type 0 where
  pub positive : Each (λ s. 1 ≤ s.number) ss
  pub held : Each (λ s. HeldBy nm s.at s.at) ss
  pub counted : (n : ℕ) → bit (occurs n (numbers ++ map (λ s. s.number) ss)) ≡ bit (occurs n numbers) + count (numbered n) ss

pub stations-pass : (p : ℕ) (nm : Option Naming) (numbers : List ℕ) (i : ℕ) (ss : List Station) → stations_fault p nm numbers i ss ≡ None → StationsPass nm numbers ss
stations-pass p nm numbers i [] e = grind (arith, common_steps)
stations-pass p nm numbers i (s ∷ ss) e =
    let parts = both-pass _ _ e in
    let one = station-passes p nm numbers i s parts.0 in
    let rest = stations-pass p nm (numbers ++ s.number ∷ []) (i + 1) ss parts.1 in
    record {
      positive = (one.positive, rest.positive);
      held = (one.held, rest.held);
      counted = λ n. grind (arith, common_steps, rest.counted n, number_counts numbers s.number one.fresh n);
    }
