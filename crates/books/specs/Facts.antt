-- That a book is lawful is a fact: there is one proof of it at most. So a struct can carry it behind `∥◌∥₁`, and it comes out again.
use mathlib.Core.HLevel.{Unit-prop, Π_prop, ×_prop}
use Rattle.std.proofs.Math.Logic.{∥∥₁_elim}
use Rattle.std.specs.Prelude.{ℕ, List, [], ◌∷◌}
use Rattle.std.proofs.Math.Bridge.{le_prop}
use Rattle.std.proofs.Math.Nat.{ℕ_set}
use Rattle.std.specs.List.{AllByRecursion as Each}
use Rattle.stations.specs.declared.measures.Measures.{Measures}
use Rattle.stations.specs.declared.region.Region.{Region}
use Rattle.stations.specs.Beating.{Ordinary, ◌≼◌}
use Rattle.books.specs.Books.{Slot, dead, leaf, node, Book, slot, Inside, Nested, Fits, Filled, Lawful}

all_prop : {A : Type 0} (P : A → Type 0) → ((a : A) → IsProp (P a)) → (xs : List A) → IsProp (Each P xs)
all_prop P h [] = Unit-prop
all_prop P h (x ∷ xs) = ×_prop (h x) (all_prop P h xs)

at_most_prop : (p q : Measures) → IsProp (p ≼ q)
at_most_prop p q h k = λ i. record { in1 = le_prop h.in1 k.in1 i; in2 = le_prop h.in2 k.in2 i; in3 = le_prop h.in3 k.in3 i; in4 = le_prop h.in4 k.in4 i }

ordinary_prop : (p : Measures) → IsProp (Ordinary p)
ordinary_prop p h k = λ i. record { in1 = le_prop h.in1 k.in1 i; in2 = le_prop h.in2 k.in2 i; in3 = le_prop h.in3 k.in3 i; in4 = le_prop h.in4 k.in4 i }

inside_prop : (p : Measures) (box : Region) → IsProp (Inside p box)
inside_prop p box h k = λ i. record { above = at_most_prop box.low p h.above k.above i; below = at_most_prop p box.high h.below k.below i }

nested_prop : (a b : Region) → IsProp (Nested a b)
nested_prop a b h k = λ i. record { above = at_most_prop b.low a.low h.above k.above i; below = at_most_prop a.high b.high h.below k.below i }

fits_prop : (l : ℕ) (box : Region) (s : Slot) → IsProp (Fits l box s)
fits_prop l box dead = Unit-prop
fits_prop l box (leaf ss) = ×_prop (ℕ_set _ _) (all_prop _ (λ s. inside_prop s.at box) ss)
fits_prop l box (node m cs) = ×_prop (ℕ_set _ _) (all_prop _ (λ c. nested_prop c.bounds box) cs)

filled_prop : (p : ℕ) (s : Slot) → IsProp (Filled p s)
filled_prop p dead = Unit-prop
filled_prop p (leaf ss) = Π_prop (λ _. ℕ_set _ _)
filled_prop p (node l cs) = le_prop

lawful_prop : (b : Book) → IsProp (Lawful b)
lawful_prop b h k = λ i. record {
  levels = λ p. le_prop (h.levels p) (k.levels p) i;
  sizes = λ p. le_prop (h.sizes p) (k.sizes p) i;
  filled = λ p. filled_prop p (slot b p) (h.filled p) (k.filled p) i;
  after = λ p. all_prop _ (λ c. ×_prop le_prop le_prop) _ (h.after p) (k.after p) i;
  fits = λ p. all_prop _ (λ c. fits_prop _ c.bounds (slot b c.page)) _ (h.fits p) (k.fits p) i;
  reached = λ p live other. le_prop (h.reached p live other) (k.reached p live other) i;
  named_once = λ p. le_prop (h.named_once p) (k.named_once p) i;
  ordered = all_prop _ (λ c. at_most_prop c.bounds.low c.bounds.high) _ h.ordered k.ordered i;
  boxes = all_prop _ (λ c. ordinary_prop c.bounds.high) _ h.boxes k.boxes i;
  measures = all_prop _ (λ s. ordinary_prop s.at) _ h.measures k.measures i;
  numbers = all_prop _ (λ s. le_prop) _ h.numbers k.numbers i;
  numbered_once = λ n. le_prop (h.numbered_once n) (k.numbered_once n) i;
}

pub lawful_out : (b : Book) → ∥ Lawful b ∥₁ → Lawful b
lawful_out b h = ∥∥₁_elim h (lawful_prop b) (λ k. k)
