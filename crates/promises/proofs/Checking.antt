-- The test of a book is sound.
use Rattle.std.proofs.Common.{◌≡◌, ℕ, zero, suc, ◌+◌, ◌<◌, ◌≤◌, Bool, true, ◌||◌, eqb, leb, List, [], ◌∷◌, length, sym, refl, subst, ⊎_elim, add-zero, zero-add, arith}
use Rattle.std.specs.List.{AllByRecursion as Each}
use Rattle.std.proofs.lemmas.Bool.{ltb-true, leb-true, eqb-true, and_parts, or_cases, cases_lt}
use Rattle.stations.specs.declared.measures.Measures.{Measures}
use Rattle.stations.specs.declared.region.Region.{Region}
use Rattle.stations.specs.Beating.{Ordinary, ◌≼◌, at_most}
use Rattle.stations.specs.Counting.{count}
use Rattle.books.specs.Books.{Book, Slot, dead, leaf, node, slot, level, size, children_on, stations, named, names, IsLive, Inside, Nested, Fits, Filled, Lawful}
use Rattle.promises.specs.Checking.{worst, every, once, every_slot, fits, filled, reached, slot_rules, entry_rules, lawful, Checked}
use Rattle.promises.proofs.Lists.{all-at, count-some}
use Rattle.promises.proofs.Bands.{at_most_le}

ordinary : (p : Measures) → at_most p worst ≡ true → Ordinary p
ordinary p h = let l = at_most_le p worst h in omega arith

from-every : {A : Type 0} (t : A → Bool) (P : A → Type 0) → ((x : A) → t x ≡ true → P x) → (xs : List A) → every t xs ≡ true → Each P xs
from-every t P h [] e = tt
from-every t P h (x ∷ xs) e = let r = and_parts (t x) (every t xs) e in (h x r.0, from-every t P h xs r.1)

from_slots : (t : ℕ → Slot → Bool) → ((p : ℕ) → t p dead ≡ true) → (b : Book) (i : ℕ) → every_slot t i b ≡ true → (p : ℕ) → t (i + p) (slot b p) ≡ true
from_slots t d [] i e p = d (i + p)
from_slots t d (s ∷ b) i e zero = subst (λ n. t n s ≡ true) (sym (add-zero i)) (and_parts (t i s) (every_slot t (suc i) b) e).0
from_slots t d (s ∷ b) i e (suc p) = let j : suc i + p ≡ i + suc p = omega arith in subst (λ n. t n (slot b p) ≡ true) j (from_slots t d b (suc i) (and_parts (t i s) (every_slot t (suc i) b) e).1 p)

fits-sound : (l : ℕ) (box : Region) (s : Slot) → fits l box s ≡ true → Fits l box s
fits-sound l box dead e = tt
fits-sound l box (leaf ss) e =
    let r = and_parts _ _ e in
    (eqb-true _ _ r.0, from-every _ (λ s. Inside s.at box) (λ s k. let i = and_parts _ _ k in record { above = at_most_le _ _ i.0; below = at_most_le _ _ i.1 }) ss r.1)
fits-sound l box (node m cs) e =
    let r = and_parts _ _ e in
    (eqb-true _ _ r.0, from-every _ (λ c. Nested c.bounds box) (λ c k. let i = and_parts _ _ k in record { above = at_most_le _ _ i.0; below = at_most_le _ _ i.1 }) cs r.1)

filled-sound : (p : ℕ) (s : Slot) → filled p s ≡ true → Filled p s
filled-sound p dead e = tt
filled-sound p (leaf ss) e = λ z. ⊎_elim (λ (k : leb 1 (length ss) ≡ true). absurd (omega (arith, leb-true _ _ k))) (λ (k : eqb p 0 ≡ true). eqb-true _ _ k) (or_cases (leb 1 (length ss)) (eqb p 0) e)
filled-sound p (node l cs) e = leb-true _ _ e

top_or : (b : Book) (p : ℕ) → (eqb p 0 || leb 1 (count (names p) (named b))) ≡ true → (p ≡ 0 → ⊥) → 1 ≤ count (names p) (named b)
top_or b p e n = ⊎_elim (λ (k : eqb p 0 ≡ true). absurd (n (eqb-true _ _ k))) (λ (k : leb 1 (count (names p) (named b)) ≡ true). leb-true _ _ k) (or_cases _ _ e)

reached-sound : (b : Book) (p : ℕ) (s : Slot) → reached b p s ≡ true → IsLive s → (p ≡ 0 → ⊥) → 1 ≤ count (names p) (named b)
reached-sound b p dead e l n = absurd l
reached-sound b p (leaf ss) e l n = top_or b p e n
reached-sound b p (node m cs) e l n = top_or b p e n

once-sound : {A : Type 0} (f : A → ℕ) (xs : List A) → once f xs ≡ true → (n : ℕ) → count (λ y. eqb (f y) n) xs ≤ 1
once-sound f xs e n = ⊎_elim
    (λ (k : count (λ y. eqb (f y) n) xs < 1). omega arith)
    (λ (k : 1 ≤ count (λ y. eqb (f y) n) xs).
    let r = count-some (λ y. eqb (f y) n) xs k in
    subst (λ m. count (λ y. eqb (f y) m) xs ≤ 1) (eqb-true (f r.0) n r.2) (all-at (λ x. count (λ y. eqb (f y) (f x)) xs ≤ 1) (from-every _ _ (λ x i. leb-true _ _ i) xs e) r.1))
    (cases_lt _ 1)

-- what the rules say of a slot
record SlotOk (b : Book) (p : ℕ) (s : Slot) : Type 0 where
  levels : level s ≤ 7
  sizes : size s ≤ 12
  filled : Filled p s
  after : Each (λ c. (p < c.page) × (c.page < length b)) (children_on s)
  fits : Each (λ c. Fits (level s) c.bounds (slot b c.page)) (children_on s)
  reached : IsLive s → (p ≡ 0 → ⊥) → 1 ≤ count (names p) (named b)

slot-sound : (b : Book) (p : ℕ) (s : Slot) → slot_rules b p s ≡ true → SlotOk b p s
slot-sound b p s e =
    let l = and_parts _ _ e in
    let m = and_parts _ _ l.1 in
    let n = and_parts _ _ m.1 in
    let o = and_parts _ _ n.1 in
    let q = and_parts _ _ o.1 in
    record {
      levels = leb-true _ _ l.0;
      sizes = leb-true _ _ m.0;
      filled = filled-sound p s n.0;
      after = from-every _ (λ c. (p < c.page) × (c.page < length b)) (λ c k. let i = and_parts _ _ k in (ltb-true _ _ i.0, ltb-true _ _ i.1)) (children_on s) o.0;
      fits = from-every _ (λ c. Fits (level s) c.bounds (slot b c.page)) (λ c k. fits-sound (level s) c.bounds (slot b c.page) k) (children_on s) q.0;
      reached = reached-sound b p s q.1;
    }

module _ (b : Book) (pass : lawful b ≡ true) where
  at : (p : ℕ) → SlotOk b p (slot b p)
  at p = slot-sound b p (slot b p) (subst (λ n. slot_rules b n (slot b p) ≡ true) (zero-add p) (from_slots (slot_rules b) (λ p. refl) b 0 (and_parts _ (entry_rules b) pass).0 p))

  entries : entry_rules b ≡ true
  entries = (and_parts (every_slot (slot_rules b) 0 b) _ pass).1

  pub passed : Lawful b
  passed =
      let e = and_parts _ _ entries in
      let f = and_parts _ _ e.1 in
      let g = and_parts _ _ f.1 in
      record {
        levels = λ p. (at p).levels;
        sizes = λ p. (at p).sizes;
        filled = λ p. (at p).filled;
        after = λ p. (at p).after;
        fits = λ p. (at p).fits;
        reached = λ p. (at p).reached;
        named_once = once-sound (λ c. c.page) (named b) e.0;
        ordered = from-every _ (λ c. c.bounds.low ≼ c.bounds.high) (λ c k. at_most_le _ _ (and_parts _ _ k).0) (named b) f.0;
        boxes = from-every _ (λ c. Ordinary c.bounds.high) (λ c k. ordinary c.bounds.high (and_parts _ _ k).1) (named b) f.0;
        measures = from-every _ (λ s. Ordinary s.at) (λ s k. ordinary s.at (and_parts _ _ k).0) (stations b) g.0;
        numbers = from-every _ (λ s. 1 ≤ s.number) (λ s k. leb-true _ _ (and_parts _ _ k).1) (stations b) g.0;
        numbered_once = once-sound (λ s. s.number) (stations b) g.1;
      }

pub checked : Checked
checked b h = passed b h
