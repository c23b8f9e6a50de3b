-- A book cut down to some of its pages is lawful where those hang together.
use Rattle.std.proofs.Common.{◌≡◌, ℕ, zero, suc, ◌<◌, ◌≤◌, Bool, true, false, cond, ◌||◌, eqb, ◌⊎◌, List, [], ◌∷◌, length, sym, refl, ap, ◌∙◌, subst, inl, inr, ⊎_elim, arith}
use Rattle.std.specs.List.{flat_map, AllByRecursion as Each}
use Rattle.std.proofs.ByRecursion.{All-weaker}
use Rattle.std.proofs.lemmas.Bool.{eq-eqb, eqb-true, both_ways, or_cases, or_left, or_right, cases_Bool}
use Rattle.stations.specs.Counting.{count}
use Rattle.books.specs.declared.Child.{Child}
use Rattle.books.specs.Lists.{◌∈◌, here, there}
use Rattle.books.specs.Books.{Book, Slot, dead, slot, level, size, children_on, stations_on, named, names, numbered, IsLive, Fits, Filled, Lawful}
use Rattle.promises.specs.Settling.{Rooted}
use Rattle.promises.proofs.Lists.{all-at, all_from, nothing_in, count_append, count_mem}
use Rattle.promises.proofs.Books.{of_joined, in_joined}

abbrev pub has : List ℕ → ℕ → Bool
has [] p = false
has (q ∷ qs) p = eqb q p || has qs p

pub has_in : (ps : List ℕ) (p : ℕ) → has ps p ≡ true → p ∈ ps
has_in [] p h = absurd (both_ways false refl h)
has_in (q ∷ ps) p h = go (or_cases (eqb q p) (has ps p) h) (has_in ps p)
  where
    go : (eqb q p ≡ true) ⊎ (has ps p ≡ true) → (has ps p ≡ true → p ∈ ps) → p ∈ (q ∷ ps)
    go (inl e) f = here (sym (eqb-true q p e))
    go (inr e) f = there (f e)

pub in_has : {p : ℕ} {ps : List ℕ} → p ∈ ps → has ps p ≡ true
in_has (here {x = q} e) = or_left _ _ (eq-eqb q _ (sym e))
in_has (there {x = q} m) = or_right (eqb q _) _ (in_has m)

pub holds_or_not : (p : ℕ) (ps : List ℕ) → (p ∈ ps) ⊎ (p ∈ ps → ⊥)
holds_or_not p ps = ⊎_elim (λ h. inl (has_in ps p h)) (λ h. inr (λ m. both_ways (has ps p) h (in_has m))) (cases_Bool (has ps p))

-- the slots at the places that pass the test, and dead ones at the others
abbrev pub keep : (ℕ → Bool) → Book → Book
keep t [] = []
keep t (s ∷ ss) = cond (t 0) s dead ∷ keep (λ n. t (suc n)) ss

abbrev pub cut : List ℕ → Book → Book
cut ps b = keep (has ps) b

pub slot-keep : (t : ℕ → Bool) (b : Book) (p : ℕ) → slot (keep t b) p ≡ cond (t p) (slot b p) dead
slot-keep t [] p = elim (t p) as (λ v. dead ≡ cond v dead dead) [ true ↦ refl | false ↦ refl ]
slot-keep t (s ∷ b) zero = refl
slot-keep t (s ∷ b) (suc p) = slot-keep (λ n. t (suc n)) b p

pub length-keep : (t : ℕ → Bool) (b : Book) → length (keep t b) ≡ length b
length-keep t [] = refl
length-keep t (s ∷ b) = ap suc (length-keep (λ n. t (suc n)) b)

-- what holds of a slot and of a dead one holds of the slot kept or not
pub kept : (P : Slot → Type 0) (t : ℕ → Bool) (b : Book) (p : ℕ) → P dead → (t p ≡ true → P (slot b p)) → P (slot (keep t b) p)
kept P t b p h k = subst P (sym (slot-keep t b p)) (elim (t p) as (λ v. (v ≡ true → P (slot b p)) → P (cond v (slot b p) dead)) [ true ↦ λ g. g refl | false ↦ λ g. h ] k)

-- nothing is counted in the kept slots that was not counted before
count-keep : {A : Type 0} (f : Slot → List A) → f dead ≡ [] → (u : A → Bool) (t : ℕ → Bool) (b : Book) → count u (flat_map f (keep t b)) ≤ count u (flat_map f b)
count-keep f none u t [] = omega arith
count-keep f none u t (s ∷ b) =
    let z : count u (f dead) ≡ 0 = ap (count u) none in
    let h : count u (f (cond (t 0) s dead)) ≤ count u (f s) = elim (t 0) as (λ v. count u (f (cond v s dead)) ≤ count u (f s)) [ true ↦ omega arith | false ↦ omega arith ] in
    omega (arith, count_append u (f s) (flat_map f b), count_append u (f (cond (t 0) s dead)) (flat_map f (keep (λ n. t (suc n)) b)), count-keep f none u (λ n. t (suc n)) b)

-- what stands on the kept slots stood on a slot that passes the test
pub of-keep : {A : Type 0} (f : Slot → List A) → f dead ≡ [] → (t : ℕ → Bool) (b : Book) {x : A} → x ∈ flat_map f (keep t b) → (p : ℕ) × (t p ≡ true) × (x ∈ f (slot b p))
of-keep f none t b {x} m =
    let r = of_joined f (keep t b) m in
    let k = kept (λ s. x ∈ f s → (t r.0 ≡ true) × (x ∈ f (slot b r.0))) t b r.0 (λ n. nothing_in (subst (λ l. x ∈ l) none n)) (λ e n. (e, n)) r.1 in
    (r.0, k.0, k.1)

all_keep : {A : Type 0} (f : Slot → List A) → f dead ≡ [] → (P : A → Type 0) (t : ℕ → Bool) (b : Book) → Each P (flat_map f b) → Each P (flat_map f (keep t b))
all_keep f none P t b h = all_from P _ (λ x m. let r = of-keep f none t b m in all-at P h (in_joined f none b r.0 r.2))

module _ (b : Book) (lawful : Lawful b) (ps : List ℕ) (rooted : Rooted b ps) where
  pub slot_in : {p : ℕ} → p ∈ ps → slot (cut ps b) p ≡ slot b p
  slot_in {p} m = slot-keep (has ps) b p ∙ ap (λ v. cond v (slot b p) dead) (in_has m)

  pub slot_out : {p : ℕ} → (p ∈ ps → ⊥) → slot (cut ps b) p ≡ dead
  slot_out {p} ne = kept (λ s. s ≡ dead) (has ps) b p refl (λ e. absurd (ne (has_in ps p e)))

  reach : (p : ℕ) → (p ≡ 0 → ⊥) → p ∈ ps → 1 ≤ count (names p) (named (cut ps b))
  reach p ne m = ⊎_elim (λ e. absurd (ne e)) (λ r. count_mem (names p) (in_joined children_on refl (cut ps b) r.0 (subst (λ s. r.1 ∈ children_on s) (sym (slot_in r.2)) r.3)) (eq-eqb _ _ r.4)) (all-at (λ p. (p ≡ 0) ⊎ ((n : ℕ) × (c : Child) × (n ∈ ps) × (c ∈ children_on (slot b n)) × (c.page ≡ p))) rooted.hangs m)

  pub cut-lawful : Lawful (cut ps b)
  cut-lawful = record {
    levels = λ p. kept (λ s. level s ≤ 7) (has ps) b p (omega arith) (λ _. lawful.levels p);
    sizes = λ p. kept (λ s. size s ≤ 12) (has ps) b p (omega arith) (λ _. lawful.sizes p);
    filled = λ p. kept (Filled p) (has ps) b p tt (λ _. lawful.filled p);
    after = λ p. subst (λ n. Each (λ c. (p < c.page) × (c.page < n)) (children_on (slot (cut ps b) p))) (sym (length-keep (has ps) b)) (kept (λ s. Each (λ c. (p < c.page) × (c.page < length b)) (children_on s)) (has ps) b p tt (λ _. lawful.after p));
    fits = λ p. kept (λ s. Each (λ c. Fits (level s) c.bounds (slot (cut ps b) c.page)) (children_on s)) (has ps) b p tt (λ _. All-weaker _ (λ c. Fits (level (slot b p)) c.bounds (slot (cut ps b) c.page)) (λ c f. kept (Fits (level (slot b p)) c.bounds) (has ps) b c.page tt (λ _. f)) _ (lawful.fits p));
    reached = λ p live ne. reach p ne (kept (λ s. IsLive s → p ∈ ps) (has ps) b p (λ l. absurd l) (λ e _. has_in ps p e) live);
    named_once = λ p. omega (arith, lawful.named_once p, count-keep children_on refl (names p) (has ps) b);
    ordered = all_keep children_on refl _ (has ps) b lawful.ordered;
    boxes = all_keep children_on refl _ (has ps) b lawful.boxes;
    measures = all_keep stations_on refl _ (has ps) b lawful.measures;
    numbers = all_keep stations_on refl _ (has ps) b lawful.numbers;
    numbered_once = λ n. omega (arith, lawful.numbered_once n, count-keep stations_on refl (numbered n) (has ps) b);
  }

  -- a named page of the cut book is named on the set, and one that is dead there is none of it
  pub of_cut : {c : Child} → c ∈ named (cut ps b) → (p : ℕ) × (p ∈ ps) × (c ∈ children_on (slot b p))
  of_cut m = let r = of-keep children_on refl (has ps) b m in (r.0, has_in ps r.0 r.1, r.2)

  pub dead_out : (p : ℕ) → slot (cut ps b) p ≡ dead → p ∈ ps → ⊥
  dead_out p e m = subst IsLive (sym (slot_in m) ∙ e) (all-at (λ p. IsLive (slot b p)) rooted.live m)
