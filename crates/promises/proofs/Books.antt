-- What stands in a book stands on one of its slots, and what the laws of a book say of it.
use Rattle.std.proofs.Common.{◌≡◌, ℕ, zero, suc, ◌<◌, ◌≤◌, true, false, eqb, ◌⊎◌, List, [], ◌∷◌, ◌++◌, length, sym, refl, ap, subst, inl, inr, ⊎_elim, arith}
use Rattle.std.specs.List.{flat_map}
use Rattle.std.proofs.lemmas.Bool.{cases_Bool, cases_eq, both_ways, eq-eqb, eqb-true}
use Rattle.stations.specs.declared.station.Station.{Station}
use Rattle.stations.specs.declared.region.Region.{Region}
use Rattle.stations.specs.Counting.{bit, count}
use Rattle.books.specs.declared.Child.{Child}
use Rattle.books.specs.Lists.{Pairwise, ◌∈◌, here, there}
use Rattle.books.specs.Books.{Slot, dead, leaf, node, Book, slot, level, stations_on, children_on, stations, named, names, IsLive, is_dead, Inside, Nested, Fits, Lawful}
use Rattle.promises.proofs.Lists.{all-at, all_from, count_mem, count-some}

module _ {A : Type 0} where
  pub in_left : {x : A} {xs : List A} (ys : List A) → x ∈ xs → x ∈ (xs ++ ys)
  in_left ys (here e) = here e
  in_left ys (there m) = there (in_left ys m)

  pub in_right : (xs : List A) {x : A} {ys : List A} → x ∈ ys → x ∈ (xs ++ ys)
  in_right [] m = m
  in_right (y ∷ xs) m = there (in_right xs m)

  pub of_append : (xs : List A) {x : A} {ys : List A} → x ∈ (xs ++ ys) → (x ∈ xs) ⊎ (x ∈ ys)
  of_append [] m = inr m
  of_append (y ∷ xs) (here e) = inl (here e)
  of_append (y ∷ xs) {x} {ys} (there m) = go (of_append xs m)
    where
      go : (x ∈ xs) ⊎ (x ∈ ys) → (x ∈ (y ∷ xs)) ⊎ (x ∈ ys)
      go (inl n) = inl (there n)
      go (inr n) = inr n

  pub of_joined : (f : Slot → List A) (b : Book) {x : A} → x ∈ flat_map f b → (p : ℕ) × (x ∈ f (slot b p))
  of_joined f [] m = elim m [ ]
  of_joined f (s ∷ b) {x} m = go (of_append (f s) m) (λ n. of_joined f b n)
    where
      go : (x ∈ f s) ⊎ (x ∈ flat_map f b) → (x ∈ flat_map f b → (p : ℕ) × (x ∈ f (slot b p))) → (p : ℕ) × (x ∈ f (slot (s ∷ b) p))
      go (inl n) g = (0, n)
      go (inr n) g = (suc (g n).0, (g n).1)

  pub in_joined : (f : Slot → List A) → f dead ≡ [] → (b : Book) (p : ℕ) {x : A} → x ∈ f (slot b p) → x ∈ flat_map f b
  in_joined f e [] p m = rw e at m
  in_joined f e (s ∷ b) zero m = in_left (flat_map f b) m
  in_joined f e (s ∷ b) (suc p) m = in_right (f s) (in_joined f e b p m)

-- the top, or named with a box of which P holds
abbrev pub Boxed : Book → ℕ → (Child → Type 0) → Type 0
Boxed b p P = (p ≡ 0) ⊎ ((c : Child) × (c ∈ named b) × (c.page ≡ p) × P c)

-- what the theory needs of a book
pub record Shape (b : Book) : Type 0 where
  pub station_in : (p : ℕ) (s : Station) → s ∈ stations_on (slot b p) → Boxed b p (λ c. Inside s.at c.bounds)
  pub child_in : (p : ℕ) (d : Child) → d ∈ children_on (slot b p) → Boxed b p (λ c. Nested d.bounds c.bounds)
  pub child-after : (p : ℕ) (d : Child) → d ∈ children_on (slot b p) → p < d.page
  pub numbers : Pairwise (λ s t. s.number ≡ t.number → ⊥) (stations b)
  pub pages : Pairwise (λ c d. c.page ≡ d.page → ⊥) (named b)

pub live-false : (s : Slot) → is_dead s ≡ false → IsLive s
live-false dead h = both_ways true h refl
live-false (leaf ss) h = tt
live-false (node l cs) h = tt

pub dead-true : (s : Slot) → is_dead s ≡ true → s ≡ dead
dead-true dead h = refl
dead-true (leaf ss) h = absurd (both_ways false refl h)
dead-true (node l cs) h = absurd (both_ways false refl h)

pub false-live : (s : Slot) → IsLive s → is_dead s ≡ false
false-live dead h = absurd h
false-live (leaf ss) h = refl
false-live (node l cs) h = refl

pub dead_or_live : (s : Slot) → (s ≡ dead) ⊎ IsLive s
dead_or_live s = ⊎_elim (λ h. inl (dead-true s h)) (λ h. inr (live-false s h)) (cases_Bool (is_dead s))

pub station-live : (x : Slot) {s : Station} → s ∈ stations_on x → IsLive x
station-live dead m = elim m [ ]
station-live (leaf ss) m = tt
station-live (node l cs) m = tt

pub child-live : (x : Slot) {d : Child} → d ∈ children_on x → IsLive x
child-live dead m = elim m [ ]
child-live (leaf ss) m = tt
child-live (node l cs) m = tt

pub fits-station : (l : ℕ) (o : Region) (x : Slot) {s : Station} → Fits l o x → s ∈ stations_on x → Inside s.at o
fits-station l o dead h m = elim m [ ]
fits-station l o (leaf ss) h m = all-at (λ s. Inside s.at o) h.1 m
fits-station l o (node k cs) h m = elim m [ ]

pub fits-child : (l : ℕ) (o : Region) (x : Slot) {d : Child} → Fits l o x → d ∈ children_on x → Nested d.bounds o
fits-child l o dead h m = elim m [ ]
fits-child l o (leaf ss) h m = elim m [ ]
fits-child l o (node k cs) h m = all-at (λ d. Nested d.bounds o) h.1 m

-- what is counted at most once stands at most once
pub once-apart : {A : Type 0} (f : A → ℕ) (xs : List A) → ((n : ℕ) → count (λ x. eqb (f x) n) xs ≤ 1) → Pairwise (λ x y. f x ≡ f y → ⊥) xs
once-apart f [] h = tt
once-apart f (x ∷ xs) h = (
  all_from _ xs (λ y m e. omega (arith, h (f x), ap bit (eq-eqb (f x) (f x) refl), count_mem (λ z. eqb (f z) (f x)) m (eq-eqb (f y) (f x) (sym e)))),
  once-apart f xs (λ n. omega (arith, h n)),
)

module _ (b : Book) (lawful : Lawful b) where
  -- a live page other than the top fits a box that it is named with
  boxed : (p : ℕ) (P : Child → Type 0) → IsLive (slot b p) → ((l : ℕ) (c : Child) → Fits l c.bounds (slot b p) → P c) → Boxed b p P
  boxed p P live f = ⊎_elim inl (λ ne. inr (found ne)) (cases_eq p 0)
    where
      found : (p ≡ 0 → ⊥) → (c : Child) × (c ∈ named b) × (c.page ≡ p) × P c
      found ne =
          let r = count-some (names p) (named b) (lawful.reached p live ne) in
          let at = eqb-true r.0.page p r.2 in
          let n = of_joined children_on b r.1 in
          let k = all-at (λ c. Fits (level (slot b n.0)) c.bounds (slot b c.page)) (lawful.fits n.0) n.1 in
          (r.0, r.1, at, f (level (slot b n.0)) r.0 (subst (λ i. Fits (level (slot b n.0)) r.0.bounds (slot b i)) at k))

  pub shape : Shape b
  shape = record {
    station_in = λ p s m. boxed p (λ c. Inside s.at c.bounds) (station-live (slot b p) m) (λ l c h. fits-station l c.bounds (slot b p) h m);
    child_in = λ p d m. boxed p (λ c. Nested d.bounds c.bounds) (child-live (slot b p) m) (λ l c h. fits-child l c.bounds (slot b p) h m);
    child-after = λ p d m. (all-at (λ c. (p < c.page) × (c.page < length b)) (lawful.after p) m).0;
    numbers = once-apart (λ s. s.number) (stations b) lawful.numbered_once;
    pages = once-apart (λ c. c.page) (named b) lawful.named_once;
  }
