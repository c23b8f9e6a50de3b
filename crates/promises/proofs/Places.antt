-- Where entries stand, that their keys differ, and counts over a filter that changes at one place.
use Rattle.std.proofs.Common.{◌≡◌, ℕ, zero, suc, ◌+◌, ◌<◌, ◌≤◌, Bool, true, false, cond, ◌&&◌, eqb, ◌⊎◌, List, [], ◌∷◌, ◌++◌, map, filter, sym, refl, ap, ◌∙◌, subst, inl, inr, ⊎_elim, arith}
use Rattle.std.specs.List.{flat_map, AllByRecursion as Each}
use Rattle.std.proofs.lemmas.Bool.{both_ways, and_parts, and_from, eqb-true, eq-eqb, ne_eqb, lt-ltb, ltb-true}
use Rattle.stations.specs.declared.measures.Measures.{Measures}
use Rattle.stations.specs.declared.station.Station as stated
use Rattle.stations.specs.Keys.{kind_number}
use Rattle.stations.specs.Counting.{bit, count}
use Rattle.books.specs.declared.Child.{Child}
use Rattle.books.specs.declared.Entry.{Entry}
use Rattle.books.specs.declared.Entry.TheVariants.{Page, Station}
use Rattle.books.specs.Lists.{Pairwise, ◌∈◌, here, there}
use Rattle.books.specs.Books.{Slot, dead, leaf, node, Book, slot, stations_on, children_on, entries_on}
use Rattle.promises.specs.Queries.{Query}
use Rattle.promises.specs.Waiting.{key_of, Place, places, some}
use Rattle.promises.specs.Turning.{Same}
use Rattle.promises.proofs.Lists.{all-at, all_from, in_map, of_map, pairwise_weaker, pairwise_mapped, pairwise_append, count_append, count_mem, count-some}
use Rattle.promises.proofs.Books.{in_left, in_right, of_append, in_joined}

module _ {A : Type 0} where
  pub pairwise_parts : (R : A → A → Type 0) (xs ys : List A) → Pairwise R (xs ++ ys) → Pairwise R xs × Pairwise R ys × Each (λ x. Each (R x) ys) xs
  pairwise_parts R [] ys h = (tt, h, tt)
  pairwise_parts R (x ∷ xs) ys h =
      let r = pairwise_parts R xs ys h.1 in
      ((all_from (R x) xs (λ y m. all-at (R x) h.0 (in_left ys m)), r.0), r.1, (all_from (R x) ys (λ y m. all-at (R x) h.0 (in_right xs m)), r.2))

  -- of two members of a list, either is before the other, or they are one
  pub pick : (R : A → A → Type 0) {x y : A} {xs : List A} → Pairwise R xs → x ∈ xs → y ∈ xs → (x ≡ y) ⊎ (R x y ⊎ R y x)
  pick R h (here e) (here d) = inl (e ∙ sym d)
  pick R {y = y} h (here e) (there n) = inr (inl (subst (λ z. R z y) (sym e) (all-at (R _) h.0 n)))
  pick R {x = x} h (there m) (here d) = inr (inr (subst (λ z. R z x) (sym d) (all-at (R _) h.0 m)))
  pick R h (there m) (there n) = pick R h.1 m n

  pub kept_same : (p r : A → Bool) (xs : List A) → ((x : A) → x ∈ xs → p x ≡ r x) → filter p xs ≡ filter r xs
  kept_same p r [] f = refl
  kept_same p r (x ∷ xs) f = rw (f x (here refl), kept_same p r xs (λ y m. f y (there m))) refl

  pub count_kept : (t r : A → Bool) (xs : List A) → count t (filter r xs) ≡ count (λ x. r x && t x) xs
  count_kept t r [] = refl
  count_kept t r (x ∷ xs) = elim (r x) as (λ s. count t (cond s (x ∷ filter r xs) (filter r xs)) ≡ bit (s && t x) + count (λ x. r x && t x) xs) [ true ↦ ap (λ n. bit (t x) + n) (count_kept t r xs) | false ↦ omega (arith, count_kept t r xs) ]

  pub count_same : (t s : A → Bool) (xs : List A) → ((x : A) → x ∈ xs → t x ≡ s x) → count t xs ≡ count s xs
  count_same t s [] f = refl
  count_same t s (x ∷ xs) f = omega (arith, ap bit (f x (here refl)), count_same t s xs (λ y m. f y (there m)))

  pub count_map : {B : Type 0} (t : B → Bool) (f : A → B) (xs : List A) → count t (map f xs) ≡ count (λ x. t (f x)) xs
  count_map t f [] = refl
  count_map t f (x ∷ xs) = ap (λ n. bit (t (f x)) + n) (count_map t f xs)

  pub some-from : (t : A → Bool) {x : A} {xs : List A} → x ∈ xs → t x ≡ true → some t xs ≡ true
  some-from t m h = lt-ltb _ _ (count_mem t m h)

  pub of_some : (t : A → Bool) (xs : List A) → some t xs ≡ true → (x : A) × (x ∈ xs) × (t x ≡ true)
  of_some t xs h = count-some t xs (ltb-true _ _ h)

  -- two tests that differ at one member alone, which the first passes
  module _ (R : A → A → Type 0) (r s : A → Bool) where
    pub count-one-less : {x : A} {xs : List A} (t : A → Bool) → Pairwise R xs → x ∈ xs → r x ≡ true → s x ≡ false → ((y : A) → y ∈ xs → R x y ⊎ R y x → r y ≡ s y) → count (λ y. r y && t y) xs ≡ bit (t x) + count (λ y. s y && t y) xs
    count-one-less {x} t p (here {xs = ys} e) h k f =
        rw (sym e, h, k) (omega (arith, count_same (λ y. r y && t y) (λ y. s y && t y) ys (λ y m. ap (λ b. b && t y) (f y (there m) (inl (subst (λ z. R z y) (sym e) (all-at (R _) p.0 m)))))))
    count-one-less {x} t p (there {x = z} {xs = ys} m) h k f =
        omega (arith, ap (λ b. bit (b && t z)) (f z (here refl) (inr (all-at (R z) p.0 m))), count-one-less t p.1 m h k (λ y n. f y (there n)))

-- entries and what stands on a slot
pub in_children : (x : Slot) {c : Child} → c ∈ children_on x → Page c ∈ entries_on x
in_children dead m = elim m [ ]
in_children (leaf ss) m = elim m [ ]
in_children (node l cs) m = in_map Page m

pub in_stations : (x : Slot) {s : stated.Station} → s ∈ stations_on x → Station s ∈ entries_on x
in_stations dead m = elim m [ ]
in_stations (leaf ss) m = in_map Station m
in_stations (node l cs) m = elim m [ ]

apart-kinds : (s : stated.Station) (c : Child) → Station s ≡ Page c → ⊥
apart-kinds s c e = let z : ◌≡◌ {A = ℕ} 0 1 = cc in omega arith

pub of-children : (x : Slot) {c : Child} → Page c ∈ entries_on x → c ∈ children_on x
of-children dead m = elim m [ ]
of-children (leaf ss) {c} m = let r = of_map Station ss m in absurd (apart-kinds r.0 c (sym r.2))
of-children (node l cs) {c} m = let r = of_map Page cs m in let e : c ≡ r.0 = let h = r.2 in cc in subst (λ d. d ∈ cs) (sym e) r.1

pub of-stations : (x : Slot) {s : stated.Station} → Station s ∈ entries_on x → s ∈ stations_on x
of-stations dead m = elim m [ ]
of-stations (leaf ss) {s} m = let r = of_map Station ss m in let e : s ≡ r.0 = let h = r.2 in cc in subst (λ d. d ∈ ss) (sym e) r.1
of-stations (node l cs) {s} m = let r = of_map Page cs m in absurd (apart-kinds s r.0 r.2)

abbrev pub at : ℕ → Entry → Place
at n e = record { page = n; entry = e }

pub in_places : (n : ℕ) (b : Book) (p : ℕ) {e : Entry} → e ∈ entries_on (slot b p) → at (n + p) e ∈ places n b
in_places n [] p m = elim m [ ]
in_places n (s ∷ b) zero {e} m = let z : n + 0 ≡ n = omega arith in in_left (places (suc n) b) (subst (λ k. at k e ∈ map (at n) (entries_on s)) (sym z) (in_map (at n) m))
in_places n (s ∷ b) (suc p) {e} m = let z : n + suc p ≡ suc n + p = omega arith in in_right (map (at n) (entries_on s)) (subst (λ k. at k e ∈ places (suc n) b) (sym z) (in_places (suc n) b p m))

pub of_places : (n : ℕ) (b : Book) {x : Place} → x ∈ places n b → (p : ℕ) × (x.page ≡ n + p) × (x.entry ∈ entries_on (slot b p))
of_places n [] m = elim m [ ]
of_places n (s ∷ b) {x} m = ⊎_elim here_on (λ k. further (of_places (suc n) b k)) (of_append (map (at n) (entries_on s)) m)
  where
    here_on : x ∈ map (at n) (entries_on s) → (p : ℕ) × (x.page ≡ n + p) × (x.entry ∈ entries_on (slot (s ∷ b) p))
    here_on k = let r = of_map (at n) (entries_on s) k in (0, ap (λ y. y.page) r.2 ∙ omega arith, subst (λ e. e ∈ entries_on s) (sym (ap (λ y. y.entry) r.2)) r.1)

    further : (p : ℕ) × (x.page ≡ suc n + p) × (x.entry ∈ entries_on (slot b p)) → (p : ℕ) × (x.page ≡ n + p) × (x.entry ∈ entries_on (slot (s ∷ b) p))
    further r = (suc r.0, omega (arith, r.1), r.2)

-- how many of those at one page pass a test
count_off : (n m : ℕ) (r : Entry → Bool) (es : List Entry) → (n ≡ m → ⊥) → count (λ x. eqb x.page m && r x.entry) (map (at n) es) ≡ 0
count_off n m r [] h = refl
count_off n m r (e ∷ es) h = omega (arith, ap (λ t. bit (t && r e)) (ne_eqb n m h), count_off n m r es h)

count-on : (n : ℕ) (r : Entry → Bool) (es : List Entry) → count (λ x. eqb x.page n && r x.entry) (map (at n) es) ≡ count r es
count-on n r [] = refl
count-on n r (e ∷ es) = omega (arith, ap (λ t. bit (t && r e)) (eq-eqb n n refl), count-on n r es)

count_past : (n m : ℕ) (r : Entry → Bool) (b : Book) → m < n → count (λ x. eqb x.page m && r x.entry) (places n b) ≡ 0
count_past n m r [] h = refl
count_past n m r (s ∷ b) h = count_append _ (map (at n) (entries_on s)) (places (suc n) b) ∙ omega (arith, count_off n m r (entries_on s) (λ e. omega arith), count_past (suc n) m r b (omega arith))

pub count_at : (n p : ℕ) (r : Entry → Bool) (b : Book) → count (λ x. eqb x.page (n + p) && r x.entry) (places n b) ≡ count r (entries_on (slot b p))
count_at n p r [] = refl
count_at n zero r (s ∷ b) =
    let z : n + 0 ≡ n = omega arith in
    ap (λ k. count (λ x. eqb x.page k && r x.entry) (places n (s ∷ b))) z
    ∙ count_append _ (map (at n) (entries_on s)) (places (suc n) b) ∙ omega (arith, count-on n r (entries_on s), count_past (suc n) n r b (omega arith))
count_at n (suc p) r (s ∷ b) =
    let z : n + suc p ≡ suc n + p = omega arith in
    ap (λ k. count (λ x. eqb x.page k && r x.entry) (places n (s ∷ b))) z
    ∙ count_append _ (map (at n) (entries_on s)) (places (suc n) b) ∙ omega (arith, count_off n (suc n + p) r (entries_on s) (λ e. omega arith), count_at (suc n) p r b)

module _ (q : Query) where
  abbrev pub Differ : Place → Place → Type 0
  Differ x y = key_of q x.entry ≡ key_of q y.entry → ⊥

  abbrev Numbers : stated.Station → stated.Station → Type 0
  Numbers s t = s.number ≡ t.number → ⊥

  abbrev Pages : Child → Child → Type 0
  Pages c d = c.page ≡ d.page → ⊥

  on-slot : (n : ℕ) (s : Slot) → Pairwise Numbers (stations_on s) → Pairwise Pages (children_on s) → Pairwise Differ (map (at n) (entries_on s))
  on-slot n dead h k = tt
  on-slot n (leaf ss) h k = pairwise_mapped Differ (at n) (map Station ss) (pairwise_mapped _ Station ss (pairwise_weaker Numbers _ (λ s t f e. f (ap (λ j. j.number) e)) ss h))
  on-slot n (node l cs) h k = pairwise_mapped Differ (at n) (map Page cs) (pairwise_mapped _ Page cs (pairwise_weaker Pages _ (λ s t f e. f (ap (λ j. j.number) e)) cs k))

  across : (s : Slot) (b : Book) (p : ℕ) → Each (λ x. Each (Numbers x) (flat_map stations_on b)) (stations_on s) → Each (λ x. Each (Pages x) (flat_map children_on b)) (children_on s) → (e f : Entry) → e ∈ entries_on s → f ∈ entries_on (slot b p) → key_of q e ≡ key_of q f → ⊥
  across s b p h k (Station x) (Station y) m n e = all-at (Numbers x) (all-at (λ x. Each (Numbers x) (flat_map stations_on b)) h (of-stations s m)) (in_joined stations_on refl b p (of-stations (slot b p) n)) (ap (λ j. j.number) e)
  across s b p h k (Page x) (Page y) m n e = all-at (Pages x) (all-at (λ x. Each (Pages x) (flat_map children_on b)) k (of-children s m)) (in_joined children_on refl b p (of-children (slot b p) n)) (ap (λ j. j.number) e)
  across s b p h k (Station x) (Page y) m n e = let z : ◌≡◌ {A = ℕ} 1 0 = ap (λ j. kind_number j.kind) e in omega arith
  across s b p h k (Page x) (Station y) m n e = let z : ◌≡◌ {A = ℕ} 0 1 = ap (λ j. kind_number j.kind) e in omega arith

  pub differ : (n : ℕ) (b : Book) → Pairwise Numbers (flat_map stations_on b) → Pairwise Pages (flat_map children_on b) → Pairwise Differ (places n b)
  differ n [] h k = tt
  differ n (s ∷ b) h k =
      let x = pairwise_parts Numbers (stations_on s) (flat_map stations_on b) h in
      let y = pairwise_parts Pages (children_on s) (flat_map children_on b) k in
      pairwise_append Differ (map (at n) (entries_on s)) (places (suc n) b) (on-slot n s x.0 y.0) (differ (suc n) b x.1 y.1) (λ v m w l.
      let i = of_map (at n) (entries_on s) m in
      let o = of_places (suc n) b l in
      across s b o.0 x.2 y.2 v.entry w.entry (subst (λ e. e ∈ entries_on s) (sym (ap (λ z. z.entry) i.2)) i.1) o.2)

-- a test for each item
abbrev point : ℕ → ℕ → ℕ → ℕ → Measures
point a b c d = record { m1 = a; m2 = b; m3 = c; m4 = d }

abbrev is_point : Measures → Measures → Bool
is_point p r = (eqb p.m1 r.m1 && eqb p.m2 r.m2) && (eqb p.m3 r.m3 && eqb p.m4 r.m4)

point_is : (p r : Measures) → is_point p r ≡ true → p ≡ r
point_is p r h =
    let x = and_parts _ _ h in
    let y = and_parts _ _ x.0 in
    let z = and_parts _ _ x.1 in
    ap (λ n. point n p.m2 p.m3 p.m4) (eqb-true _ _ y.0) ∙ ap (λ n. point r.m1 n p.m3 p.m4) (eqb-true _ _ y.1) ∙ ap (λ n. point r.m1 r.m2 n p.m4) (eqb-true _ _ z.0) ∙ ap (λ n. point r.m1 r.m2 r.m3 n) (eqb-true _ _ z.1)

point_self : (p : Measures) → is_point p p ≡ true
point_self p = and_from _ _ (and_from _ _ (eq-eqb p.m1 _ refl) (eq-eqb p.m2 _ refl)) (and_from _ _ (eq-eqb p.m3 _ refl) (eq-eqb p.m4 _ refl))

abbrev is_entry : Entry → Entry → Bool
is_entry (Station s) (Station t) = eqb s.number t.number && is_point s.at t.at
is_entry (Station s) (Page d) = false
is_entry (Page c) (Station t) = false
is_entry (Page c) (Page d) = eqb c.page d.page && (is_point c.bounds.low d.bounds.low && is_point c.bounds.high d.bounds.high)

abbrev station : ℕ → Measures → stated.Station
station n p = record { number = n; at = p }

abbrev child : ℕ → Measures → Measures → Child
child n p r = record { page = n; bounds = record { low = p; high = r } }

entry_is : (e f : Entry) → is_entry e f ≡ true → e ≡ f
entry_is (Station s) (Station t) h =
    let x = and_parts _ _ h in
    ap (λ n. Station (station n s.at)) (eqb-true _ _ x.0) ∙ ap (λ p. Station (station t.number p)) (point_is s.at t.at x.1)
entry_is (Station s) (Page d) h = absurd (both_ways false refl h)
entry_is (Page c) (Station t) h = absurd (both_ways false refl h)
entry_is (Page c) (Page d) h =
    let x = and_parts _ _ h in
    let y = and_parts _ _ x.1 in
    ap (λ n. Page (child n c.bounds.low c.bounds.high)) (eqb-true _ _ x.0) ∙ ap (λ p. Page (child d.page p c.bounds.high)) (point_is _ _ y.0) ∙ ap (λ p. Page (child d.page d.bounds.low p)) (point_is _ _ y.1)

entry_self : (e : Entry) → is_entry e e ≡ true
entry_self (Station s) = and_from _ _ (eq-eqb s.number _ refl) (point_self s.at)
entry_self (Page c) = and_from _ _ (eq-eqb c.page _ refl) (and_from _ _ (point_self c.bounds.low) (point_self c.bounds.high))

-- what has the same members has each
pub same_in : (xs ys : List Entry) → Same xs ys → {e : Entry} → e ∈ xs → e ∈ ys
same_in xs ys h {e} m =
    let r = count-some (is_entry e) ys (subst (λ n. 1 ≤ n) (h (is_entry e)) (count_mem (is_entry e) m (entry_self e))) in
    subst (λ f. f ∈ ys) (sym (entry_is e r.0 r.2)) r.1
