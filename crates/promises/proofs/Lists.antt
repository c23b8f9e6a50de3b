-- Membership, filters, counts and sorted lists.
use Rattle.std.proofs.Common.{◌≡◌, ◌+◌, ◌<◌, ◌≤◌, Bool, true, false, cond, ◌⊎◌, List, [], ◌∷◌, ◌++◌, map, length, filter, sym, refl, ap, ◌∙◌, subst, ap₂, inl, inr, ⊎_elim, arith}
use Rattle.std.specs.List.{AllByRecursion as Each}
use Rattle.std.proofs.lemmas.Bool.{cases_Bool, both_ways}
use Rattle.std.proofs.ByRecursion.{all_kept_by, All-weaker, All-map, All-append}
use Rattle.stations.specs.Counting.{bit, count, insert, sort}
use Rattle.books.specs.Lists.{Pairwise, ◌∈◌, here, there}

bit_le : (s t : Bool) → (s ≡ true → t ≡ true) → bit s ≤ bit t
bit_le true t f = rw (f refl) (omega arith)
bit_le false t f = omega arith

module _ {A : Type 0} where
  -- membership
  pub all-at : (P : A → Type 0) {x : A} {xs : List A} → Each P xs → x ∈ xs → P x
  all-at P h (here e) = subst P (sym e) h.0
  all-at P h (there m) = all-at P h.1 m

  pub all_from : (P : A → Type 0) (xs : List A) → ((x : A) → x ∈ xs → P x) → Each P xs
  all_from P [] f = tt
  all_from P (x ∷ xs) f = (f x (here refl), all_from P xs (λ y m. f y (there m)))

  pub in_map : {B : Type 0} (f : A → B) {x : A} {xs : List A} → x ∈ xs → f x ∈ map f xs
  in_map f (here e) = here (ap f e)
  in_map f (there m) = there (in_map f m)

  -- filters
  pub in_kept : (p : A → Bool) {x : A} {xs : List A} → x ∈ xs → p x ≡ true → x ∈ filter p xs
  in_kept p (here e) h = rw (ap p (sym e) ∙ h) (here e)
  in_kept p {x} (there {x = y} {xs = ys} m) h =
      elim (p y) as (λ t. x ∈ cond t (y ∷ filter p ys) (filter p ys)) [ true ↦ there (in_kept p m h) | false ↦ in_kept p m h ]

  kept_cons : (p : A → Bool) (y : A) (ys zs : List A) {x : A} → (x ∈ zs → (x ∈ ys) × (p x ≡ true)) → (t : Bool) → p y ≡ t → x ∈ cond t (y ∷ zs) zs → (x ∈ (y ∷ ys)) × (p x ≡ true)
  kept_cons p y ys zs f true h (here e) = (here e, ap p e ∙ h)
  kept_cons p y ys zs f true h (there n) = (there (f n).0, (f n).1)
  kept_cons p y ys zs f false h n = (there (f n).0, (f n).1)

  pub of-kept : (p : A → Bool) (xs : List A) {x : A} → x ∈ filter p xs → (x ∈ xs) × (p x ≡ true)
  of-kept p [] m = elim m [ ]
  of-kept p (y ∷ ys) m = kept_cons p y ys (filter p ys) (λ n. of-kept p ys n) (p y) refl m

  pub pairwise_kept : (R : A → A → Type 0) (p : A → Bool) (xs : List A) → Pairwise R xs → Pairwise R (filter p xs)
  pairwise_kept R p [] h = tt
  pairwise_kept R p (x ∷ xs) h =
      elim (p x) as (λ t. Pairwise R (cond t (x ∷ filter p xs) (filter p xs))) [ true ↦ (all_kept_by p (R x) xs h.0, pairwise_kept R p xs h.1) | false ↦ pairwise_kept R p xs h.1 ]

  pub pairwise_weaker : (R S : A → A → Type 0) → ((x y : A) → R x y → S x y) → (xs : List A) → Pairwise R xs → Pairwise S xs
  pairwise_weaker R S f [] h = tt
  pairwise_weaker R S f (x ∷ xs) h = (All-weaker (R x) (S x) (f x) xs h.0, pairwise_weaker R S f xs h.1)

  -- counts
  pub count_le : (p q : A → Bool) (xs : List A) → ((x : A) → p x ≡ true → q x ≡ true) → count p xs ≤ count q xs
  count_le p q [] f = omega arith
  count_le p q (x ∷ xs) f = omega (arith, bit_le (p x) (q x) (f x), count_le p q xs f)

  pub count_less : (p q : A → Bool) → ((x : A) → p x ≡ true → q x ≡ true) → {x : A} {xs : List A} → x ∈ xs → p x ≡ false → q x ≡ true → count p xs < count q xs
  count_less p q f (here {xs = ys} e) h k = rw (ap p (sym e) ∙ h, ap q (sym e) ∙ k) (omega (arith, count_le p q ys f))
  count_less p q f (there {x = y} m) h k = omega (arith, bit_le (p y) (q y) (f y), count_less p q f m h k)

  pub count_kept_le : (p q : A → Bool) (xs : List A) → count p (filter q xs) ≤ count p xs
  count_kept_le p q [] = omega arith
  count_kept_le p q (x ∷ xs) =
      elim (q x) as (λ t. count p (cond t (x ∷ filter q xs) (filter q xs)) ≤ bit (p x) + count p xs) [ true ↦ omega (arith, count_kept_le p q xs) | false ↦ omega (arith, count_kept_le p q xs) ]

  -- the filter keeps all that p counts, or there is one that it does not
  abbrev pub Lost : (p q : A → Bool) → List A → Type 0
  Lost p q xs = (x : A) × (x ∈ xs) × (p x ≡ true) × (q x ≡ false)

  pub kept_or_lost : (p q : A → Bool) (xs : List A) → (count p xs ≤ count p (filter q xs)) ⊎ Lost p q xs
  kept_or_lost p q [] = inl (omega arith)
  kept_or_lost p q (y ∷ ys) = go (kept_or_lost p q ys) (q y) refl (p y) refl
    where
      go : (count p ys ≤ count p (filter q ys)) ⊎ Lost p q ys → (t : Bool) → q y ≡ t → (s : Bool) → p y ≡ s → (bit s + count p ys ≤ count p (cond t (y ∷ filter q ys) (filter q ys))) ⊎ Lost p q (y ∷ ys)
      go (inr l) t h s k = inr (l.0, there l.1, l.2, l.3)
      go (inl l) true h s k = inl (rw k (omega arith))
      go (inl l) false h true k = inr (y, here refl, k, h)
      go (inl l) false h false k = inl (omega arith)

  -- distinct members of one list that are all in another are no more than those
  without : {x : A} {xs : List A} → x ∈ xs → List A
  without (here {xs = ys} e) = ys
  without (there {x = y} m) = y ∷ without m

  count-without : (p : A → Bool) {x : A} {xs : List A} (m : x ∈ xs) → count p xs ≡ bit (p x) + count p (without m)
  unfolding without
  count-without p (here e) = rw e
  count-without p (there m) = omega (arith, count-without p m)

  in_without : {x y : A} {xs : List A} (m : x ∈ xs) → y ∈ xs → (x ≡ y → ⊥) → y ∈ without m
  unfolding without
  in_without (here e) (here d) ne = absurd (ne (e ∙ sym d))
  in_without (here e) (there n) ne = n
  in_without (there m) (here d) ne = here d
  in_without (there m) (there n) ne = there (in_without m n ne)

  pub count_into : (p : A → Bool) (xs ys : List A) → Pairwise (λ x y. x ≡ y → ⊥) xs → ((x : A) → x ∈ xs → p x ≡ true → x ∈ ys) → count p xs ≤ count p ys
  count_into p [] ys d f = omega arith
  count_into p (x ∷ xs) ys d f = go (p x) refl (λ zs g. count_into p xs zs d.1 g)
    where
      go : (t : Bool) → p x ≡ t → ((zs : List A) → ((y : A) → y ∈ xs → p y ≡ true → y ∈ zs) → count p xs ≤ count p zs) → bit t + count p xs ≤ count p ys
      go true h rest =
          let m = f x (here refl) h in
          let r = rest (without m) (λ y n k. in_without m (f y (there n) k) (all-at (λ y. x ≡ y → ⊥) d.0 n)) in
          let e = rw h at (count-without p m) in
          omega arith
      go false h rest = omega (arith, rest ys (λ y n k. f y (there n) k))

  -- sorted lists
  module _ (lt : A → A → Bool) where
    abbrev pub Rising : List A → Type 0
    Rising = Pairwise (λ x y. lt x y ≡ true)

    abbrev pub Apart : List A → Type 0
    Apart = Pairwise (λ x y. (lt x y ≡ true) ⊎ (lt y x ≡ true))

    all_insert : (P : A → Type 0) (x : A) (ys : List A) → P x → Each P ys → Each P (insert lt x ys)
    all_insert P x [] h k = (h, tt)
    all_insert P x (y ∷ ys) h k =
        elim (lt y x) as (λ t. Each P (cond t (y ∷ insert lt x ys) (x ∷ y ∷ ys))) [ true ↦ (k.0, all_insert P x ys h k.1) | false ↦ (h, k) ]

    pub all-sort : (P : A → Type 0) (xs : List A) → Each P xs → Each P (sort lt xs)
    all-sort P [] h = tt
    all-sort P (x ∷ xs) h = all_insert P x (sort lt xs) h.0 (all-sort P xs h.1)

    pub of-sort : (xs : List A) {x : A} → x ∈ sort lt xs → x ∈ xs
    of-sort xs m = all-at (λ y. y ∈ xs) (all-sort (λ y. y ∈ xs) xs (all_from (λ y. y ∈ xs) xs (λ y n. n))) m

    in_insert : (y : A) (ys : List A) {x : A} → x ∈ (y ∷ ys) → x ∈ insert lt y ys
    in_insert y [] m = m
    in_insert y (z ∷ zs) {x} m = go (lt z y) m (λ n. in_insert y zs n)
      where
        go : (t : Bool) → x ∈ (y ∷ z ∷ zs) → (x ∈ (y ∷ zs) → x ∈ insert lt y zs) → x ∈ cond t (z ∷ insert lt y zs) (y ∷ z ∷ zs)
        go false n f = n
        go true (here e) f = there (f (here e))
        go true (there (here e)) f = here e
        go true (there (there n)) f = there (f (there n))

    pub in_sort : {x : A} {xs : List A} → x ∈ xs → x ∈ sort lt xs
    in_sort (here {x = y} {xs = ys} e) = in_insert y (sort lt ys) (here e)
    in_sort (there {x = y} {xs = ys} m) = in_insert y (sort lt ys) (there (in_sort m))

    count-insert : (p : A → Bool) (x : A) (ys : List A) → count p (insert lt x ys) ≡ bit (p x) + count p ys
    count-insert p x [] = refl
    count-insert p x (y ∷ ys) =
        elim (lt y x) as (λ t. count p (cond t (y ∷ insert lt x ys) (x ∷ y ∷ ys)) ≡ bit (p x) + (bit (p y) + count p ys)) [ true ↦ omega (arith, count-insert p x ys) | false ↦ refl ]

    pub count-sort : (p : A → Bool) (xs : List A) → count p (sort lt xs) ≡ count p xs
    count-sort p [] = refl
    count-sort p (x ∷ xs) = count-insert p x (sort lt xs) ∙ ap (λ n. bit (p x) + n) (count-sort p xs)

    module _ (trans : (x y z : A) → lt x y ≡ true → lt y z ≡ true → lt x z ≡ true) where
      rising-insert : (x : A) (ys : List A) → Each (λ y. (lt x y ≡ true) ⊎ (lt y x ≡ true)) ys → Rising ys → Rising (insert lt x ys)
      rising-insert x [] a r = (tt, tt)
      rising-insert x (y ∷ ys) a r = go (lt y x) refl (rising-insert x ys a.1 r.1) a.0
        where
          go : (t : Bool) → lt y x ≡ t → Rising (insert lt x ys) → (lt x y ≡ true) ⊎ (lt y x ≡ true) → Rising (cond t (y ∷ insert lt x ys) (x ∷ y ∷ ys))
          go true h s o = (all_insert (λ z. lt y z ≡ true) x ys h r.0, s)
          go false h s (inl k) = ((k, All-weaker (λ z. lt y z ≡ true) (λ z. lt x z ≡ true) (λ z j. trans x y z k j) ys r.0), r)
          go false h s (inr k) = absurd (both_ways (lt y x) h k)

      pub rising-sort : (xs : List A) → Apart xs → Rising (sort lt xs)
      rising-sort [] a = tt
      rising-sort (x ∷ xs) a = rising-insert x (sort lt xs) (all-sort (λ y. (lt x y ≡ true) ⊎ (lt y x ≡ true)) xs a.0) (rising-sort xs a.1)

      -- rising lists with the same members are equal
      pub rising-same : ((x : A) → lt x x ≡ false) → (xs ys : List A) → Rising xs → Rising ys → ((x : A) → x ∈ xs → x ∈ ys) → ((x : A) → x ∈ ys → x ∈ xs) → xs ≡ ys
      rising-same irr [] [] r s f g = refl
      rising-same irr [] (y ∷ ys) r s f g = elim (g y (here refl)) [ ]
      rising-same irr (x ∷ xs) [] r s f g = elim (f x (here refl)) [ ]
      rising-same irr (x ∷ xs) (y ∷ ys) r s f g =
          let e = first (f x (here refl)) (g y (here refl)) in
          ap₂ ◌∷◌ e (rising-same irr xs ys r.1 s.1 (λ z m. rest x y xs ys e r.0 m (f z (there m))) (λ z m. rest y x ys xs (sym e) s.0 m (g z (there m))))
        where
          first : x ∈ (y ∷ ys) → y ∈ (x ∷ xs) → x ≡ y
          first (here e) n = e
          first (there m) (here d) = sym d
          first (there m) (there n) = absurd (both_ways (lt x x) (irr x) (trans x y x (all-at (λ z. lt x z ≡ true) r.0 n) (all-at (λ z. lt y z ≡ true) s.0 m)))

          rest : (x y : A) (xs ys : List A) → x ≡ y → Each (λ z. lt x z ≡ true) xs → {z : A} → z ∈ xs → z ∈ (y ∷ ys) → z ∈ ys
          rest x y xs ys e a {z} m (here d) = absurd (both_ways (lt x x) (irr x) (rw (d ∙ sym e) at (all-at (λ z. lt x z ≡ true) a m)))
          rest x y xs ys e a m (there n) = n

module _ {A : Type 0} where
  pub nothing_in : {x : A} {P : Type 0} → x ∈ [] → P
  nothing_in m = elim m [ ]

  pub count_append : (t : A → Bool) (xs ys : List A) → count t (xs ++ ys) ≡ count t xs + count t ys
  count_append t [] ys = omega arith
  count_append t (x ∷ xs) ys = omega (arith, count_append t xs ys)

  pub count_mem : (t : A → Bool) {x : A} {xs : List A} → x ∈ xs → t x ≡ true → 1 ≤ count t xs
  count_mem t (here {x = y} e) h = omega (arith, ap bit (ap t (sym e) ∙ h))
  count_mem t (there m) h = omega (arith, count_mem t m h)

  pub count_none : (t : A → Bool) (xs : List A) → ((x : A) → x ∈ xs → t x ≡ false) → count t xs ≡ 0
  count_none t [] h = refl
  count_none t (x ∷ xs) h = omega (arith, ap bit (h x (here refl)), count_none t xs (λ y m. h y (there m)))

  -- something is counted, so something passes
  pub count-some : (t : A → Bool) (xs : List A) → 1 ≤ count t xs → (x : A) × (x ∈ xs) × (t x ≡ true)
  count-some t [] h = absurd (omega arith)
  count-some t (x ∷ xs) h = go (λ k. count-some t xs k) (t x) refl
    where
      go : (1 ≤ count t xs → (x : A) × (x ∈ xs) × (t x ≡ true)) → (v : Bool) → t x ≡ v → (y : A) × (y ∈ (x ∷ xs)) × (t y ≡ true)
      go below true e = (x, here refl, e)
      go below false e = let r = below (omega (arith, ap bit e)) in (r.0, there r.1, r.2)

  -- where at most one passes, any two that pass are the same
  pub only : (t : A → Bool) (xs : List A) {x y : A} → count t xs ≤ 1 → x ∈ xs → t x ≡ true → y ∈ xs → t y ≡ true → x ≡ y
  only t [] h m e n f = nothing_in m
  only t (z ∷ xs) h (here p) e (here q) f = p ∙ sym q
  only t (z ∷ xs) h (here p) e (there n) f = absurd (omega (arith, count_mem t n f, ap bit (ap t (sym p) ∙ e)))
  only t (z ∷ xs) h (there m) e (here q) f = absurd (omega (arith, count_mem t m e, ap bit (ap t (sym q) ∙ f)))
  only t (z ∷ xs) h (there m) e (there n) f = only t xs (omega arith) m e n f

  pub count-all : (xs : List A) → count (λ _. true) xs ≡ length xs
  count-all [] = refl
  count-all (x ∷ xs) = omega (arith, count-all xs)

pub pairwise_mapped : {A B : Type 0} (R : B → B → Type 0) (f : A → B) (xs : List A) → Pairwise (λ x y. R (f x) (f y)) xs → Pairwise R (map f xs)
pairwise_mapped R f [] h = tt
pairwise_mapped R f (x ∷ xs) h = (All-map (R (f x)) f xs h.0, pairwise_mapped R f xs h.1)

pub of_map : {A B : Type 0} (f : A → B) (xs : List A) {y : B} → y ∈ map f xs → (x : A) × (x ∈ xs) × (y ≡ f x)
of_map f [] m = nothing_in m
of_map f (x ∷ xs) (here e) = (x, here refl, e)
of_map f (x ∷ xs) (there m) = let r = of_map f xs m in (r.0, there r.1, r.2)

module _ {A : Type 0} where
  pub pairwise_append : (R : A → A → Type 0) (xs ys : List A) → Pairwise R xs → Pairwise R ys → ((x : A) → x ∈ xs → (y : A) → y ∈ ys → R x y) → Pairwise R (xs ++ ys)
  pairwise_append R [] ys h k f = k
  pairwise_append R (x ∷ xs) ys h k f = (All-append (R x) xs ys h.0 (all_from (R x) ys (λ y m. f x (here refl) y m)), pairwise_append R xs ys h.1 k (λ z m. f z (there m)))

  pub kept-none : (t : A → Bool) (xs : List A) → Each (λ x. t x ≡ false) xs → filter t xs ≡ []
  kept-none t [] h = refl
  kept-none t (x ∷ xs) h = ap (λ v. cond v (x ∷ filter t xs) (filter t xs)) h.0 ∙ kept-none t xs h.1

  pub kept-all : (t : A → Bool) (xs : List A) → Each (λ x. t x ≡ true) xs → filter t xs ≡ xs
  kept-all t [] h = refl
  kept-all t (x ∷ xs) h = ap (λ v. cond v (x ∷ filter t xs) (filter t xs)) h.0 ∙ ap (λ ys. x ∷ ys) (kept-all t xs h.1)

  -- a filter over a wider one is the filter
  pub kept-kept : (t u : A → Bool) → ((x : A) → t x ≡ true → u x ≡ true) → (xs : List A) → filter t (filter u xs) ≡ filter t xs
  kept-kept t u f [] = refl
  kept-kept t u f (x ∷ xs) = go (u x) refl (t x) refl (kept-kept t u f xs)
    where
      go : (v : Bool) → u x ≡ v → (s : Bool) → t x ≡ s → filter t (filter u xs) ≡ filter t xs → filter t (cond v (x ∷ filter u xs) (filter u xs)) ≡ cond s (x ∷ filter t xs) (filter t xs)
      go true h s k e = ap (λ s. cond s (x ∷ filter t (filter u xs)) (filter t (filter u xs))) k ∙ ap (λ ys. cond s (x ∷ ys) ys) e
      go false h true k e = absurd (both_ways (u x) h (f x k))
      go false h false k e = e

  -- in a rising list, what a test keeps stands in front where the test is closed downward
  pub begins-kept : (lt : A → A → Bool) (t : A → Bool) → ((x y : A) → lt x y ≡ true → t y ≡ true → t x ≡ true) → (xs : List A) → Pairwise (λ x y. lt x y ≡ true) xs → (rest : List A) × (xs ≡ filter t xs ++ rest)
  begins-kept lt t f [] r = ([], refl)
  begins-kept lt t f (x ∷ xs) r = go (t x) refl (begins-kept lt t f xs r.1)
    where
      go : (v : Bool) → t x ≡ v → (rest : List A) × (xs ≡ filter t xs ++ rest) → (rest : List A) × (x ∷ xs ≡ cond v (x ∷ filter t xs) (filter t xs) ++ rest)
      go true h (rest, e) = (rest, ap (λ ys. x ∷ ys) e)
      go false h k = (x ∷ xs, ap (λ ys. ys ++ (x ∷ xs)) (sym (kept-none t xs (All-weaker (λ y. lt x y ≡ true) (λ y. t y ≡ false) (λ y l. ⊎_elim (λ e. absurd (both_ways (t x) h (f x y l e))) (λ e. e) (cases_Bool (t y))) xs r.0))))

  pub length-kept : (t : A → Bool) (xs : List A) → length (filter t xs) ≡ count t xs
  length-kept t [] = refl
  length-kept t (x ∷ xs) = elim (t x) as (λ v. length (cond v (x ∷ filter t xs) (filter t xs)) ≡ bit v + count t xs) [ true ↦ omega (arith, length-kept t xs) | false ↦ omega (arith, length-kept t xs) ]
