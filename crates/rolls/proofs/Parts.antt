-- Lists that are cut into parts of one size, and lists that a function of the place makes.
use Rattle.std.proofs.Common.{◌≡◌, ℕ, zero, suc, ◌+◌, ◌-◌, ◌*◌, ◌<◌, ◌≤◌, min, List, [], ◌∷◌, ◌++◌, map, length, get_or, take, drop, sym, refl, ap, ◌∙◌, subst, ap₂, mul-le-mul_right, mul_assoc, suc-mul, add-mul, zero-mul, arith}
use Rattle.std.specs.List.{range_with_len, flat_map, AllByRecursion as Each}
use Rattle.std.proofs.lemmas.List.{append_assoc, take-append-drop, take-take, drop-take, drop-drop, take_all, length-take, length-drop, get_or-take, get_or-drop}
use Rattle.std.proofs.ByRecursion.{All-append, All-take, All-drop, All-get_or, All-from_get_or}
use Rattle.std.proofs.lemmas.List.FromFn.{length-map-range_with_len, get_or-map-range_with_len}
use Rattle.rolls.specs.Rolls.{part}

pub joined_append : {X A : Type 0} (f : X → List A) (xs ys : List X) → flat_map f (xs ++ ys) ≡ flat_map f xs ++ flat_map f ys
joined_append f [] ys = refl
joined_append f (x ∷ xs) ys = ap (λ t. f x ++ t) (joined_append f xs ys) ∙ sym (append_assoc (f x) (flat_map f xs) (flat_map f ys))

pub joined_map : {X Y A : Type 0} (f : Y → List A) (g : X → Y) (xs : List X) → flat_map f (map g xs) ≡ flat_map (λ x. f (g x)) xs
joined_map f g [] = refl
joined_map f g (x ∷ xs) = ap (λ t. f (g x) ++ t) (joined_map f g xs)

pub joined_none : {X A : Type 0} (xs : List X) → flat_map {A = A} (λ _. []) xs ≡ []
joined_none [] = refl
joined_none (x ∷ xs) = joined_none xs

module _ {A : Type 0} where
  take-add : (m n : ℕ) (xs : List A) → take (m + n) xs ≡ take m xs ++ take n (drop m xs)
  take-add m n xs = sym (take-append-drop m (take (m + n) xs)) ∙ ap₂ ◌++◌ (take-take m (m + n) xs (omega arith)) (drop-take m n xs)

  joined_parts_from : (s a n : ℕ) (xs : List A) → flat_map (part s xs) (range_with_len a n) ≡ take (n * s) (drop (a * s) xs)
  joined_parts_from s a zero xs = rw zero-mul
  joined_parts_from s a (suc n) xs =
      let more : (a + 1) * s ≡ a * s + s = omega (arith, add-mul a 1 s) in
      let size : suc n * s ≡ s + n * s = omega (arith, suc-mul n s) in
      ap (λ t. part s xs a ++ t) (joined_parts_from s (a + 1) n xs ∙ ap (λ j. take (n * s) (drop j xs)) more ∙ ap (take (n * s)) (sym (drop-drop s (a * s) xs)))
      ∙ sym (take-add s (n * s) (drop (a * s) xs))
      ∙ ap (λ j. take j (drop (a * s) xs)) (sym size)

  -- a list is its parts, one after the other, as far as they go
  pub joined_parts : (s n : ℕ) (xs : List A) → length xs ≤ n * s → flat_map (part s xs) (range_with_len 0 n) ≡ xs
  joined_parts s n xs h = joined_parts_from s 0 n xs ∙ ap (λ j. take (n * s) (drop j xs)) (zero-mul s) ∙ take_all (n * s) xs h

  pub length_part : (s : ℕ) (xs : List A) (i : ℕ) → length (part s xs i) ≡ min s (length xs - i * s)
  length_part s xs i = length-take s (drop (i * s) xs) ∙ ap (min s) (length-drop (i * s) xs)

  -- the parts of a part are parts
  pub part-of-part : (s m : ℕ) (xs : List A) (k j : ℕ) → j < m → part s (part (m * s) xs k) j ≡ part s xs (k * m + j)
  part-of-part s m xs k j h =
      let rest : m * s ≡ j * s + (m - j) * s = ap (λ t. t * s) (omega arith) ∙ add-mul j (m - j) s in
      let fits : s ≤ (m - j) * s = omega (arith, mul-le-mul_right {m = 1} {n = m - j} s (omega arith)) in
      let place : k * (m * s) + j * s ≡ (k * m + j) * s = ap (λ t. t + j * s) (sym (mul_assoc k m s)) ∙ sym (add-mul (k * m) j s) in
      ap (λ t. take s (drop (j * s) (take t (drop (k * (m * s)) xs)))) rest
      ∙ ap (take s) (drop-take (j * s) ((m - j) * s) (drop (k * (m * s)) xs))
      ∙ take-take s ((m - j) * s) (drop (j * s) (drop (k * (m * s)) xs)) fits
      ∙ ap (take s) (drop-drop (j * s) (k * (m * s)) xs ∙ ap (λ t. drop t xs) place)

  module _ (P : A → Type 0) where
    pub all-part : (s : ℕ) (xs : List A) (i : ℕ) → Each P xs → Each P (part s xs i)
    all-part s xs i h = All-take P s (drop (i * s) xs) (All-drop P (i * s) xs h)

    pub all_joined : (f : ℕ → List A) (a n : ℕ) → ((i : ℕ) → a ≤ i → i < a + n → Each P (f i)) → Each P (flat_map f (range_with_len a n))
    all_joined f a zero h = tt
    all_joined f a (suc n) h = All-append P (f a) (flat_map f (range_with_len (a + 1) n)) (h a (omega arith) (omega arith)) (all_joined f (a + 1) n (λ i low high. h i (omega arith) (omega arith)))

    pub all-counted : (f : ℕ → A) (a n : ℕ) → ((i : ℕ) → a ≤ i → i < a + n → P (f i)) → Each P (map f (range_with_len a n))
    all-counted f a zero h = tt
    all-counted f a (suc n) h = (h a (omega arith) (omega arith), all-counted f (a + 1) n (λ i low high. h i (omega arith) (omega arith)))

  -- a part of a list that f makes
  module _ (f : ℕ → A) (s n k : ℕ) where
    length-counted-part : length (part s (map f (range_with_len 0 n)) k) ≡ min s (n - k * s)
    length-counted-part = length_part s (map f (range_with_len 0 n)) k ∙ ap (λ t. min s (t - k * s)) (length-map-range_with_len f 0 n)

    pub counted-part-at : (j : ℕ) (d : A) → j < s → k * s + j < n → get_or (part s (map f (range_with_len 0 n)) k) j d ≡ f (k * s + j)
    counted-part-at j d h l = get_or-take s (drop (k * s) (map f (range_with_len 0 n))) j d h ∙ get_or-drop (k * s) (map f (range_with_len 0 n)) j d ∙ get_or-map-range_with_len f 0 n (k * s + j) (k * s + j) d l (omega arith)

    module _ (P : A → Type 0) where
      pub all-counted-part : ((j : ℕ) → j < s → k * s + j < n → P (f (k * s + j))) → Each P (part s (map f (range_with_len 0 n)) k)
      all-counted-part h =
          All-from_get_or P (part s (map f (range_with_len 0 n)) k) (f 0) (λ j l.
          let here : j < min s (n - k * s) = subst (λ t. j < t) length-counted-part l in
          subst P (sym (counted-part-at j (f 0) (omega arith) (omega arith))) (h j (omega arith) (omega arith)))

      pub counted-part-all : Each P (part s (map f (range_with_len 0 n)) k) → (j : ℕ) → j < s → k * s + j < n → P (f (k * s + j))
      counted-part-all h j l m =
          subst P (counted-part-at j (f 0) l m) (All-get_or P (part s (map f (range_with_len 0 n)) k) j (f 0) (rw length-counted-part (omega arith)) h)
