-- A list cut into chunks of one length, and the entries of a page as such chunks.
use Rattle.std.proofs.Common.{◌≡◌, ℕ, zero, suc, ◌+◌, ◌*◌, ◌%◌, ◌<◌, ◌≤◌, List, [], ◌∷◌, map, take, drop, get_or, refl, ap, ◌∙◌, arith}
use Rattle.std.specs.Simd.{first_chunks}
use Rattle.std.specs.List.{range_with_len}
use Rattle.std.proofs.lemmas.List.{drop-drop, get_or-take, get_or-drop}
use Rattle.std.proofs.lemmas.List.FromFn.{get_or-map-range_with_len}
use Rattle.std.proofs.lemmas.Simd.{map-map}
use Rattle.stored.specs.Layout.{byte_at, short_at, long_at, measures_at, station_at, child_at, count_byte, entry_bytes, stations_of, children_of, stations_in, children_in}
use Rattle.stored.specs.Loading.{page_count, page_bytes, pages_in}

module _ {X : Type 0} (n : ℕ) (xs : List X) where
  -- from chunk i on
  chunks_from : (i k : ℕ) → first_chunks n k (drop (n * i) xs) ≡ map (λ j. take n (drop (n * j) xs)) (range_with_len i k)
  chunks_from i zero = refl
  chunks_from i (suc k) =
      let next : n * i + n ≡ n * (i + 1) = omega arith in
      ap (λ rest. take n (drop (n * i) xs) ∷ rest) (ap (first_chunks n k) (drop-drop n (n * i) xs ∙ ap (λ m. drop m xs) next) ∙ chunks_from (i + 1) k)

  pub chunks_are : (k : ℕ) → first_chunks n k xs ≡ map (λ j. take n (drop (n * j) xs)) (range_with_len 0 k)
  chunks_are k = let none : 0 ≡ n * 0 = omega arith in ap (λ m. first_chunks n k (drop m xs)) none ∙ chunks_from 0 k

module _ (bytes : List ℕ) where
  pub pages_are : first_chunks 256 (page_count bytes) bytes ≡ pages_in bytes
  pages_are = chunks_are 256 bytes (page_count bytes)

  pub page_is : (p : ℕ) → p < page_count bytes → get_or (first_chunks 256 (page_count bytes) bytes) p [] ≡ page_bytes bytes p
  page_is p below = ap (λ pages. get_or pages p []) pages_are ∙ get_or-map-range_with_len (page_bytes bytes) 0 (page_count bytes) p p [] below (omega arith)

-- what is cut out of the page's entries stands on the page
module _ (page : List ℕ) (n m : ℕ) where
  abbrev cut : List ℕ
  cut = take n (drop m (drop 8 page))

  byte_in : (j k : ℕ) → j < n → 8 + m + j ≡ k → byte_at cut j ≡ byte_at page k
  byte_in j k h e =
      let there : 8 + (m + j) ≡ k = omega arith in
      ap (λ b. b % 256) (get_or-take n (drop m (drop 8 page)) j 0 h ∙ get_or-drop m (drop 8 page) j 0 ∙ get_or-drop 8 page (m + j) 0 ∙ ap (λ i. get_or page i 0) there)

  short_in : (j k : ℕ) → j + 2 ≤ n → 8 + m + j ≡ k → short_at cut j ≡ short_at page k
  short_in j k h e = let a = byte_in j k (omega arith) e in let b = byte_in (j + 1) (k + 1) (omega arith) (omega arith) in omega arith

  long_in : (j k : ℕ) → j + 4 ≤ n → 8 + m + j ≡ k → long_at cut j ≡ long_at page k
  long_in j k h e = let a = short_in j k (omega arith) e in let b = short_in (j + 2) (k + 2) (omega arith) (omega arith) in omega arith

  measures_in : (j k : ℕ) → j + 8 ≤ n → 8 + m + j ≡ k → measures_at cut j ≡ measures_at page k
  measures_in j k h e =
      let a = short_in j k (omega arith) e in
      let b = short_in (j + 2) (k + 2) (omega arith) (omega arith) in
      let c = short_in (j + 4) (k + 4) (omega arith) (omega arith) in
      let d = short_in (j + 6) (k + 6) (omega arith) (omega arith) in
      cc

map_same : {X : Type 0} (f g : ℕ → X) → ((i : ℕ) → f i ≡ g i) → (is : List ℕ) → map f is ≡ map g is
map_same f g h [] = refl
map_same f g h (i ∷ is) = ap (λ x. x ∷ map f is) (h i) ∙ ap (λ xs. g i ∷ xs) (map_same f g h is)

module _ (page : List ℕ) where
  pub stations_are : stations_of (entry_bytes 12 page) ≡ stations_in page
  stations_are = map-map (λ b. station_at b 0) (λ i. take 12 (drop (12 * i) (drop 8 page))) (range_with_len 0 (count_byte page)) ∙ map_same _ _ one (range_with_len 0 (count_byte page))
    where
      one : (i : ℕ) → station_at (take 12 (drop (12 * i) (drop 8 page))) 0 ≡ station_at page (8 + 12 * i)
      one i =
          let a = long_in page 12 (12 * i) 0 (8 + 12 * i) (omega arith) (omega arith) in
          let b = measures_in page 12 (12 * i) 4 (8 + 12 * i + 4) (omega arith) (omega arith) in
          cc

  pub children_are : children_of (entry_bytes 18 page) ≡ children_in page
  children_are = map-map (λ b. child_at b 0) (λ i. take 18 (drop (18 * i) (drop 8 page))) (range_with_len 0 (count_byte page)) ∙ map_same _ _ one (range_with_len 0 (count_byte page))
    where
      one : (i : ℕ) → child_at (take 18 (drop (18 * i) (drop 8 page))) 0 ≡ child_at page (8 + 18 * i)
      one i =
          let a = short_in page 18 (18 * i) 0 (8 + 18 * i) (omega arith) (omega arith) in
          let b = measures_in page 18 (18 * i) 2 (8 + 18 * i + 2) (omega arith) (omega arith) in
          let c = measures_in page 18 (18 * i) 10 (8 + 18 * i + 10) (omega arith) (omega arith) in
          cc
