-- The bytes of a lawful book whose pages are all live load, and spell the book.
use Rattle.std.proofs.Common.{◌≡◌, ℕ, zero, suc, ◌+◌, ◌*◌, ◌^◌, ◌<◌, ◌≤◌, Bool, true, cond, ◌||◌, eqb, ◌⊎◌, List, [], ◌∷◌, ◌++◌, map, length, get_or, take, drop, is_some, Some, None, sym, refl, ap, ◌∙◌, subst, inl, inr, arith}
use Rattle.std.specs.List.{flat_map, AllByRecursion as Each}
use Rattle.std.proofs.lemmas.List.{append-nil, take_at, get_or-set_same, get_or-set_other, same_lists, length-map, length-set, get_or-map, get_or_past}
use Rattle.std.proofs.ByRecursion.{All-from_get_or, All-get_or, All-weaker, All-append}
use Rattle.std.proofs.lemmas.List.FromFn.{length-map-range_with_len, get_or-map-range_with_len}
use Rattle.std.proofs.lemmas.Bool.Decides.{nat_tests}
use Rattle.std.proofs.lemmas.Bool.{cases_eq, cases_lt, ne_eqb, eq-eqb, or_left, or_right, and_from, not_from_false}
use Rattle.stations.specs.declared.station.Station.{Station}
use Rattle.stations.specs.declared.measures.Measures.{Measures}
use Rattle.stations.specs.Beating.{Ordinary, ◌≼◌}
use Rattle.stations.specs.Counting.{bit, count}
use Rattle.books.specs.declared.Child.{Child}
use Rattle.books.specs.Books.{Slot, dead, Book, slot, level, stations_on, children_on, stations, named, IsLive, names, Lawful}
use Rattle.stored.specs.Layout.{is_padded, live}
use Rattle.stored.specs.Notes.{Notes, no_notes, is_named, naming, note_one, note_all, notes_after}
use Rattle.stored.specs.Loading.{page_count, page_bytes, pages_in, is_live_at, slot_at, slots_from, load_fault, spelled_book}
use Rattle.stored.specs.Soundness.{Sound}
use Rattle.stored.proofs.Counts.{count_append}
use Rattle.stored.proofs.Soundness.{sound-loads}
use Rattle.writer.specs.Bytes.{slot_bytes, book_bytes}
use Rattle.writer.proofs.Spelling.{StationFits, ChildFits, SlotFits, not_marked, spelled_back, padded-back, slot-length, length_joined, from_joined}

all-front : {A : Type 0} (Q : A → Type 0) (xs ys : List A) → Each Q (xs ++ ys) → Each Q xs
all-front Q [] ys h = tt
all-front Q (x ∷ xs) ys h = (h.0, all-front Q xs ys h.1)

all_back : {A : Type 0} (Q : A → Type 0) (xs ys : List A) → Each Q (xs ++ ys) → Each Q ys
all_back Q [] ys h = h
all_back Q (x ∷ xs) ys h = all_back Q xs ys h.1

-- what holds of all parts holds of the parts of each page
parts-of : {A : Type 0} (Q : A → Type 0) (part : Slot → List A) (b : Book) (p : ℕ) → p < length b → Each Q (flat_map part b) → Each Q (part (slot b p))
parts-of Q part [] p h all = absurd (omega arith)
parts-of Q part (s ∷ b) zero h all = all-front Q (part s) (flat_map part b) all
parts-of Q part (s ∷ b) (suc p) h all = parts-of Q part b p (omega arith) (all_back Q (part s) (flat_map part b) all)

both-all : {A : Type 0} (P Q R : A → Type 0) → ((a : A) → P a → Q a → R a) → (xs : List A) → Each P xs → Each Q xs → Each R xs
both-all P Q R f [] p q = tt
both-all P Q R f (x ∷ xs) p q = (f x p.0 q.0, both-all P Q R f xs p.1 q.1)

-- measures below ordinary ones are ordinary
below-ordinary : (p q : Measures) → p ≼ q → Ordinary q → Ordinary p
below-ordinary p q h o = record { in1 = omega arith; in2 = omega arith; in3 = omega arith; in4 = omega arith }

-- a page that names only pages after p does not name p
none-named-at : (p : ℕ) (cs : List Child) → Each (λ c. p < c.page) cs → count (names p) cs ≡ 0
none-named-at p [] h = refl
none-named-at p (c ∷ cs) h = let above = h.0 in grind (arith, nat_tests, none-named-at p cs h.1)

-- each of these pages, from page p on, names only pages after it
abbrev After : ℕ → List Slot → Type 0
After p [] = Unit {0}
After p (s ∷ ss) = Each (λ c. p < c.page) (children_on s) × After (p + 1) ss

later-named : (q p : ℕ) (ss : List Slot) → q ≤ p → After p ss → Each (λ c. q < c.page) (named ss)
later-named q p [] h a = tt
later-named q p (s ∷ ss) h a =
    All-append (λ c. q < c.page) (children_on s) (named ss) (All-weaker (λ (c : Child). p < c.page) (λ (c : Child). q < c.page) (λ c k. omega arith) (children_on s) a.0) (later-named q (p + 1) ss (omega arith) a.1)

-- a page that was named, or is named by these entries, is named after them
some-bit : (t : Bool) → 1 ≤ bit t → t ≡ true
some-bit t h = grind arith

noted : (l q : ℕ) (notes : Notes) (cs : List Child) → Each (λ c. c.page < length notes) cs → 1 ≤ bit (is_named notes q) + count (names q) cs → 1 ≤ bit (is_named (note_all l notes cs) q)
noted l q notes [] inside h = omega arith
noted l q notes (c ∷ cs) inside h =
    let same_length = length-set notes c.page (Some (naming l c)) in
    noted l q (note_one l notes c) cs (All-weaker (λ (d : Child). d.page < length notes) (λ (d : Child). d.page < length (note_one l notes c)) (λ d k. omega arith) cs inside.1) (by (cases_eq q c.page))
  where
    by : (q ≡ c.page) ⊎ (q ≡ c.page → ⊥) → 1 ≤ bit (is_named (note_one l notes c) q) + count (names q) cs
    by (inl same) =
        let said : is_named (note_one l notes c) q ≡ true = ap (is_named (note_one l notes c)) same ∙ ap is_some (get_or-set_same notes c.page (Some (naming l c)) None inside.0) in
        let one = ap bit said in
        omega arith
    by (inr other) =
        let kept = ap (λ o. bit (is_some o)) (get_or-set_other notes c.page q (Some (naming l c)) None other) in
        let no = ap bit (ne_eqb c.page q (λ e. other (sym e))) in
        omega arith

noted-length : (l : ℕ) (notes : Notes) (cs : List Child) → length (note_all l notes cs) ≡ length notes
noted-length l notes [] = refl
noted-length l notes (c ∷ cs) = noted-length l (note_one l notes c) cs ∙ length-set notes c.page (Some (naming l c))

-- the walk over the bytes of these pages finds each of them
walked : (p : ℕ) (notes : Notes) (ss : List Slot) → Each SlotFits ss → After p ss → Each (λ c. c.page < length notes) (named ss)
    → ((i q : ℕ) → p + i ≡ q → i < length ss → (q ≡ 0 → ⊥) → 1 ≤ bit (is_named notes q) + count (names q) (named ss))
    → slots_from p notes (map slot_bytes ss) ≡ ss
walked p notes [] fits after inside reached = refl
walked p notes (s ∷ ss) fits after inside reached =
    let here : slot_at notes p (slot_bytes s) ≡ s = at-page in
    ap (λ t. t ∷ slots_from (p + 1) (notes_after notes t) (map slot_bytes ss)) here
    ∙ ap (λ rest. s ∷ rest) (walked (p + 1) (notes_after notes s) ss fits.1 after.1
    (All-weaker (λ (c : Child). c.page < length notes) (λ (c : Child). c.page < length (notes_after notes s)) (λ c k. let same = noted-length (level s) notes (children_on s) in omega arith) (named ss) (all_back (λ (c : Child). c.page < length notes) (children_on s) (named ss) inside))
    (λ i q e below other.
    let h = reached (suc i) q (omega arith) (omega arith) other in
    let d = count_append (names q) (children_on s) (named ss) in
    next q (omega arith)))
  where
    counts : (p ≡ 0) ⊎ (p ≡ 0 → ⊥) → (eqb p 0 || is_named notes p) ≡ true
    counts (inl top) = or_left _ _ (eq-eqb p 0 top)
    counts (inr other) =
        let h = reached 0 p (omega arith) (omega arith) other in
        let none = none-named-at p (named (s ∷ ss)) (later-named p p (s ∷ ss) (omega arith) after) in
        or_right (eqb p 0) (is_named notes p) (some-bit (is_named notes p) (omega arith))

    at-page : slot_at notes p (slot_bytes s) ≡ s
    at-page =
        let lives : is_live_at notes p (slot_bytes s) ≡ true = and_from _ _ (counts (cases_eq p 0)) (not_from_false _ (not_marked s fits.0)) in
        ap (λ t. cond t (live (slot_bytes s)) dead) lives ∙ spelled_back s fits.0

    next : (q : ℕ) → 1 ≤ (bit (is_named notes q) + count (names q) (children_on s)) + count (names q) (named ss) → 1 ≤ bit (is_named (notes_after notes s) q) + count (names q) (named ss)
    next q h = by (cases_lt 0 (bit (is_named notes q) + count (names q) (children_on s)))
      where
        by : (0 < bit (is_named notes q) + count (names q) (children_on s)) ⊎ (bit (is_named notes q) + count (names q) (children_on s) ≤ 0) → 1 ≤ bit (is_named (notes_after notes s) q) + count (names q) (named ss)
        by (inl some) = let k = noted (level s) q notes (children_on s) (all-front (λ (c : Child). c.page < length notes) (children_on s) (named ss) inside) (omega arith) in omega arith
        by (inr none) = omega arith

module _ (b : Book) (fits : Each SlotFits b) where
  even : Each (λ s. length (slot_bytes s) ≡ 256) b
  even = All-weaker SlotFits (λ s. length (slot_bytes s) ≡ 256) (λ s h. slot-length s h.sizes) b fits

  pub book-length : length (book_bytes b) ≡ 256 * length b
  unfolding book_bytes
  book-length = length_joined slot_bytes 256 b even

  -- each page is where it was put
  page-back : (p : ℕ) (d : Slot) → p < length b → page_bytes (book_bytes b) p ≡ slot_bytes (get_or b p d)
  unfolding book_bytes
  page-back p d h =
      let all : length (slot_bytes (get_or b p d)) ≡ 256 = All-get_or (λ s. length (slot_bytes s) ≡ 256) b p d h even in
      ap (λ xs. take 256 (drop (256 * p) xs)) (sym (append-nil (flat_map slot_bytes b)))
      ∙ ap (take 256) (from_joined slot_bytes 256 p b d [] even h)
      ∙ take_at (slot_bytes (get_or b p d)) (flat_map slot_bytes (drop (p + 1) b) ++ []) 256 all

  pages-back : pages_in (book_bytes b) ≡ map slot_bytes b
  pages-back =
      let n = book-length in
      let many : page_count (book_bytes b) ≡ length b = omega arith in
      let counted = length-map-range_with_len (page_bytes (book_bytes b)) 0 (page_count (book_bytes b)) in
      let mapped = length-map b slot_bytes in
      same_lists (pages_in (book_bytes b)) (map slot_bytes b) (counted ∙ many ∙ sym mapped)
      (λ k d h.
      let below : k < page_count (book_bytes b) = omega arith in
      let inside : k < length b = omega arith in
      let same : 0 + k ≡ k = omega arith in
      get_or-map-range_with_len (page_bytes (book_bytes b)) 0 (page_count (book_bytes b)) k k d below same ∙ page-back k dead inside ∙ sym (get_or-map slot_bytes b k dead d inside))

module _ (b : Book) (lawful : Lawful b) (alive : (p : ℕ) → p < length b → IsLive (slot b p)) (numbers : Each (λ s. s.number < 2 ^ 32) (stations b)) (few : length b ≤ 256) (some : 1 ≤ length b) where
  fits-at : (p : ℕ) → p < length b → SlotFits (slot b p)
  fits-at p h = record {
    alive = alive p h;
    levels = lawful.levels p;
    sizes = lawful.sizes p;
    stations = both-all (λ (s : Station). s.number < 2 ^ 32) (λ (s : Station). Ordinary s.at) StationFits (λ s n m. record { number = n; measures = m }) (stations_on (slot b p)) (parts-of _ stations_on b p h numbers) (parts-of _ stations_on b p h lawful.measures);
    children = both-all (λ (c : Child). (p < c.page) × (c.page < length b)) (λ (c : Child). (Ordinary c.bounds.low) × (Ordinary c.bounds.high)) ChildFits (λ c n m. record { page = (let k = n.1 in omega arith); low = m.0; high = m.1 }) (children_on (slot b p)) (lawful.after p)
        (parts-of _ children_on b p h (both-all (λ (c : Child). c.bounds.low ≼ c.bounds.high) (λ (c : Child). Ordinary c.bounds.high) (λ (c : Child). (Ordinary c.bounds.low) × (Ordinary c.bounds.high)) (λ c k o. (below-ordinary c.bounds.low c.bounds.high k o, o)) (named b) lawful.ordered lawful.boxes));
  }

  all_fit : Each SlotFits b
  all_fit = All-from_get_or SlotFits b dead fits-at

  after-all : (p : ℕ) (ss : List Slot) → ((i q : ℕ) → p + i ≡ q → Each (λ c. q < c.page) (children_on (get_or ss i dead))) → After p ss
  after-all p [] h = tt
  after-all p (s ∷ ss) h = (h 0 p (omega arith), after-all (p + 1) ss (λ i q e. h (suc i) q (omega arith)))

  named-inside : (ss : List Slot) → ((i : ℕ) → Each (λ c. c.page < length b) (children_on (get_or ss i dead))) → Each (λ c. c.page < length b) (named ss)
  named-inside [] h = tt
  named-inside (s ∷ ss) h = All-append (λ (c : Child). c.page < length b) (children_on s) (named ss) (h 0) (named-inside ss (λ i. h (suc i)))

  -- the bytes of the book spell it
  pub book-back : spelled_book (book_bytes b) ≡ b
  unfolding spelled_book
  book-back =
      ap (slots_from 0 no_notes) (pages-back b all_fit)
      ∙ walked 0 no_notes b all_fit
      (after-all 0 b (λ i q e. let same : i ≡ q = omega arith in All-weaker (λ (c : Child). (q < c.page) × (c.page < length b)) (λ (c : Child). q < c.page) (λ c k. k.0) (children_on (slot b i)) (subst (λ j. Each (λ (c : Child). (q < c.page) × (c.page < length b)) (children_on (slot b j))) (sym same) (lawful.after q))))
      (All-weaker (λ (c : Child). c.page < length b) (λ (c : Child). c.page < length no_notes) (λ c k. omega arith) (named b) (named-inside b (λ i. All-weaker (λ (c : Child). (i < c.page) × (c.page < length b)) (λ (c : Child). c.page < length b) (λ c k. k.1) (children_on (slot b i)) (lawful.after i))))
      (λ i q e below other. let same : i ≡ q = omega arith in let h = lawful.reached q (alive q (omega arith)) other in omega arith)

  pub book-sound : Sound (book_bytes b)
  book-sound =
      let n = book-length b all_fit in
      record {
        whole = omega arith;
        some = omega arith;
        few = omega arith;
        padded = λ p h. padded p h (cases_lt p (length b));
        lawful = subst Lawful (sym book-back) lawful;
      }
    where
      padded : (p : ℕ) → IsLive (slot (spelled_book (book_bytes b)) p) → (p < length b) ⊎ (length b ≤ p) → is_padded (page_bytes (book_bytes b) p) ≡ true
      padded p h (inl inside) = ap is_padded (page-back b all_fit p dead inside) ∙ padded-back (get_or b p dead) (fits-at p inside)
      padded p h (inr past) = absurd (subst IsLive (ap (λ x. slot x p) book-back ∙ get_or_past b p dead past) h)

  pub book-loads : load_fault (book_bytes b) ≡ None
  book-loads = sound-loads (book_bytes b) book-sound
