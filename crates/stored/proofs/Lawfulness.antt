-- Bytes that are not refused spell a lawful book.
use Rattle.std.proofs.Common.{◌≡◌, ℕ, zero, suc, ◌+◌, ◌-◌, ◌<◌, ◌≤◌, true, false, ◌⊎◌, List, [], ◌∷◌, length, get_or, is_some, Some, None, Option, sym, refl, ap, ◌∙◌, subst, inl, inr, arith}
use Rattle.std.specs.List.{flat_map, AllByRecursion as Each}
use Rattle.std.proofs.lemmas.Bool.{cases_lt}
use Rattle.std.proofs.lemmas.List.{get_or-replicate, get_or_past}
use Rattle.std.proofs.ByRecursion.{All-append}
use Rattle.std.proofs.lemmas.List.FromFn.{length-map-range_with_len}
use Rattle.stations.specs.Counting.{bit, count}
use Rattle.books.specs.declared.Child.{Child}
use Rattle.books.specs.Books.{Slot, dead, Book, slot, level, size, stations_on, children_on, IsLive, Fits, Filled, Lawful, names, numbered, named, stations}
use Rattle.stored.specs.declared.naming.Naming.{Naming}
use Rattle.stored.specs.Notes.{Notes, no_notes, note_of, is_named, naming, notes_after, numbers_after, occurs}
use Rattle.stored.specs.Loading.{page_count, page_bytes, pages_in, slot_at, slots_from, walk_fault, length_fault, load_fault, spelled_book}
use Rattle.stored.proofs.Counts.{count_append, bit_le, all_both, both-pass}
use Rattle.stored.proofs.Fairness.{Fair, FairFrom, fair_walk}

-- there is a slot for each page
slots_length : (p : ℕ) (notes : Notes) (rest : List (List ℕ)) → length (slots_from p notes rest) ≡ length rest
slots_length p notes [] = refl
slots_length p notes (page ∷ rest) = ap suc (slots_length (p + 1) (notes_after notes (slot_at notes p page)) rest)

module _ (pages : ℕ) where
  -- what every fair slot keeps, and a dead one, every place keeps
  each-place : (P : ℕ → Slot → Type 0) → ((q : ℕ) → P q dead) → ((p : ℕ) (notes : Notes) (numbers : List ℕ) (s : Slot) → Fair pages p notes numbers s → P p s)
      → (p : ℕ) (notes : Notes) (numbers : List ℕ) (ss : List Slot) → FairFrom pages p notes numbers ss → (i q : ℕ) → p + i ≡ q → P q (get_or ss i dead)
  each-place P past at p notes numbers [] f i q e = past q
  each-place P past at p notes numbers (s ∷ ss) f zero q e = subst (λ k. P k s) (omega arith) (at p notes numbers s f.0)
  each-place P past at p notes numbers (s ∷ ss) f (suc i) q e =
      each-place P past at (p + 1) (notes_after notes s) (numbers_after numbers s) ss f.1 i q (omega arith)

  -- what holds of the parts of every fair slot holds of all parts
  each_part : {A : Type 0} (part : Slot → List A) (Q : A → Type 0) → ((p : ℕ) (notes : Notes) (numbers : List ℕ) (s : Slot) → Fair pages p notes numbers s → Each Q (part s))
      → (p : ℕ) (notes : Notes) (numbers : List ℕ) (ss : List Slot) → FairFrom pages p notes numbers ss → Each Q (flat_map part ss)
  each_part part Q at p notes numbers [] f = tt
  each_part part Q at p notes numbers (s ∷ ss) f =
      All-append Q (part s) (flat_map part ss) (at p notes numbers s f.0) (each_part part Q at (p + 1) (notes_after notes s) (numbers_after numbers s) ss f.1)

  -- a page that was named fits how it was named
  noted-fits : (p : ℕ) (notes : Notes) (numbers : List ℕ) (ss : List Slot) → FairFrom pages p notes numbers ss → (i q : ℕ) → p + i ≡ q → (n : Naming) → note_of notes q ≡ Some n → Fits n.level n.bounds (get_or ss i dead)
  noted-fits p notes numbers [] f i q e n is = tt
  noted-fits p notes numbers (s ∷ ss) f zero q e n is = f.0.fits n (subst (λ k. note_of notes k ≡ Some n) (omega arith) is)
  noted-fits p notes numbers (s ∷ ss) f (suc i) q e n is =
      noted-fits (p + 1) (notes_after notes s) (numbers_after numbers s) ss f.1 i q (omega arith) n (f.0.kept q n is)

  -- every named page fits: b has these slots from page p on
  children_fit : (b : Book) (p : ℕ) (notes : Notes) (numbers : List ℕ) (ss : List Slot) → ((i q : ℕ) → p + i ≡ q → get_or ss i dead ≡ slot b q) → FairFrom pages p notes numbers ss
      → (i q : ℕ) → p + i ≡ q → Each (λ c. Fits (level (slot b q)) c.bounds (slot b c.page)) (children_on (slot b q))
  children_fit b p notes numbers [] at f i q e =
      subst (λ s. Each (λ c. Fits (level s) c.bounds (slot b c.page)) (children_on s)) (at i q e) tt
  children_fit b p notes numbers (s ∷ ss) at f zero q e =
      subst (λ t. Each (λ c. Fits (level t) c.bounds (slot b c.page)) (children_on t)) (at 0 q e)
      (all_both (λ (c : Child). (p < c.page) × (c.page < pages)) (λ (c : Child). note_of (notes_after notes s) c.page ≡ Some (naming (level s) c)) (λ (c : Child). Fits (level s) c.bounds (slot b c.page)) one (children_on s) f.0.after f.0.noted)
    where
      one : (c : Child) → (p < c.page) × (c.page < pages) → note_of (notes_after notes s) c.page ≡ Some (naming (level s) c) → Fits (level s) c.bounds (slot b c.page)
      one c in' is =
          let above = in'.0 in
          let there : p + suc (c.page - (p + 1)) ≡ c.page = omega arith in
          let next : (p + 1) + (c.page - (p + 1)) ≡ c.page = omega arith in
          subst (λ t. Fits (level s) c.bounds t) (at (suc (c.page - (p + 1))) c.page there)
          (noted-fits (p + 1) (notes_after notes s) (numbers_after numbers s) ss f.1 (c.page - (p + 1)) c.page next (naming (level s) c) is)
  children_fit b p notes numbers (s ∷ ss) at f (suc i) q e =
      children_fit b (p + 1) (notes_after notes s) (numbers_after numbers s) ss (λ j k h. at (suc j) k (omega arith)) f.1 i q (omega arith)

  -- a live page but the top was named before, or is named by these slots
  all-reached : (p : ℕ) (notes : Notes) (numbers : List ℕ) (ss : List Slot) → FairFrom pages p notes numbers ss → (i q : ℕ) → p + i ≡ q → IsLive (get_or ss i dead) → (q ≡ 0 → ⊥) → 1 ≤ bit (is_named notes q) + count (names q) (named ss)
  all-reached p notes numbers [] f i q e alive below = absurd alive
  all-reached p notes numbers (s ∷ ss) f zero q e alive below =
      let same : q ≡ p = omega arith in
      let one : is_named notes q ≡ true = ap (is_named notes) same ∙ f.0.reached alive (λ z. below (same ∙ z)) in
      omega (arith, ap bit one)
  all-reached p notes numbers (s ∷ ss) f (suc i) q e alive below =
      omega (arith, all-reached (p + 1) (notes_after notes s) (numbers_after numbers s) ss f.1 i q (omega arith) alive below, f.0.named q, count_append (names q) (children_on s) (named ss))

  all-named-once : (p : ℕ) (notes : Notes) (numbers : List ℕ) (ss : List Slot) → FairFrom pages p notes numbers ss → (q : ℕ) → bit (is_named notes q) + count (names q) (named ss) ≤ 1
  all-named-once p notes numbers [] f q = omega (arith, bit_le (is_named notes q))
  all-named-once p notes numbers (s ∷ ss) f q =
      omega (arith, all-named-once (p + 1) (notes_after notes s) (numbers_after numbers s) ss f.1 q, f.0.named q, count_append (names q) (children_on s) (named ss))

  all-numbered-once : (p : ℕ) (notes : Notes) (numbers : List ℕ) (ss : List Slot) → FairFrom pages p notes numbers ss → (n : ℕ) → bit (occurs n numbers) + count (numbered n) (stations ss) ≤ 1
  all-numbered-once p notes numbers [] f n = omega (arith, bit_le (occurs n numbers))
  all-numbered-once p notes numbers (s ∷ ss) f n =
      omega (arith, all-numbered-once (p + 1) (notes_after notes s) (numbers_after numbers s) ss f.1 n, f.0.once n, count_append (numbered n) (stations_on s) (stations ss))

-- at first nothing is named
pub none_named : (q : ℕ) → is_named no_notes q ≡ false
none_named q = by (cases_lt q 256)
  where
    by : (q < 256) ⊎ (256 ≤ q) → is_named no_notes q ≡ false
    by (inl h) = ap is_some (get_or-replicate {A = Option Naming} 256 q None None h)
    by (inr h) = ap is_some (get_or_past {X = Option Naming} no_notes q None h)

module _ (b : Book) (fair : FairFrom (length b) 0 no_notes [] b) where
  here : (P : ℕ → Slot → Type 0) → ((q : ℕ) → P q dead) → ((p : ℕ) (notes : Notes) (numbers : List ℕ) (s : Slot) → Fair (length b) p notes numbers s → P p s) → (q : ℕ) → P q (slot b q)
  here P past at q = each-place (length b) P past at 0 no_notes [] b fair q q (omega arith)

  fair_lawful : Lawful b
  fair_lawful =
      record {
        levels = here (λ p s. level s ≤ 7) (λ q. omega arith) (λ p notes numbers s f. f.levels);
        sizes = here (λ p s. size s ≤ 12) (λ q. omega arith) (λ p notes numbers s f. f.sizes);
        filled = here Filled (λ q. tt) (λ p notes numbers s f. f.filled);
        after = here (λ p s. Each (λ c. (p < c.page) × (c.page < length b)) (children_on s)) (λ q. tt) (λ p notes numbers s f. f.after);
        fits = λ p. children_fit (length b) b 0 no_notes [] b (λ i q e. let same : i ≡ q = omega arith in ap (slot b) same) fair p p (omega arith);
        reached = λ p alive below. omega (arith, all-reached (length b) 0 no_notes [] b fair p p (omega arith) alive below, ap bit (none_named p));
        named_once = λ p. omega (arith, all-named-once (length b) 0 no_notes [] b fair p);
        ordered = each_part (length b) children_on _ (λ p notes numbers s f. f.ordered) 0 no_notes [] b fair;
        boxes = each_part (length b) children_on _ (λ p notes numbers s f. f.boxes) 0 no_notes [] b fair;
        measures = each_part (length b) stations_on _ (λ p notes numbers s f. f.measures) 0 no_notes [] b fair;
        numbers = each_part (length b) stations_on _ (λ p notes numbers s f. f.positive) 0 no_notes [] b fair;
        numbered_once = λ n. omega (arith, all-numbered-once (length b) 0 no_notes [] b fair n);
      }

module _ (bytes : List ℕ) where
  pub spelled-length : length (spelled_book bytes) ≡ page_count bytes
  unfolding spelled_book
  spelled-length = slots_length 0 no_notes (pages_in bytes) ∙ length-map-range_with_len (page_bytes bytes) 0 (page_count bytes)

  -- a length that is not refused
  pub fair_length : length_fault bytes ≡ None → (1 ≤ page_count bytes) × (page_count bytes ≤ 256)
  fair_length e = grind arith

  -- neither the length nor a page is refused
  pub both_load : length_fault bytes ≡ None → walk_fault (page_count bytes) 0 no_notes [] (pages_in bytes) ≡ None → load_fault bytes ≡ None
  unfolding load_fault
  both_load whole fine = grind arith

  pub spelled-lawful : load_fault bytes ≡ None → Lawful (spelled_book bytes)
  unfolding load_fault spelled_book
  spelled-lawful e =
      let parts = both-pass _ _ e in
      let many = fair_length parts.0 in
      let fit : page_count bytes ≤ 256 = many.1 in
      let same = sym spelled-length in
      fair_lawful (spelled_book bytes) (subst (λ n. FairFrom n 0 no_notes [] (spelled_book bytes)) same (fair_walk (page_count bytes) 0 no_notes [] (pages_in bytes) fit parts.1))
