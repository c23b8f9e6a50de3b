-- A sound row makes a lawful and whole book of least boxes.
use Rattle.std.proofs.Common.{◌≡◌, ℕ, zero, suc, ◌+◌, ◌-◌, ◌*◌, ◌<◌, ◌≤◌, List, [], ◌∷◌, length, get_or, sym, refl, ap, ◌∙◌, subst, ap₂, ⊎_elim, zero-add, arith}
use Rattle.std.specs.List.{AllByRecursion as Each}
use Rattle.std.proofs.lemmas.List.{get_or_past}
use Rattle.std.proofs.lemmas.Bool.{cases_lt}
use Rattle.std.proofs.lemmas.Bool.Decides.{nat_tests}
use Rattle.std.proofs.ByRecursion.{All-weaker}
use Rattle.std.proofs.lemmas.List.FromFn.{length-map-range_with_len}
use Rattle.stations.specs.declared.station.Station.{Station}
use Rattle.stations.specs.Beating.{Ordinary, ◌≼◌}
use Rattle.stations.specs.Counting.{count}
use Rattle.books.specs.declared.Child.{Child}
use Rattle.books.specs.Books.{Slot, dead, leaf, Book, slot, level, children_on, size, stations, named, names, IsLive, Fits, Filled, Lawful, Whole}
use Rattle.rolls.specs.Boxes.{around}
use Rattle.rolls.specs.Rolls.{part, span, top_level, child, page_at, pages_from, roll_book}
use Rattle.rolls.specs.Laws.{LeastOf, LeastBoxes, Sound, RollLaws, RowsMakeBooks}
use Rattle.rolls.proofs.Around.{around-ordered, around-high}
use Rattle.rolls.proofs.Parts.{length_part, all-part, all-counted-part}
use Rattle.rolls.proofs.Spans.{top-low, top-single, part-some, page-least, page-fits, page-live}
use Rattle.rolls.proofs.Pages.{within, pages, length_from, level-fits, first-at, later-at, stations-from, count-named, all_named}

-- what the laws of a book ask of one page
record Good (b : Book) (p : ℕ) (s : Slot) : Type 0 where
  levels : level s ≤ 7
  sizes : size s ≤ 12
  filled : Filled p s
  after : Each (λ c. (p < c.page) × (c.page < length b)) (children_on s)
  fits : Each (λ c. Fits (level s) c.bounds (slot b c.page)) (children_on s)

-- a place that the book does not have asks nothing
good-dead : (b : Book) (p : ℕ) → Good b p dead
good-dead b p = record { levels = omega arith; sizes = omega arith; filled = tt; after = tt; fits = tt }

good-everywhere : (b : Book) → ((k : ℕ) → k < length b → Good b k (slot b k)) → (p : ℕ) → Good b p (slot b p)
good-everywhere b each p = ⊎_elim (each p) (λ past. subst (Good b p) (sym (get_or_past b p dead past)) (good-dead b p)) (cases_lt p (length b))

-- what they ask of a page that is named
record Kept (b : Book) (c : Child) : Type 0 where
  live : IsLive (slot b c.page)
  least : LeastOf c.bounds (slot b c.page)
  ordered : c.bounds.low ≼ c.bounds.high
  high : Ordinary c.bounds.high

-- that is all that they ask, where each page but the top is named once and no other
module _ (b : Book) (top : IsLive (slot b 0)) (good : (p : ℕ) → Good b p (slot b p)) (kept : Each (Kept b) (named b)) (counted : (p : ℕ) → count (names p) (named b) ≡ within 1 (length b) p) where
  whole : Whole b
  whole = record { top = top; rest = All-weaker (Kept b) _ (λ c k. k.live) (named b) kept }

  least-boxes : LeastBoxes b
  least-boxes = All-weaker (Kept b) _ (λ c k. k.least) (named b) kept

  reached : (p : ℕ) → IsLive (slot b p) → (p ≡ 0 → ⊥) → 1 ≤ count (names p) (named b)
  reached p live ne =
      ⊎_elim (λ (here : p < length b). rw counted (grind (arith, nat_tests))) (λ past. absurd (subst IsLive (get_or_past b p dead past) live)) (cases_lt p (length b))

  lawful : (row : List Station) → Sound row → stations b ≡ row → Lawful b
  lawful row sound same = record {
    levels = λ p. (good p).levels;
    sizes = λ p. (good p).sizes;
    filled = λ p. (good p).filled;
    after = λ p. (good p).after;
    fits = λ p. (good p).fits;
    reached = reached;
    named_once = λ p. rw counted (grind (arith, nat_tests));
    ordered = All-weaker (Kept b) _ (λ c k. k.ordered) (named b) kept;
    boxes = All-weaker (Kept b) _ (λ c k. k.high) (named b) kept;
    measures = rw same sound.measures;
    numbers = rw same sound.numbers;
    numbered_once = rw same sound.numbered_once;
  }

module _ (row : List Station) (some : 1 ≤ length row) (measured : Each (λ s. Ordinary s.at) row) (b : Book) where
  -- the end of the book is the pages of level l and below, from the page number first
  record Ends (l first : ℕ) : Type 0 where
    at : (k : ℕ) → k < length (pages_from row l first) → slot b (first + k) ≡ get_or (pages_from row l first) k dead
    long : first + length (pages_from row l first) ≡ length b

  ends-below : (l first : ℕ) → Ends (suc l) first → Ends l (first + pages row (suc l))
  ends-below l first e = record {
    at = λ k h.
        ap (slot b) (omega arith)
        ∙ e.at (pages row (suc l) + k) (rw length_from (omega arith))
        ∙ later-at row l first (pages row (suc l) + k) (omega arith)
        ∙ ap (λ i. get_or (pages_from row l (first + pages row (suc l))) i dead) (omega arith);
    long = omega (arith, e.long, length_from row l first);
  }

  slot_at : (l first i : ℕ) → Ends l first → i < pages row l → slot b (first + i) ≡ page_at row l (first + pages row l) i
  slot_at l first i e h = e.at i (omega (arith, level-fits row l first)) ∙ first-at row l first i h

  kept : (l first i : ℕ) → Ends l first → i < pages row l → Kept b (child row l first i)
  kept l first i e h = record {
    live = subst IsLive (sym (slot_at l first i e h)) (page-live row l (first + pages row l) i);
    least = subst (LeastOf (around (part (span l) row i))) (sym (slot_at l first i e h)) (page-least row some l (first + pages row l) i h);
    ordered = around-ordered (part (span l) row i) (part-some row some l i h);
    high = around-high (part (span l) row i) (part-some row some l i h) (all-part (λ s. Ordinary s.at) (span l) row i measured);
  }

  all-kept : (l first : ℕ) → Ends l first → Each (Kept b) (named (pages_from row l first))
  all-kept = all_named row (Kept b) Ends ends-below kept

  good-leaf : (p i : ℕ) → i < pages row 0 → Good b p (leaf (part 12 row i))
  good-leaf p i h = record { levels = omega arith; sizes = rw length_part (omega arith); filled = λ e. absurd (omega (arith, part-some row some 0 i h)); after = tt; fits = tt }

  good-node : (l p below i : ℕ) → l ≤ 1 → p < below → Ends l below → i < pages row (suc l) → Good b p (page_at row (suc l) below i)
  good-node l p below i low before e h = record {
    levels = omega arith;
    sizes = rw length_part (omega arith);
    filled = rw (length_part, length-map-range_with_len) (omega arith);
    after = all-counted-part (child row l below) 12 (pages row l) i (λ c. (p < c.page) × (c.page < length b)) (λ j few here. (omega arith, omega (arith, e.long, level-fits row l below)));
    fits = all-counted-part (child row l below) 12 (pages row l) i (λ c. Fits (suc l) c.bounds (slot b c.page)) (λ j few here.
        subst (Fits (suc l) (around (part (span l) row (i * 12 + j)))) (sym (slot_at l below (i * 12 + j) e here)) (page-fits row some l (below + pages row l) (i * 12 + j) here));
  }

  good-pages : (l first : ℕ) → l ≤ 2 → Ends l first → (k : ℕ) → k < length (pages_from row l first) → Good b (first + k) (get_or (pages_from row l first) k dead)
  good-pages zero first low e k h =
      let here : k < pages row 0 = omega (arith, length-map-range_with_len (page_at row 0 (first + pages row 0)) 0 (pages row 0)) in
      subst (Good b (first + k)) (sym (first-at row 0 first k here)) (good-leaf (first + k) k here)
  good-pages (suc l) first low e k h =
      ⊎_elim (λ here. subst (Good b (first + k)) (sym (first-at row (suc l) first k here)) (good-node l (first + k) (first + pages row (suc l)) k (omega arith) (omega arith) (ends-below l first e) here)) (λ past.
      let q = k - pages row (suc l) in
      let number : first + pages row (suc l) + q ≡ first + k = omega arith in
      let rest = good-pages l (first + pages row (suc l)) (omega arith) (ends-below l first e) q (omega (arith, length_from row l first)) in
      subst (Good b (first + k)) (sym (later-at row l first k past)) (subst (λ n. Good b n (get_or (pages_from row l (first + pages row (suc l))) q dead)) number rest)) (cases_lt k (pages row (suc l)))

empty_laws : Sound [] → RollLaws []
empty_laws sound = record { lawful = lawful (roll_book []) tt good tt counted [] sound refl; whole = whole (roll_book []) tt good tt counted; least = tt; same = refl }
  where
    good : (p : ℕ) → Good (roll_book []) p (slot (roll_book []) p)
    good zero = record { levels = omega arith; sizes = omega arith; filled = λ _. refl; after = tt; fits = tt }
    good (suc p) = good-dead (roll_book []) (suc p)

    counted : (p : ℕ) → 0 ≡ within 1 1 p
    counted p = grind (arith, nat_tests)

row_laws : (row : List Station) → Sound row → 1 ≤ length row → RollLaws row
row_laws row sound some = record {
  lawful = lawful book top good kept-all counted row sound (stations-from row level-top 0);
  whole = whole book top good kept-all counted;
  least = least-boxes book top good kept-all counted;
  same = stations-from row level-top 0;
}
  where
    level-top : ℕ
    level-top = top_level (length row)

    book : Book
    book = roll_book row

    ends : Ends row some sound.measures book level-top 0
    ends = record { at = λ k h. ap (slot book) (zero-add k); long = zero-add (length book) }

    single : pages row level-top ≡ 1
    single = top-single (length row) sound.few

    top : IsLive (slot book 0)
    top = subst IsLive (sym (first-at row level-top 0 0 (omega (arith, single)))) (page-live row level-top (0 + pages row level-top) 0)

    good : (p : ℕ) → Good book p (slot book p)
    good = good-everywhere book (λ k h. subst (λ n. Good book n (slot book k)) (zero-add k) (good-pages row some sound.measures book level-top 0 (top-low (length row)) ends k h))

    kept-all : Each (Kept book) (named book)
    kept-all = all-kept row some sound.measures book level-top 0 ends

    counted : (p : ℕ) → count (names p) (named book) ≡ within 1 (length book) p
    counted p = count-named row level-top 0 p ∙ ap₂ (λ low high. within low high p) (omega (arith, single)) (zero-add (length book))

pub rows_make_books : RowsMakeBooks
rows_make_books [] sound = empty_laws sound
rows_make_books (s ∷ ss) sound = row_laws (s ∷ ss) sound (omega arith)
