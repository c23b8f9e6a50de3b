-- How many pages a row makes.
use Rattle.std.proofs.Common.{◌≡◌, ℕ, zero, suc, ◌+◌, ◌-◌, ◌<◌, ◌≤◌, Bool, true, false, List, length, refl, ap, ◌∙◌, arith}
use Rattle.std.specs.List.{range_with_len, sum_by}
use Rattle.std.specs.Range.{range_inclusive_len, range_inclusive_left, range_inclusive_steps}
use Rattle.std.specs.declared.ops.RangeInclusive.{RangeInclusive}
use Rattle.std.specs.Iterator.{AlwaysYields}
use Rattle.std.proofs.lemmas.Iterator.{YieldsList}
use Rattle.std.proofs.lemmas.List.FromFn.{length-map-range_with_len}
use Rattle.stations.specs.declared.station.Station.{Station}
use Rattle.rolls.specs.Rolls.{pages_of, top_level, page_at, pages_from, roll_book, page_count, pages_to}
use Rattle.rolls.specs.Laws.{Makes, RowsMakePages}
use Rattle.rolls.proofs.Spans.{at_top}
use Rattle.rolls.proofs.Pages.{length_from}

length-pages : (row : List Station) (l first : ℕ) → length (pages_from row l first) ≡ pages_to (length row) l
length-pages row zero first = length-map-range_with_len (page_at row 0 (first + pages_of (length row) 0)) 0 (pages_of (length row) 0)
length-pages row (suc l) first = length_from row l first ∙ ap (λ n. pages_of (length row) (suc l) + n) (length-pages row l (first + pages_of (length row) (suc l)))

pub length_roll : (row : List Station) → length (roll_book row) ≡ page_count (length row)
length_roll row = length-pages row (top_level (length row)) 0

makes : (n : ℕ) → Makes n (page_count n)
makes n row e = length_roll row ∙ ap page_count e

pub rows_make_pages : RowsMakePages
rows_make_pages = (makes 0, makes 1, makes 12, makes 13, makes 144, makes 145, makes 1152)

pub count-some : (n : ℕ) → 1 ≤ page_count n
count-some n = at_top n (λ l. 1 ≤ pages_to n l) (λ _. omega arith) (λ _ _. omega arith) (λ _. omega arith)

pub count-few : (n : ℕ) → n ≤ 1152 → page_count n ≤ 105
count-few n h = at_top n (λ l. pages_to n l ≤ 105) (λ _. omega arith) (λ _ _. omega arith) (λ _. omega arith)

-- the numbers of an inclusive range come in turn
abbrev pub gap : ℕ → ℕ → ℕ
gap x y = y - x

abbrev pub follows : ℕ → ℕ → Type 0
follows x y = y ≡ x + 1

not-spent : (x y : ℕ) (t : Bool) → 0 < range_inclusive_len gap x y t → t ≡ false
not-spent x y true h = absurd (omega (arith, h))
not-spent x y false h = refl

upto : (s : RangeInclusive ℕ) (a n : ℕ) → range_inclusive_left gap s ≡ n → (0 < n → s.start ≡ a) → AlwaysYields (range_inclusive_steps gap follows) (λ x. x) s (range_with_len a n)
upto s a zero e st = λ x j p. omega (arith, p.1.1, e)
upto s a (suc n) e st = (
  (λ j p. omega (arith, p.1.0, e)),
  λ x j p.
      let left : range_inclusive_left gap j ≡ n = omega (arith, p.1.1, e) in
      let first : s.start ≡ a = st (omega arith) in
      (p.1.0 ∙ first, upto j (a + 1) n left (λ some. omega (arith, first, p.1.2 (not-spent j.start j.end j.exhausted (omega (arith, some, left)))))),
)

pub levels_come : (s : RangeInclusive ℕ) (top : ℕ) → s.start ≡ 0 → s.end ≡ top → s.exhausted ≡ false → YieldsList (range_inclusive_steps gap follows) (λ x. x) s (range_with_len 0 (top + 1))
levels_come s top e f g = record { runs = upto s 0 (top + 1) (ap (range_inclusive_len gap s.start s.end) g ∙ omega (arith, e, f)) (λ _. e) }

-- the pages of the levels up to the top are all the pages
pub levels-sum : (n : ℕ) → sum_by (pages_of n) (range_with_len 0 (top_level n + 1)) ≡ page_count n
levels-sum n = at_top n (λ l. sum_by (pages_of n) (range_with_len 0 (l + 1)) ≡ pages_to n l) (λ _. omega arith) (λ _ _. omega arith) (λ _. omega arith)
