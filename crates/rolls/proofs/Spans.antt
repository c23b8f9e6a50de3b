-- How many pages a level has, and what each of them holds.
use Rattle.std.proofs.Common.{◌≡◌, ℕ, zero, suc, ◌+◌, ◌*◌, ◌/◌, ◌%◌, ◌<◌, ◌≤◌, min, max, cond, eqb, List, [], length, sym, refl, ◌∙◌, subst, ⊎_elim, mul-le-mul_right, mul_assoc, suc-mul, add-mul, arith}
use Rattle.std.specs.List.{AllByRecursion as Each}
use Rattle.std.proofs.lemmas.List.{nil_from_length}
use Rattle.std.proofs.lemmas.Bool.{cases_lt, cond_both, eqb-true, eqb-false}
use Rattle.std.proofs.ByRecursion.{All-weaker}
use Rattle.stations.specs.declared.station.Station.{Station}
use Rattle.books.specs.Books.{IsLive, Inside, Nested, Fits}
use Rattle.rolls.specs.Boxes.{around}
use Rattle.rolls.specs.Rolls.{part, span, pages_of, top_level, child, page_at}
use Rattle.rolls.specs.Laws.{LeastOf}
use Rattle.rolls.proofs.Around.{inside_nested, around-holds, around-least}
use Rattle.rolls.proofs.Parts.{joined_parts, length_part, part-of-part, all-part, all_joined, all-counted-part, counted-part-all}

pub span-some : (l : ℕ) → 1 ≤ span l
span-some zero = omega arith
span-some (suc l) = omega (arith, span-some l)

-- the pages of a level span the row
pub spans_all : (n l : ℕ) → n ≤ pages_of n l * span l
spans_all n zero = omega arith
spans_all n (suc l) =
    let wide : pages_of n l * span l ≤ (pages_of n l + 11) / 12 * 12 * span l = mul-le-mul_right (span l) (omega arith) in
    omega (arith, wide, spans_all n l, mul_assoc ((pages_of n l + 11) / 12) 12 (span l))

-- and the last of them spans some of it
pub spans_no_more : (n l : ℕ) → 1 ≤ n → pages_of n l * span l < n + span l
spans_no_more n zero h = omega arith
spans_no_more n (suc l) h =
    let wide : (pages_of n l + 11) / 12 * 12 * span l ≤ (pages_of n l + 11) * span l = mul-le-mul_right (span l) (omega arith) in
    omega (arith, wide, spans_no_more n l h, mul_assoc ((pages_of n l + 11) / 12) 12 (span l), add-mul (pages_of n l) 11 (span l))

-- a level's pages are as many as its spans in the row
pub pages-by-span : (n l : ℕ) → l ≤ 2 → max (n / span l + min 1 (n % span l)) 1 ≡ pages_of n l
pages-by-span n zero h = omega arith
pages-by-span n (suc zero) h = omega arith
pages-by-span n (suc (suc zero)) h = omega arith
pages-by-span n (suc (suc (suc l))) h = absurd (omega arith)

-- a page begins inside the row
pub starts-inside : (n l i s : ℕ) → 1 ≤ n → i < pages_of n l → s ≡ span l → i * s < n
starts-inside n l i s some h e = rw e (omega (arith, spans_no_more n l some, mul-le-mul_right (span l) h, suc-mul i (span l)))

-- a row has few pages of any level
pub few-pages : (n l : ℕ) → n ≤ 1152 → pages_of n l ≤ 96
few-pages n zero h = omega arith
few-pages n (suc l) h = omega (arith, few-pages n l h)

-- what the top is, by cases
pub at_top : (n : ℕ) (P : ℕ → Type 0) → (pages_of n 0 ≡ 1 → P 0) → ((pages_of n 0 ≡ 1 → ⊥) → pages_of n 1 ≡ 1 → P 1) → ((pages_of n 1 ≡ 1 → ⊥) → P 2) → P (top_level n)
at_top n P zeroth first second =
    cond_both (eqb (pages_of n 0) 1) 0 (cond (eqb (pages_of n 1) 1) 1 2) P (λ e. zeroth (eqb-true (pages_of n 0) 1 e)) (λ e. cond_both (eqb (pages_of n 1) 1) 1 2 P (λ d. first (eqb-false (pages_of n 0) 1 e) (eqb-true (pages_of n 1) 1 d)) (λ d. second (eqb-false (pages_of n 1) 1 d)))

pub top-low : (n : ℕ) → top_level n ≤ 2
top-low n = at_top n (λ l. l ≤ 2) (λ _. omega arith) (λ _ _. omega arith) (λ _. omega arith)

pub top-single : (n : ℕ) → n ≤ 1152 → pages_of n (top_level n) ≡ 1
top-single n h = at_top n (λ l. pages_of n l ≡ 1) (λ e. e) (λ _ e. e) (λ ne. omega arith)

module _ (row : List Station) where
  -- past the last page there is nothing
  nothing_past : (l i : ℕ) → pages_of (length row) l ≤ i → part (span l) row i ≡ []
  nothing_past l i h =
      nil_from_length (part (span l) row i) (length_part (span l) row i ∙ omega (arith, spans_all (length row) l, mul-le-mul_right (span l) h))

  module _ (some : 1 ≤ length row) where
    pub part-some : (l i : ℕ) → i < pages_of (length row) l → 1 ≤ length (part (span l) row i)
    part-some l i h =
        rw length_part (omega (arith, span-some l, starts-inside (length row) l i (span l) some h refl))

    -- a page's box is the least one around what stands on it
    pub page-least : (l below i : ℕ) → i < pages_of (length row) l → LeastOf (around (part (span l) row i)) (page_at row l below i)
    page-least zero below i h = record { holds = around-holds (part 12 row i); least = λ other k. around-least (part 12 row i) other (part-some 0 i h) k }
    page-least (suc l) below i h = record {
      holds = all-counted-part (child row l below) 12 (pages_of (length row) l) i (λ c. Nested c.bounds (around whole)) (λ j few here.
          around-least (part (span l) row (i * 12 + j)) (around whole) (part-some l (i * 12 + j) here) (subst (Each (λ s. Inside s.at (around whole))) (part-of-part (span l) 12 row i j few) (all-part _ (span l) whole j (around-holds whole))));
      least = λ other k. around-least whole other (part-some (suc l) i h) (subst (Each (λ s. Inside s.at other)) (joined_parts (span l) 12 whole (rw length_part (omega arith))) (all_joined _ (part (span l) whole) 0 12 (λ j low high.
          subst (Each (λ s. Inside s.at other)) (sym (part-of-part (span l) 12 row i j high)) (⊎_elim (λ here.
          All-weaker _ _ (λ s m. inside_nested s.at (around (part (span l) row (i * 12 + j))) other m (counted-part-all (child row l below) 12 (pages_of (length row) l) i (λ c. Nested c.bounds other) k j high here)) (part (span l) row (i * 12 + j)) (around-holds (part (span l) row (i * 12 + j)))) (λ past.
          subst (Each (λ s. Inside s.at other)) (sym (nothing_past l (i * 12 + j) past)) tt) (cases_lt (i * 12 + j) (pages_of (length row) l))))));
    }
      where
        whole : List Station
        whole = part (span (suc l)) row i

    pub page-fits : (l below i : ℕ) → i < pages_of (length row) l → Fits (suc l) (around (part (span l) row i)) (page_at row l below i)
    page-fits zero below i h = (refl, (page-least zero below i h).holds)
    page-fits (suc l) below i h = (refl, (page-least (suc l) below i h).holds)

pub page-live : (row : List Station) (l below i : ℕ) → IsLive (page_at row l below i)
page-live row zero below i = tt
page-live row (suc l) below i = tt
