-- The pages of a roll, level by level, as they stand in a book.
use Rattle.std.proofs.Common.{◌≡◌, ℕ, zero, suc, ◌+◌, ◌-◌, ◌<◌, ◌≤◌, Bool, ◌&&◌, ltb, leb, List, [], ◌∷◌, ◌++◌, map, length, get_or, sym, ap, ◌∙◌, subst, ap₂, add-zero, arith}
use Rattle.std.specs.List.{range_with_len, AllByRecursion as Each}
use Rattle.std.proofs.lemmas.List.{length-append, get_or_append_left, get_or-append_right}
use Rattle.std.proofs.lemmas.Bool.Decides.{nat_tests}
use Rattle.std.proofs.ByRecursion.{All-append}
use Rattle.std.proofs.lemmas.List.FromFn.{length-map-range_with_len, get_or-map-range_with_len}
use Rattle.stations.specs.declared.station.Station.{Station}
use Rattle.stations.specs.Counting.{bit, count}
use Rattle.books.specs.declared.Child.{Child}
use Rattle.books.specs.Books.{dead, stations_on, children_on, stations, named, names}
use Rattle.rolls.specs.Rolls.{pages_of, child, children, page_at, level_pages, pages_from}
use Rattle.rolls.proofs.Parts.{joined_append, joined_map, joined_none, joined_parts, all-counted}
use Rattle.rolls.proofs.Spans.{spans_all}

-- 1 where p is from low and below high, and else 0
abbrev pub within : ℕ → ℕ → ℕ → ℕ
within low high p = bit (leb low p && ltb p high)

within-join : (low mid high p : ℕ) → low ≤ mid → mid ≤ high → within low mid p + within mid high p ≡ within low high p
within-join low mid high p h k = grind (arith, nat_tests)

pub count_append : {A : Type 0} (t : A → Bool) (xs ys : List A) → count t (xs ++ ys) ≡ count t xs + count t ys
count_append t [] ys = omega arith
count_append t (x ∷ xs) ys = omega (arith, count_append t xs ys)

module _ (row : List Station) where
  abbrev pub pages : ℕ → ℕ
  pages l = pages_of (length row) l

  length-level : (l below : ℕ) → length (level_pages row l below) ≡ pages l
  length-level l below = length-map-range_with_len (page_at row l below) 0 (pages l)

  pub length_from : (l first : ℕ) → length (pages_from row (suc l) first) ≡ pages (suc l) + length (pages_from row l (first + pages (suc l)))
  length_from l first = length-append (level_pages row (suc l) (first + pages (suc l))) (pages_from row l (first + pages (suc l))) ∙ ap (λ n. n + length (pages_from row l (first + pages (suc l)))) (length-level (suc l) (first + pages (suc l)))

  pub level-fits : (l first : ℕ) → pages l ≤ length (pages_from row l first)
  level-fits zero first = omega (arith, length-level 0 (first + pages 0))
  level-fits (suc l) first = omega (arith, length_from l first)

  level-at : (l below i : ℕ) → i < pages l → get_or (level_pages row l below) i dead ≡ page_at row l below i
  level-at l below i h = get_or-map-range_with_len (page_at row l below) 0 (pages l) i i dead h (omega arith)

  -- the first pages are those of level l
  pub first-at : (l first i : ℕ) → i < pages l → get_or (pages_from row l first) i dead ≡ page_at row l (first + pages l) i
  first-at zero first i h = level-at 0 (first + pages 0) i h
  first-at (suc l) first i h =
      get_or_append_left (level_pages row (suc l) (first + pages (suc l))) (pages_from row l (first + pages (suc l))) dead i (rw length-level h)
      ∙ level-at (suc l) (first + pages (suc l)) i h

  -- and the others are those of the levels below
  pub later-at : (l first i : ℕ) → pages (suc l) ≤ i → get_or (pages_from row (suc l) first) i dead ≡ get_or (pages_from row l (first + pages (suc l))) (i - pages (suc l)) dead
  later-at l first i h = get_or-append_right (level_pages row (suc l) (first + pages (suc l))) (pages_from row l (first + pages (suc l))) (pages (suc l)) i dead (length-level (suc l) (first + pages (suc l))) h

  length-children : (l first : ℕ) → length (children row l first) ≡ pages l
  length-children l first = length-map-range_with_len (child row l first) 0 (pages l)

  -- the pages of level l and below hold the row
  pub stations-from : (l first : ℕ) → stations (pages_from row l first) ≡ row
  stations-from zero first = joined_map stations_on (page_at row 0 (first + pages 0)) (range_with_len 0 (pages 0)) ∙ joined_parts 12 (pages 0) row (spans_all (length row) 0)
  stations-from (suc l) first =
      joined_append stations_on (level_pages row (suc l) (first + pages (suc l))) (pages_from row l (first + pages (suc l)))
      ∙ ap₂ ◌++◌ (joined_map stations_on (page_at row (suc l) (first + pages (suc l))) (range_with_len 0 (pages (suc l))) ∙ joined_none (range_with_len 0 (pages (suc l)))) (stations-from l (first + pages (suc l)))

  -- what they name
  named-zero : (first : ℕ) → named (pages_from row 0 first) ≡ []
  named-zero first = joined_map children_on (page_at row 0 (first + pages 0)) (range_with_len 0 (pages 0)) ∙ joined_none (range_with_len 0 (pages 0))

  named_more : (l first : ℕ) → named (pages_from row (suc l) first) ≡ children row l (first + pages (suc l)) ++ named (pages_from row l (first + pages (suc l)))
  named_more l first =
      joined_append children_on (level_pages row (suc l) (first + pages (suc l))) (pages_from row l (first + pages (suc l)))
      ∙ ap (λ cs. cs ++ named (pages_from row l (first + pages (suc l)))) (joined_map children_on (page_at row (suc l) (first + pages (suc l))) (range_with_len 0 (pages (suc l))) ∙ joined_parts 12 (pages (suc l)) (children row l (first + pages (suc l))) (rw length-children (omega arith)))

  count-children : (l first a n p : ℕ) → count (names p) (map (child row l first) (range_with_len a n)) ≡ within (first + a) (first + a + n) p
  count-children l first a zero p = grind (arith, nat_tests)
  count-children l first a (suc n) p = let rest = count-children l first (a + 1) n p in grind (arith, nat_tests)

  -- each page but those of level l is named once, and no other
  pub count-named : (l first p : ℕ) → count (names p) (named (pages_from row l first)) ≡ within (first + pages l) (first + length (pages_from row l first)) p
  count-named zero first p = ap (count (names p)) (named-zero first) ∙ rw length-level (grind (arith, nat_tests))
  count-named (suc l) first p =
      let below = first + pages (suc l) in
      ap (count (names p)) (named_more l first)
      ∙ count_append (names p) (children row l below) (named (pages_from row l below))
      ∙ ap₂ ◌+◌ (count-children l below 0 (pages l) p) (count-named l below p)
      ∙ ap₂ (λ a high. within a high p + within (below + pages l) (below + length (pages_from row l below)) p) (add-zero below) (ap (λ t. t + pages l) (add-zero below))
      ∙ within-join below (below + pages l) (below + length (pages_from row l below)) p (omega arith) (omega (arith, level-fits l below))
      ∙ ap (λ high. within below high p) (omega (arith, length_from l first))

  -- what holds of every page that a level names holds of all that is named
  pub all_named : (Q : Child → Type 0) (R : ℕ → ℕ → Type 0) → ((l first : ℕ) → R (suc l) first → R l (first + pages (suc l))) → ((l first i : ℕ) → R l first → i < pages l → Q (child row l first i)) → (l first : ℕ) → R l first → Each Q (named (pages_from row l first))
  all_named Q R step each zero first r = subst (Each Q) (sym (named-zero first)) tt
  all_named Q R step each (suc l) first r =
      let below = first + pages (suc l) in
      subst (Each Q) (sym (named_more l first)) (All-append Q (children row l below) (named (pages_from row l below)) (all-counted Q (child row l below) 0 (pages l) (λ i low high. each l below i (step l first r) (omega arith))) (all_named Q R step each l below (step l first r)))
