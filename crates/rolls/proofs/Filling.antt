-- Filling the entries of a page, and cutting a row.
use Rattle.std.proofs.Common.{◌≡◌, ℕ, zero, suc, ◌+◌, ◌-◌, ◌<◌, ◌≤◌, min, List, [], ◌∷◌, ◌++◌, map, length, get_or, take, drop, ◌*◌, subst, sym, ap, ◌∙◌, ap₂, ⊎_elim, arith}
use Rattle.std.proofs.lemmas.List.{length-drop, map-append, get_or-drop, take_all, take_more}
use Rattle.std.proofs.lemmas.Bool.{cases_lt}
use Rattle.stations.specs.declared.station.Station.{Station}
use Rattle.books.specs.declared.Entry.TheVariants as entries
use Rattle.sources.specs.declared.page.Page.{Page}
use Rattle.sources.specs.Sources.{Shows}
use Rattle.rolls.specs.Rolls.{part, pages_of, children, page_at}

module _ {A : Type 0} where
  -- as many as there are, at most k
  pub take_min : (m k : ℕ) (xs : List A) → m ≡ min (length xs) k → take m xs ≡ take k xs
  take_min m k xs e =
      ⊎_elim (λ (short : length xs < k). take_all m xs (omega arith) ∙ sym (take_all k xs (omega arith))) (λ (long : k ≤ length xs). ap (λ j. take j xs) (omega arith)) (cases_lt (length xs) k)

  -- one more element of those from a place on
  pub one_more : {B : Type 0} (f : A → B) (xs : List A) (from i : ℕ) (v d : A) (ys : List B) → from + i < length xs → v ≡ get_or xs (from + i) d → ys ≡ map f (take i (drop from xs)) → ys ++ f v ∷ [] ≡ map f (take (i + 1) (drop from xs))
  one_more f xs from i v d ys l e inv =
      let here : i < length (drop from xs) = rw length-drop (omega arith) in
      ap₂ (λ t w. t ++ f w ∷ []) inv (e ∙ sym (get_or-drop from xs i d))
      ∙ sym (map-append f (take i (drop from xs)) (get_or (drop from xs) i d ∷ []))
      ∙ ap (map f) (sym (take_more (drop from xs) i d here))

-- a page that names pages of the level below, by its entries
pub shows-node : (row : List Station) (l below i : ℕ) (page : Page) → 0 < l → page.level ≡ l → take page.len page.entries ≡ map entries.Page (part 12 (children row (l - 1) below) i) → Shows (page_at row l below i) page
shows-node row zero below i page h level shown = absurd (omega arith)
shows-node row (suc l) below i page h level shown = record {
  levels = level;
  shown = shown ∙ ap (λ m. map entries.Page (part 12 (children row m below) i)) {x = suc l - 1} {y = l} (omega arith);
}

-- a page above level 0 has a page below it
pub some-below : (n l i : ℕ) → 0 < l → i < pages_of n l → i * 12 < pages_of n (l - 1)
some-below n zero i h there = absurd (omega arith)
some-below n (suc l) i h there = subst (λ m. i * 12 < pages_of n m) {x = l} {y = suc l - 1} (omega arith) (omega (arith, there))
