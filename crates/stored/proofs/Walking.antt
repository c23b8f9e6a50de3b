-- Steps along the pages of a book.
use Rattle.std.proofs.Common.{◌≡◌, ℕ, zero, suc, ◌+◌, ◌*◌, ◌<◌, ◌≤◌, Bool, false, not, List, [], ◌∷◌, ◌++◌, length, get_or, take, drop, set, Some, None, Ok, Err, Option, sym, refl, ap, ◌∙◌, arith}
use Rattle.std.proofs.lemmas.Grind.{common_steps}
use Rattle.std.proofs.lemmas.List.{append_assoc, take_more_set, at_drop_more}
use Rattle.std.proofs.lemmas.List.FromFn.{length-map-range_with_len}
use Rattle.stations.specs.declared.fault.Fault.{Fault}
use Rattle.stations.specs.Faults.{or_else}
use Rattle.books.specs.Books.{is_dead, stations_on}
use Rattle.stored.specs.Layout.{live_slot, level_byte, count_byte, station_at}
use Rattle.stored.specs.Notes.{Notes, notes_after, numbers_after}
use Rattle.stored.specs.Loading.{is_live_at, slot_at, slots_from, visit_fault, walk_fault, marks}
use Rattle.stored.specs.Visits.{visited}

pub visit_passed : (o : Option Fault) (m m' : Bool) → visited o m ≡ Ok m' → (o ≡ None) × (m ≡ m')
visit_passed o m m' e = grind arith

pub visit_failed : (o : Option Fault) (m : Bool) (f : Fault) → visited o m ≡ Err f → o ≡ Some f
visit_failed o m f e = grind arith

-- a page that the bytes spell is not dead
pub spelled-lives : (l : ℕ) (page : List ℕ) → is_dead (live_slot l page) ≡ false
spelled-lives zero page = refl
spelled-lives (suc l) page = refl

pub mark_is : (notes : Notes) (p : ℕ) (page : List ℕ) → not (is_dead (slot_at notes p page)) ≡ is_live_at notes p page
mark_is notes p page = grind (arith, spelled-lives (level_byte page) page)

-- a page holds no more stations than it has entries
stations_few : (l : ℕ) (page : List ℕ) → length (stations_on (live_slot l page)) ≤ count_byte page
stations_few zero page = omega (arith, length-map-range_with_len (λ i. station_at page (8 + 12 * i)) 0 (count_byte page))
stations_few (suc l) page = omega arith

-- and a page that passes has at most 12
pub few_more : (pages p : ℕ) (notes : Notes) (numbers page : List ℕ) → visit_fault pages p notes numbers page ≡ None → length (numbers_after numbers (slot_at notes p page)) ≤ length numbers + 12
few_more pages p notes numbers page e = grind (arith, common_steps, stations_few (level_byte page) page)

module _ (count p : ℕ) (notes : Notes) (numbers : List ℕ) (pages : List (List ℕ)) (below : p < length pages) where
  abbrev pub here : List ℕ
  here = get_or pages p []

  walk_at : walk_fault count p notes numbers (drop p pages)
      ≡ or_else (visit_fault count p notes numbers here) (walk_fault count (p + 1) (notes_after notes (slot_at notes p here)) (numbers_after numbers (slot_at notes p here)) (drop (p + 1) pages))
  walk_at = at_drop_more (walk_fault count p notes numbers) pages p [] below

  pub walk_failed : (f : Fault) → visit_fault count p notes numbers here ≡ Some f → walk_fault count p notes numbers (drop p pages) ≡ Some f
  walk_failed f e = walk_at ∙ ap (λ t. or_else t (walk_fault count (p + 1) (notes_after notes (slot_at notes p here)) (numbers_after numbers (slot_at notes p here)) (drop (p + 1) pages))) e

  pub walk_on : visit_fault count p notes numbers here ≡ None
      → walk_fault count (p + 1) (notes_after notes (slot_at notes p here)) (numbers_after numbers (slot_at notes p here)) (drop (p + 1) pages) ≡ walk_fault count p notes numbers (drop p pages)
  walk_on e = sym (walk_at ∙ ap (λ t. or_else t (walk_fault count (p + 1) (notes_after notes (slot_at notes p here)) (numbers_after numbers (slot_at notes p here)) (drop (p + 1) pages))) e)

  pub marks_on : (marked : List Bool) (m : Bool) → p < length marked → is_live_at notes p here ≡ m
      → take (p + 1) (set marked p m) ++ marks (slots_from (p + 1) (notes_after notes (slot_at notes p here)) (drop (p + 1) pages)) ≡ take p marked ++ marks (slots_from p notes (drop p pages))
  marks_on marked m h e =
      let rest = marks (slots_from (p + 1) (notes_after notes (slot_at notes p here)) (drop (p + 1) pages)) in
      ap (λ front. front ++ rest) (take_more_set marked p m h)
      ∙ append_assoc (take p marked) (m ∷ []) rest
      ∙ ap (λ b. take p marked ++ b ∷ rest) (sym e ∙ sym (mark_is notes p here))
      ∙ sym (at_drop_more (λ ps. take p marked ++ marks (slots_from p notes ps)) pages p [] below)
