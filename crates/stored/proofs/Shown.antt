-- What reading a page gives.
use Rattle.std.proofs.Common.{◌≡◌, ℕ, zero, suc, ◌+◌, ◌*◌, ◌<◌, ◌≤◌, Bool, true, false, not, ◌⊎◌, List, [], ◌∷◌, length, map, get_or, take, Ok, Err, MatchBool, Result, sym, refl, ap, subst, inl, arith}
use Rattle.std.specs.List.{range_with_len}
use Rattle.std.proofs.lemmas.Grind.{common_steps}
use Rattle.std.proofs.lemmas.Simd.{map-map}
use Rattle.std.proofs.lemmas.Bool.{lt-ltb}
use Rattle.std.proofs.lemmas.List.FromFn.{get_or-map-range_with_len, length-map-range_with_len}
use Rattle.stations.specs.declared.fault.Fault.{Fault}
use Rattle.stations.specs.declared.fault.Code.TheVariants.{PageNumber}
use Rattle.stations.specs.Faults.{fault}
use Rattle.books.specs.declared.Entry.TheVariants as entry
use Rattle.books.specs.Books.{dead, entries_on, slot, level, size, is_dead, Lawful}
use Rattle.sources.specs.declared.page.Page.{Page}
use Rattle.sources.specs.Sources.{Shows, Gives, Reads}
use Rattle.stored.specs.Layout.{level_byte, count_byte, station_at, child_at, live_slot, live}
use Rattle.stored.specs.Notes.{Notes, no_notes, notes_after}
use Rattle.stored.specs.Loading.{page_count, page_bytes, pages_in, slot_at, slots_from, spelled_book, marks}
use Rattle.stored.specs.Showing.{entry_at}

pub level_is : (lv : ℕ) (page : List ℕ) → level (live_slot lv page) ≡ lv
level_is zero page = refl
level_is (suc l) page = refl

-- the entries of the slot, by place
pub entries_are : (lv : ℕ) (page : List ℕ) → entries_on (live_slot lv page) ≡ map (entry_at lv page) (range_with_len 0 (count_byte page))
entries_are zero page = map-map entry.Station (λ i. station_at page (8 + 12 * i)) (range_with_len 0 (count_byte page))
entries_are (suc l) page = map-map entry.Page (λ i. child_at page (8 + 18 * i)) (range_with_len 0 (count_byte page))

pub size_is : (lv : ℕ) (page : List ℕ) → size (live_slot lv page) ≡ count_byte page
size_is zero page = length-map-range_with_len (λ i. station_at page (8 + 12 * i)) 0 (count_byte page)
size_is (suc l) page = length-map-range_with_len (λ i. child_at page (8 + 18 * i)) 0 (count_byte page)

gives-live : (p lv : ℕ) (page : List ℕ) (given : Page) → Shows (live_slot lv page) given → Gives p (live_slot lv page) (Ok given)
gives-live p zero page given h = h
gives-live p (suc l) page given h = h

-- a slot is dead, or it is what the bytes of its page spell
slots_are : (p : ℕ) (notes : Notes) (rest : List (List ℕ)) (i : ℕ) → (get_or (slots_from p notes rest) i dead ≡ dead) ⊎ (get_or (slots_from p notes rest) i dead ≡ live (get_or rest i []))
slots_are p notes [] i = inl refl
slots_are p notes (page ∷ rest) zero = grind arith
slots_are p notes (page ∷ rest) (suc i) = slots_are (p + 1) (notes_after notes (slot_at notes p page)) rest i

module _ (bytes : List ℕ) (p : ℕ) (below : p < page_count bytes) where
  spelled_at : (slot (spelled_book bytes) p ≡ dead) ⊎ (slot (spelled_book bytes) p ≡ live (page_bytes bytes p))
  unfolding spelled_book
  spelled_at = subst (λ page. (slot (spelled_book bytes) p ≡ dead) ⊎ (slot (spelled_book bytes) p ≡ live page)) (get_or-map-range_with_len (page_bytes bytes) 0 (page_count bytes) p p [] below (omega arith)) (slots_are 0 no_notes (pages_in bytes) p)

  pub slot-live : not (is_dead (slot (spelled_book bytes) p)) ≡ true → slot (spelled_book bytes) p ≡ live (page_bytes bytes p)
  slot-live e = grind (arith, spelled_at)

  -- what the mark says
  pub mark_at : (marked : List Bool) → length (spelled_book bytes) ≡ page_count bytes → take (page_count bytes) marked ≡ marks (spelled_book bytes) → get_or marked p false ≡ not (is_dead (slot (spelled_book bytes) p))
  mark_at marked sized e = grind (arith, common_steps)

  reads-below : (r : Result Page Fault) → Gives p (slot (spelled_book bytes) p) r → Reads (spelled_book bytes) (page_count bytes) p r
  reads-below r g = subst (λ t. MatchBool t (Gives p (slot (spelled_book bytes) p) r) (r ≡ Err (fault PageNumber p 0))) (sym (lt-ltb p (page_count bytes) below)) g

  module _ (alive : not (is_dead (slot (spelled_book bytes) p)) ≡ true) where
    pub reads_live : (given : Page) → Shows (live (page_bytes bytes p)) given → Reads (spelled_book bytes) (page_count bytes) p (Ok given)
    reads_live given h = reads-below (Ok given) (subst (λ s. Gives p s (Ok given)) (sym (slot-live alive)) (gives-live p (level_byte (page_bytes bytes p)) (page_bytes bytes p) given h))

    -- a live page has at most 12 entries
    pub few_entries : Lawful (spelled_book bytes) → count_byte (page_bytes bytes p) ≤ 12
    few_entries lawful = omega (arith, lawful.sizes p, ap size (slot-live alive), size_is (level_byte (page_bytes bytes p)) (page_bytes bytes p))
