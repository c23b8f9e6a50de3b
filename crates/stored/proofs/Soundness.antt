-- Bytes that spell a lawful book are not refused, and the other way round.
use Rattle.std.proofs.Common.{◌≡◌, ℕ, zero, suc, ◌+◌, ◌%◌, ◌<◌, ◌≤◌, Bool, true, false, cond, not, ◌&&◌, ◌||◌, eqb, List, [], ◌∷◌, ◌++◌, map, length, get_or, is_ok, Some, None, Decides, Option, Result, sym, refl, ap, ◌∙◌, subst, arith}
use Rattle.std.specs.List.{flat_map, AllByRecursion as Each}
use Rattle.std.proofs.lemmas.Bool.{and_from}
use Rattle.std.proofs.lemmas.Grind.{common_steps}
use Rattle.std.proofs.lemmas.List.Folds.{list_any-append}
use Rattle.std.proofs.ByRecursion.{All-weaker}
use Rattle.std.proofs.lemmas.List.FromFn.{get_or-map-range_with_len}
use Rattle.stations.specs.declared.fault.Fault.{Fault}
use Rattle.stations.specs.declared.measures.Measures.{Measures}
use Rattle.stations.specs.declared.station.Station.{Station}
use Rattle.stations.specs.Faults.{verdict}
use Rattle.stations.specs.Beating.{◌≼◌, at_most}
use Rattle.stations.specs.Counting.{bit, count}
use Rattle.books.specs.declared.Child.{Child}
use Rattle.books.specs.Books.{Slot, dead, Book, slot, level, size, stations_on, children_on, stations, named, IsLive, Inside, Nested, Fits, Filled, names, numbered, Lawful}
use Rattle.stored.specs.declared.naming.Naming.{Naming}
use Rattle.stored.specs.Layout.{level_byte, count_byte, is_padded, stations_in, children_in, live_slot, live}
use Rattle.stored.specs.Notes.{Notes, no_notes, note_of, is_named, note_one, note_all, occurs, notes_after, numbers_after}
use Rattle.stored.specs.Checks.{is_fair_header, is_below, is_within, child_fault, children_fault, stations_fault, entries_fault, page_fault}
use Rattle.stored.specs.Loading.{page_count, page_bytes, pages_in, is_live_at, slot_at, slots_from, visit_fault, walk_fault, length_fault, load_fault, spelled_book}
use Rattle.stored.specs.Soundness.{Sound}
use Rattle.stored.proofs.Counts.{count_append, all_of, both-pass, passes_on}
use Rattle.stored.proofs.Leveled.{entries_decide}
use Rattle.stored.proofs.Shown.{level_is, size_is}
use Rattle.stored.proofs.Walking.{spelled-lives}
use Rattle.stored.proofs.Lawfulness.{spelled-length, spelled-lawful, none_named}

at_most_lem : (p q : Measures) → p ≼ q → at_most p q ≡ true
at_most_lem p q h = grind arith

-- one more note names at most one more page
note_le : (l : ℕ) (notes : Notes) (c : Child) (q : ℕ) → bit (is_named (note_one l notes c) q) ≤ bit (is_named notes q) + bit (names q c)
note_le l notes c q = grind (arith, common_steps)

notes_le : (l : ℕ) (notes : Notes) (cs : List Child) (q : ℕ) → bit (is_named (note_all l notes cs) q) ≤ bit (is_named notes q) + count (names q) cs
notes_le l notes [] q = omega arith
notes_le l notes (c ∷ cs) q = omega (arith, notes_le l (note_one l notes c) cs q, note_le l notes c q)

occurs_append : (n : ℕ) (xs ys : List ℕ) → bit (occurs n (xs ++ ys)) ≤ bit (occurs n xs) + bit (occurs n ys)
occurs_append n xs ys = grind (arith, list_any-append)

numbers_le : (n : ℕ) (ss : List Station) → bit (occurs n (map (λ s. s.number) ss)) ≤ count (numbered n) ss
numbers_le n [] = omega arith
numbers_le n (s ∷ ss) = grind (arith, numbers_le n ss)

module _ (pages p : ℕ) (nm : Option Naming) (l : ℕ) where
  children-fine : (notes : Notes) (i : ℕ) (cs : List Child) → Each (λ c. (p < c.page) × (c.page < pages)) cs → Each (λ c. c.bounds.low ≼ c.bounds.high) cs
      → Each (λ c. is_within nm c.bounds.low c.bounds.high ≡ true) cs → ((q : ℕ) → bit (is_named notes q) + count (names q) cs ≤ 1) → children_fault pages p nm l notes i cs ≡ None
  children-fine notes i [] after ordered within once = refl
  children-fine notes i (c ∷ cs) after ordered within once =
      let rest = children-fine (note_one l notes c) (i + 1) cs after.1 ordered.1 within.1 (λ q. omega (arith, once q, note_le l notes c q)) in
      let one : child_fault pages p nm notes i c ≡ None = grind (arith, once c.page, after.0, at_most_lem _ _ ordered.0, within.0) in
      passes_on _ _ one ∙ rest

module _ (p : ℕ) (nm : Option Naming) where
  stations-fine : (numbers : List ℕ) (i : ℕ) (ss : List Station) → Each (λ s. 1 ≤ s.number) ss → Each (λ s. is_within nm s.at s.at ≡ true) ss
      → ((n : ℕ) → bit (occurs n numbers) + count (numbered n) ss ≤ 1) → stations_fault p nm numbers i ss ≡ None
  stations-fine numbers i [] positive within once = refl
  stations-fine numbers i (s ∷ ss) positive within once =
      let rest = stations-fine (numbers ++ s.number ∷ []) (i + 1) ss positive.1 within.1 (λ n. grind (arith, once n, occurs_append n numbers (s.number ∷ []))) in
      grind (arith, once s.number, positive.0, within.0, rest)

within-stations : (nm : Option Naming) (ss : List Station) → ((n : Naming) → nm ≡ Some n → Each (λ s. Inside s.at n.bounds) ss) → Each (λ s. is_within nm s.at s.at ≡ true) ss
within-stations None ss h = all_of (λ (s : Station). is_within None s.at s.at ≡ true) (λ s. refl) ss
within-stations (Some m) ss h = All-weaker (λ (s : Station). Inside s.at m.bounds) (λ (s : Station). is_within (Some m) s.at s.at ≡ true) (λ s k. and_from _ _ (at_most_lem _ _ k.above) (at_most_lem _ _ k.below)) ss (h m refl)

within-children : (nm : Option Naming) (cs : List Child) → ((n : Naming) → nm ≡ Some n → Each (λ c. Nested c.bounds n.bounds) cs) → Each (λ c. is_within nm c.bounds.low c.bounds.high ≡ true) cs
within-children None cs h = all_of (λ (c : Child). is_within None c.bounds.low c.bounds.high ≡ true) (λ c. refl) cs
within-children (Some m) cs h = All-weaker (λ (c : Child). Nested c.bounds m.bounds) (λ (c : Child). is_within (Some m) c.bounds.low c.bounds.high ≡ true) (λ c k. and_from _ _ (at_most_lem _ _ k.above) (at_most_lem _ _ k.below)) cs (h m refl)

below-fine : (nm : Option Naming) (lv : ℕ) → ((n : Naming) → nm ≡ Some n → n.level ≡ lv + 1) → is_below nm lv ≡ true
below-fine nm lv h = grind arith

-- what a page of a lawful book keeps, by what the pages before it say
record Clean (pages p : ℕ) (notes : Notes) (numbers : List ℕ) (s : Slot) : Type 0 where
  levels : level s ≤ 7
  sizes : size s ≤ 12
  filled : Filled p s
  after : Each (λ c. (p < c.page) × (c.page < pages)) (children_on s)
  ordered : Each (λ c. c.bounds.low ≼ c.bounds.high) (children_on s)
  positive : Each (λ t. 1 ≤ t.number) (stations_on s)
  fits : (n : Naming) → note_of notes p ≡ Some n → Fits n.level n.bounds s
  named : (q : ℕ) → bit (is_named notes q) + count (names q) (children_on s) ≤ 1
  once : (n : ℕ) → bit (occurs n numbers) + count (numbered n) (stations_on s) ≤ 1

module _ (pages p : ℕ) (notes : Notes) (numbers page : List ℕ) where
  entries-fine : (lv : ℕ) → Clean pages p notes numbers (live_slot lv page) → entries_fault pages p (note_of notes p) notes numbers (live_slot lv page) ≡ None
  entries-fine zero k = stations-fine p (note_of notes p) numbers 0 (stations_in page) k.positive (within-stations (note_of notes p) (stations_in page) (λ n is. (k.fits n is).1)) k.once
  entries-fine (suc l) k = children-fine pages p (note_of notes p) (suc l) notes 0 (children_in page) k.after k.ordered (within-children (note_of notes p) (children_in page) (λ n is. (k.fits n is).1)) k.named

  level-fine : (lv : ℕ) → Clean pages p notes numbers (live_slot lv page) → (n : Naming) → note_of notes p ≡ Some n → n.level ≡ lv + 1
  level-fine zero k n is = (k.fits n is).0
  level-fine (suc l) k n is = omega (arith, (k.fits n is).0)

  header-fine : (lv : ℕ) → Filled p (live_slot lv page) → size (live_slot lv page) ≡ count_byte page → (not (eqb (count_byte page) 0) || (eqb p 0 && eqb lv 0)) ≡ true
  header-fine lv k e = grind arith

  page-fine : is_padded page ≡ true → Clean pages p notes numbers (live page) → page_fault pages p (note_of notes p) notes numbers page ≡ None
  page-fine padded k =
      let low : level_byte page ≤ 7 = omega (arith, k.levels, level_is (level_byte page) page) in
      let few : count_byte page ≤ 12 = omega (arith, k.sizes, size_is (level_byte page) page) in
      let filled = header-fine (level_byte page) k.filled (size_is (level_byte page) page) in
      let header : is_fair_header p page ≡ true = grind (arith, padded, filled) in
      let below = below-fine (note_of notes p) (level_byte page) (level-fine (level_byte page) k) in
      entries_decide pages p (note_of notes p) notes numbers page header below ∙ entries-fine (level_byte page) k

  visit-fine : (is_live_at notes p page ≡ true → is_padded page ≡ true) → Clean pages p notes numbers (slot_at notes p page) → visit_fault pages p notes numbers page ≡ None
  visit-fine padded k = by (is_live_at notes p page) refl k
    where
      by : (m : Bool) → is_live_at notes p page ≡ m → Clean pages p notes numbers (cond m (live page) dead) → cond m (page_fault pages p (note_of notes p) notes numbers page) None ≡ None
      by true is c = page-fine (padded is) c
      by false is c = refl

all_parts : {A : Type 0} (Q : A → Type 0) (xs ys : List A) → Each Q (xs ++ ys) → Each Q xs × Each Q ys
all_parts Q [] ys h = (tt, h)
all_parts Q (x ∷ xs) ys h = let both = all_parts Q xs ys h.1 in ((h.0, both.0), both.1)

-- what holds of the parts of all slots holds of those of each
part-at : {A : Type 0} (part : Slot → List A) (Q : A → Type 0) → Each Q (part dead) → (b : Book) (p : ℕ) → Each Q (flat_map part b) → Each Q (part (slot b p))
part-at part Q none [] p h = none
part-at part Q none (s ∷ b) zero h = (all_parts Q (part s) (flat_map part b) h).0
part-at part Q none (s ∷ b) (suc p) h = part-at part Q none b p (all_parts Q (part s) (flat_map part b) h).1

-- what is noted of a page fits it, after one more note
fits-noted : (b : Book) (l : ℕ) (notes : Notes) (c : Child) → Fits l c.bounds (slot b c.page) → ((q : ℕ) (n : Naming) → note_of notes q ≡ Some n → Fits n.level n.bounds (slot b q))
    → (q : ℕ) (n : Naming) → note_of (note_one l notes c) q ≡ Some n → Fits n.level n.bounds (slot b q)
fits-noted b l notes c here before q n is = grind (arith, common_steps)

all-fits-noted : (b : Book) (l : ℕ) (notes : Notes) (cs : List Child) → Each (λ c. Fits l c.bounds (slot b c.page)) cs → ((q : ℕ) (n : Naming) → note_of notes q ≡ Some n → Fits n.level n.bounds (slot b q))
    → (q : ℕ) (n : Naming) → note_of (note_all l notes cs) q ≡ Some n → Fits n.level n.bounds (slot b q)
all-fits-noted b l notes [] fits before = before
all-fits-noted b l notes (c ∷ cs) fits before = all-fits-noted b l (note_one l notes c) cs fits.1 (fits-noted b l notes c fits.0 before)

-- the walk over a lawful book whose pages are padded
module _ (b : Book) (lawful : Lawful b) where
  walk_fine : (p : ℕ) (notes : Notes) (numbers : List ℕ) (rest : List (List ℕ)) → ((i q : ℕ) → p + i ≡ q → get_or (slots_from p notes rest) i dead ≡ slot b q)
      → ((i q : ℕ) → p + i ≡ q → IsLive (slot b q) → is_padded (get_or rest i []) ≡ true)
      → ((q : ℕ) (n : Naming) → note_of notes q ≡ Some n → Fits n.level n.bounds (slot b q))
      → ((q : ℕ) → bit (is_named notes q) + count (names q) (named (slots_from p notes rest)) ≤ 1)
      → ((n : ℕ) → bit (occurs n numbers) + count (numbered n) (stations (slots_from p notes rest)) ≤ 1)
      → walk_fault (length b) p notes numbers rest ≡ None
  walk_fine p notes numbers [] at padded fits named once = refl
  walk_fine p notes numbers (page ∷ rest) at padded fits named' once =
      passes_on _ _ (visit-fine (length b) p notes numbers page padding clean)
      ∙ walk_fine (p + 1) (notes_after notes s) (numbers_after numbers s) rest
      (λ i q e. at (suc i) q (omega arith))
      (λ i q e. padded (suc i) q (omega arith))
      (all-fits-noted b (level s) notes (children_on s) (subst (λ t. Each (λ c. Fits (level t) c.bounds (slot b c.page)) (children_on t)) here (lawful.fits p)) fits)
      (λ q. omega (arith, named' q, count_append (names q) (children_on s) (named (slots_from (p + 1) (notes_after notes s) rest)), notes_le (level s) notes (children_on s) q))
      (λ n. omega (arith, once n, count_append (numbered n) (stations_on s) (stations (slots_from (p + 1) (notes_after notes s) rest)), occurs_append n numbers (map (λ (t : Station). t.number) (stations_on s)), numbers_le n (stations_on s)))
    where
      s : Slot
      s = slot_at notes p page

      here : slot b p ≡ slot_at notes p page
      here = sym (at 0 p (omega arith))

      alive : is_live_at notes p page ≡ true → IsLive (slot b p)
      alive is = grind (arith, here, spelled-lives (level_byte page) page)

      padding : is_live_at notes p page ≡ true → is_padded page ≡ true
      padding is = padded 0 p (omega arith) (alive is)

      clean : Clean (length b) p notes numbers (slot_at notes p page)
      clean =
          record {
            levels = subst (λ t. level t ≤ 7) here (lawful.levels p);
            sizes = subst (λ t. size t ≤ 12) here (lawful.sizes p);
            filled = subst (Filled p) here (lawful.filled p);
            after = subst (λ t. Each (λ c. (p < c.page) × (c.page < length b)) (children_on t)) here (lawful.after p);
            ordered = subst (λ t. Each (λ c. c.bounds.low ≼ c.bounds.high) (children_on t)) here (part-at children_on _ tt b p lawful.ordered);
            positive = subst (λ t. Each (λ (u : Station). 1 ≤ u.number) (stations_on t)) here (part-at stations_on _ tt b p lawful.numbers);
            fits = λ n is. subst (Fits n.level n.bounds) here (fits p n is);
            named = λ q. omega (arith, named' q, count_append (names q) (children_on s) (named (slots_from (p + 1) (notes_after notes s) rest)));
            once = λ n. omega (arith, once n, count_append (numbered n) (stations_on s) (stations (slots_from (p + 1) (notes_after notes s) rest)));
          }

-- a page that passes is padded where it can be read
visit_padded : (pages p : ℕ) (notes : Notes) (numbers page : List ℕ) → visit_fault pages p notes numbers page ≡ None → IsLive (slot_at notes p page) → is_padded page ≡ true
visit_padded pages p notes numbers page e alive = grind arith

walk_padded : (pages p : ℕ) (notes : Notes) (numbers : List ℕ) (rest : List (List ℕ)) → walk_fault pages p notes numbers rest ≡ None → (i : ℕ) → IsLive (get_or (slots_from p notes rest) i dead) → is_padded (get_or rest i []) ≡ true
walk_padded pages p notes numbers [] e i alive = absurd alive
walk_padded pages p notes numbers (page ∷ rest) e zero alive = visit_padded pages p notes numbers page (both-pass _ _ e).0 alive
walk_padded pages p notes numbers (page ∷ rest) e (suc i) alive =
    walk_padded pages (p + 1) (notes_after notes (slot_at notes p page)) (numbers_after numbers (slot_at notes p page)) rest (both-pass _ _ e).1 i alive

module _ (bytes : List ℕ) where
  -- a page that can be read lies in the book
  live_below : (q : ℕ) → IsLive (slot (spelled_book bytes) q) → q < page_count bytes
  live_below q alive = grind (arith, common_steps, spelled-length bytes)

  page_is : (i q : ℕ) → 0 + i ≡ q → q < page_count bytes → get_or (pages_in bytes) i [] ≡ page_bytes bytes q
  page_is i q e h = get_or-map-range_with_len (page_bytes bytes) 0 (page_count bytes) i q [] (omega arith) e

  length-fine : length bytes % 256 ≡ 0 → 256 ≤ length bytes → length bytes ≤ 65536 → length_fault bytes ≡ None
  length-fine whole some few = grind arith

  -- what is sound loads
  pub sound-loads : Sound bytes → load_fault bytes ≡ None
  unfolding load_fault spelled_book
  sound-loads h =
      passes_on _ _ (length-fine h.whole h.some h.few)
      ∙ subst (λ n. walk_fault n 0 no_notes [] (pages_in bytes) ≡ None) (spelled-length bytes)
      (walk_fine (spelled_book bytes) h.lawful 0 no_notes [] (pages_in bytes)
      (λ i q e. let same : i ≡ q = omega arith in ap (slot (spelled_book bytes)) same)
      (λ i q e alive. subst (λ page. is_padded page ≡ true) (sym (page_is i q e (live_below q alive))) (h.padded q alive))
      (λ q n is. let none = none_named q in grind arith)
      (λ q. omega (arith, h.lawful.named_once q, ap bit (none_named q)))
      (λ n. omega (arith, h.lawful.numbered_once n)))

  padded-here : walk_fault (page_count bytes) 0 no_notes [] (pages_in bytes) ≡ None → (q : ℕ) → IsLive (slot (spelled_book bytes) q) → is_padded (page_bytes bytes q) ≡ true
  unfolding spelled_book
  padded-here e q alive = subst (λ page. is_padded page ≡ true) (page_is q q (omega arith) (live_below q alive)) (walk_padded (page_count bytes) 0 no_notes [] (pages_in bytes) e q alive)

  -- what loads is sound
  pub loads-sound : load_fault bytes ≡ None → Sound bytes
  unfolding load_fault
  loads-sound e =
      let parts = both-pass (length_fault bytes) _ e in
      let fair = parts.0 in
      record { whole = grind arith; some = grind arith; few = grind arith; padded = padded-here parts.1; lawful = spelled-lawful bytes e }

  -- a load answers whether the bytes are sound
  pub load-decides : (r : Result (Unit {0}) Fault) → r ≡ verdict (load_fault bytes) → Decides (is_ok r) (Sound bytes)
  load-decides r is = by (load_fault bytes) refl
    where
      by : (o : Option Fault) → load_fault bytes ≡ o → Decides (is_ok r) (Sound bytes)
      by None e = ((λ _. loads-sound e), λ _. ap is_ok (is ∙ ap verdict e))
      by (Some f) e = ((λ ok. let no = is ∙ ap verdict e in cc), λ h. let loads = sound-loads h in cc)
