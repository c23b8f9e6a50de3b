-- Rows in code order: sound where the row is, and then not refused.
use Rattle.std.proofs.Common.{◌≡◌, ℕ, zero, suc, ◌+◌, ◌^◌, ◌<◌, ◌≤◌, Bool, false, eqb, ltb, List, [], ◌∷◌, ◌++◌, length, None, Option, sym, refl, ap, ◌∙◌, subst, arith}
use Rattle.std.specs.List.{AllByRecursion as Each, range_with_len}
use Rattle.std.proofs.lemmas.List.{append_assoc}
use Rattle.std.proofs.ByRecursion.{All-append, All-get_or, All-map}
use Rattle.std.proofs.lemmas.Bool.Decides.{nat_tests}
use Rattle.std.proofs.lemmas.Bool.{eq-eqb, le-ltb}
use Rattle.stations.specs.declared.fault.Fault.{Fault}
use Rattle.stations.specs.declared.fault.Code.TheVariants.{OutOfRange, TooManyStations, RepeatedNumber}
use Rattle.stations.specs.declared.station.Station.{Station}
use Rattle.stations.specs.Counting.{bit, count}
use Rattle.stations.specs.Faults.{fault, placeless, refuse_if, or_else}
use Rattle.stations.specs.Rows.{holds_number, zero_fault, repeat_fault, most_stations, row_fault}
use Rattle.books.specs.Lists.{Pairwise}
use Rattle.books.specs.Books.{slot, dead, stations, numbered, IsLive, Lawful, Whole}
use Rattle.rolls.specs.Rolls.{roll_book, page_count, pages_of, page_at, level_pages, pages_from, top_level}
use Rattle.rolls.specs.Laws.{Sound}
use Rattle.rolls.proofs.Pages.{count_append}
use Rattle.rolls.proofs.Spans.{page-live}
use Rattle.rolls.proofs.Books.{rows_make_books}
use Rattle.rolls.proofs.Counts.{length_roll, count-some, count-few}
use Rattle.stored.proofs.Counts.{all_of}
use Rattle.stored.specs.Loading.{load_fault, spelled_book}
use Rattle.writer.specs.Bytes.{book_bytes}
use Rattle.writer.specs.Keys.{earlier_code, code_order}
use Rattle.writer.specs.Writing.{Storable, WrittenBooksReadBack}
use Rattle.writer.proofs.Sorting.{all-sort, count-sort, length-sort, rising-sort}
use Rattle.writer.proofs.Keyed.{code_one_way, code-not-before}
use Rattle.writer.proofs.Books.{book-back, book-loads}

-- neither of two checks refuses
fine : (t : Bool) (f : Fault) (later : Option Fault) → t ≡ false → later ≡ None → or_else (refuse_if t f) later ≡ None
fine t f later e h = rw e h

zero-fine : (i : ℕ) (row : List Station) → Each (λ s. 1 ≤ s.number) row → zero_fault i row ≡ None
zero-fine i [] h = refl
zero-fine i (s ∷ ss) h = let some = h.0 in fine (eqb s.number 0) (fault OutOfRange i 0) (zero_fault (suc i) ss) (grind (arith, nat_tests)) (zero-fine (suc i) ss h.1)

held_le : (n : ℕ) (row : List Station) → bit (holds_number n row) ≤ count (numbered n) row
held_le n [] = omega arith
held_le n (s ∷ ss) = grind (arith, nat_tests, held_le n ss)

no-bit : (t : Bool) → bit t ≤ 0 → t ≡ false
no-bit t h = grind arith

repeat_fine : (earlier : List Station) (i : ℕ) (row : List Station) → ((n : ℕ) → count (numbered n) (earlier ++ row) ≤ 1) → repeat_fault earlier i row ≡ None
repeat_fine earlier i [] h = refl
repeat_fine earlier i (s ∷ ss) h =
    let n = s.number in
    let once = h n in
    let split = count_append (numbered n) earlier (s ∷ ss) in
    let here = ap bit (eq-eqb n n refl) in
    let le = held_le n earlier in
    fine (holds_number n earlier) (fault RepeatedNumber i 0) (repeat_fault (earlier ++ s ∷ []) (suc i) ss) (no-bit (holds_number n earlier) (omega arith))
    (repeat_fine (earlier ++ s ∷ []) (suc i) ss (λ m. subst (λ xs. count (numbered m) xs ≤ 1) (sym (append_assoc earlier (s ∷ []) ss)) (h m)))

-- a sound row is not refused
pub accepted : (row : List Station) → Sound row → row_fault row ≡ None
accepted row h =
    fine (ltb most_stations (length row)) (placeless TooManyStations) (or_else (zero_fault 0 row) (repeat_fault [] 0 row)) (le-ltb most_stations (length row) h.few)
    (ap (λ o. or_else o (repeat_fault [] 0 row)) (zero-fine 0 row h.numbers) ∙ repeat_fine [] 0 row h.numbered_once)

module _ (row : List Station) where
  pub length-order : length (code_order row) ≡ length row
  unfolding code_order
  length-order = length-sort earlier_code row

  all-order : (P : Station → Type 0) → Each P row → Each P (code_order row)
  unfolding code_order
  all-order P h = all-sort earlier_code P row h

  count-order : (p : Station → Bool) → count p (code_order row) ≡ count p row
  unfolding code_order
  count-order p = count-sort earlier_code p row

  rising-order : Pairwise (λ s t. earlier_code t s ≡ false) (code_order row)
  unfolding code_order
  rising-order = rising-sort earlier_code code_one_way code-not-before row

  pub sound-order : Sound row → Sound (code_order row)
  sound-order h = record {
    few = (let e = length-order in let k = h.few in omega arith);
    numbers = all-order (λ s. 1 ≤ s.number) h.numbers;
    numbered_once = λ n. let e = count-order (numbered n) in let k = h.numbered_once n in omega arith;
    measures = all-order _ h.measures;
  }

  pub pages-order : length (roll_book (code_order row)) ≡ length (roll_book row)
  pages-order = length_roll (code_order row) ∙ ap page_count length-order ∙ sym (length_roll row)

-- every page of a roll can be read
level-live : (row : List Station) (l below : ℕ) → Each IsLive (level_pages row l below)
level-live row l below = All-map IsLive (page_at row l below) (range_with_len 0 (pages_of (length row) l)) (all_of (λ i. IsLive (page_at row l below i)) (page-live row l below) (range_with_len 0 (pages_of (length row) l)))

all_live : (row : List Station) (l first : ℕ) → Each IsLive (pages_from row l first)
all_live row zero first = level-live row 0 (first + pages_of (length row) 0)
all_live row (suc l) first =
    let next = first + pages_of (length row) (suc l) in
    All-append IsLive (level_pages row (suc l) next) (pages_from row l next) (level-live row (suc l) next) (all_live row l next)

pub roll_live : (row : List Station) (p : ℕ) → p < length (roll_book row) → IsLive (slot (roll_book row) p)
roll_live row p h = All-get_or IsLive (roll_book row) p dead h (all_live row (top_level (length row)) 0)

-- the bytes of a storable row's roll
module _ (row : List Station) (h : Storable row) where
  numbers_in : Each (λ s. s.number < 2 ^ 32) (stations (roll_book row))
  numbers_in = subst (Each (λ s. s.number < 2 ^ 32)) (sym (rows_make_books row h.sound).same) h.numbers

  few-pages : length (roll_book row) ≤ 105
  few-pages = let e = length_roll row in let k = count-few (length row) h.sound.few in omega arith

  some-pages : 1 ≤ length (roll_book row)
  some-pages = let e = length_roll row in let k = count-some (length row) in omega arith

  pub roll_back : spelled_book (book_bytes (roll_book row)) ≡ roll_book row
  roll_back = let few = few-pages in book-back (roll_book row) (rows_make_books row h.sound).lawful (roll_live row) numbers_in (omega arith) some-pages

  pub roll_loads : load_fault (book_bytes (roll_book row)) ≡ None
  roll_loads = let few = few-pages in book-loads (roll_book row) (rows_make_books row h.sound).lawful (roll_live row) numbers_in (omega arith) some-pages

pub storable-order : (row : List Station) → Storable row → Storable (code_order row)
storable-order row h = record { sound = sound-order row h.sound; numbers = all-order row (λ s. s.number < 2 ^ 32) h.numbers }

pub reads-back : WrittenBooksReadBack
reads-back row h =
    let sorted = storable-order row h in
    let laws = rows_make_books (code_order row) sorted.sound in
    let back = roll_back (code_order row) sorted in
    let same = ap stations back ∙ laws.same in
    record {
      loads = roll_loads (code_order row) sorted;
      spells = back;
      lawful = subst Lawful (sym back) laws.lawful;
      whole = subst Whole (sym back) laws.whole;
      same = same;
      rising = subst (Pairwise (λ s t. earlier_code t s ≡ false)) (sym same) (rising-order row);
      counted = λ p. ap (count p) same ∙ count-order row p;
    }
