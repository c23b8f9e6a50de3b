-- What writing a row's book gives, and what is refused.
use Rattle.std.specs.Prelude.{◌≡◌, ℕ, ◌*◌, ◌^◌, ◌<◌, Bool, false, ◌||◌, List, length, take, drop, Some, None, Ok, Err, Option, Result, nat_lt}
use Rattle.std.specs.List.{AllByRecursion as Each}
use Rattle.stations.specs.declared.fault.Fault.{Fault}
use Rattle.stations.specs.declared.fault.Code.TheVariants.{ShortBuffer}
use Rattle.stations.specs.declared.station.Station.{Station}
use Rattle.stations.specs.Counting.{count}
use Rattle.stations.specs.Faults.{placeless, refuse_if, or_else}
use Rattle.stations.specs.Rows.{row_fault}
use Rattle.books.specs.Lists.{Pairwise}
use Rattle.books.specs.Books.{stations, Lawful, Whole}
use Rattle.rolls.specs.Rolls.{roll_book}
use Rattle.rolls.specs.Laws.{Sound}
use Rattle.stored.specs.Loading.{load_fault, spelled_book}
use Rattle.writer.specs.declared.keys.CodeKey.{CodeKey}
use Rattle.writer.specs.Bytes.{book_bytes}
use Rattle.writer.specs.Keys.{earlier_code, code_order}

-- the refusal of a row, and then of a work buffer or a book buffer that is too short for it
unfoldable pub write_fault : List Station → ℕ → ℕ → Option Fault
write_fault row places bytes =
    or_else (row_fault row)
    (refuse_if (nat_lt places (length row) || nat_lt bytes (256 * length (roll_book row))) (placeless ShortBuffer))

-- the first n bytes of the book buffer are the row's book, and nothing else changes but the first places of the work buffer
pub record Written (row : List Station) (work work' : List CodeKey) (book book' : List ℕ) (n : ℕ) : Type 0 where
  pub sized : n ≡ 256 * length (roll_book row)
  pub bytes : take n book' ≡ book_bytes (roll_book (code_order row))
  -- what was written spells the roll of the row in code order, and loads
  pub spells : spelled_book (take n book') ≡ roll_book (code_order row)
  pub loads : load_fault (take n book') ≡ None
  pub after : drop n book' ≡ drop n book
  pub kept : drop (length row) work' ≡ drop (length row) work

-- the book is written where nothing is refused; a refusal leaves both buffers as they were
abbrev pub Writes : List Station → List CodeKey → List CodeKey → List ℕ → List ℕ → Result ℕ Fault → Type 0
Writes row work work' book book' (Ok n) = (write_fault row (length work) (length book) ≡ None) × Written row work work' book book' n
Writes row work work' book book' (Err f) = (write_fault row (length work) (length book) ≡ Some f) × (work' ≡ work) × (book' ≡ book)

-- a row that can be stored: sound, with station numbers of 32 bits
pub record Storable (row : List Station) : Type 0 where
  pub sound : Sound row
  pub numbers : Each (λ s. s.number < 2 ^ 32) row

-- what the bytes of a row's book keep
pub record ReadsBack (row : List Station) : Type 0 where
  pub loads : load_fault (book_bytes (roll_book (code_order row))) ≡ None
  pub spells : spelled_book (book_bytes (roll_book (code_order row))) ≡ roll_book (code_order row)
  pub lawful : Lawful (spelled_book (book_bytes (roll_book (code_order row))))
  pub whole : Whole (spelled_book (book_bytes (roll_book (code_order row))))
  -- its stations are the row's, in code order
  pub same : stations (spelled_book (book_bytes (roll_book (code_order row)))) ≡ code_order row
  -- no station comes before an earlier one, by code and then by number
  pub rising : Pairwise (λ s t. earlier_code t s ≡ false) (stations (spelled_book (book_bytes (roll_book (code_order row)))))
  -- and there are as many of each kind as in the row
  pub counted : (p : Station → Bool) → count p (stations (spelled_book (book_bytes (roll_book (code_order row))))) ≡ count p row

-- what was written is read back
abbrev pub WrittenBooksReadBack : Type 0
WrittenBooksReadBack = (row : List Station) → Storable row → ReadsBack row
