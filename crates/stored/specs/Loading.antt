-- The book that bytes spell, and when they are refused: a walk over the pages in rising number.
use Rattle.std.specs.Prelude.{ℕ, ◌+◌, ◌*◌, ◌/◌, ◌%◌, Bool, cond, not, ◌&&◌, ◌||◌, List, [], ◌∷◌, map, length, take, drop, is_some, None, Option, ◌==◌, nat_lt}
use Rattle.std.specs.List.{range_with_len}
use Rattle.stations.specs.declared.fault.Fault.{Fault}
use Rattle.stations.specs.declared.fault.Code.TheVariants.{BookLength}
use Rattle.stations.specs.Faults.{placeless, refuse_if, or_else}
use Rattle.books.specs.Books.{Slot, dead, Book, is_dead}
use Rattle.stored.specs.Layout.{is_marked_dead, live}
use Rattle.stored.specs.Notes.{Notes, no_notes, note_of, is_named, notes_after, numbers_after}
use Rattle.stored.specs.Checks.{page_fault}

-- how many whole pages there are
abbrev pub page_count : List ℕ → ℕ
page_count bytes = length bytes / 256

-- the bytes of page p
abbrev pub page_bytes : List ℕ → ℕ → List ℕ
page_bytes bytes p = take 256 (drop (256 * p) bytes)

-- the pages, one after the other
abbrev pub pages_in : List ℕ → List (List ℕ)
pages_in bytes = map (page_bytes bytes) (range_with_len 0 (page_count bytes))

-- the page counts, since it is the top or a page that counts names it, and it is not dead
abbrev pub is_live_at : Notes → ℕ → List ℕ → Bool
is_live_at notes p page = (p == 0 || is_named notes p) && not (is_marked_dead page)

-- the slot of page p: as its bytes spell it, or dead where it is dead or does not count
abbrev pub slot_at : Notes → ℕ → List ℕ → Slot
slot_at notes p page = cond (is_live_at notes p page) (live page) dead

-- the slots of these pages, from page p on
abbrev pub slots_from : ℕ → Notes → List (List ℕ) → List Slot
slots_from p notes [] = []
slots_from p notes (page ∷ rest) = slot_at notes p page ∷ slots_from (p + 1) (notes_after notes (slot_at notes p page)) rest

-- the fault of one page; a page that does not count and a dead one have none
abbrev pub visit_fault : ℕ → ℕ → Notes → List ℕ → List ℕ → Option Fault
visit_fault pages p notes numbers page = cond (is_live_at notes p page) (page_fault pages p (note_of notes p) notes numbers page) None

-- the first fault of these pages, from page p on
abbrev pub walk_fault : ℕ → ℕ → Notes → List ℕ → List (List ℕ) → Option Fault
walk_fault pages p notes numbers [] = None
walk_fault pages p notes numbers (page ∷ rest) =
    or_else (visit_fault pages p notes numbers page)
    (walk_fault pages (p + 1) (notes_after notes (slot_at notes p page)) (numbers_after numbers (slot_at notes p page)) rest)

-- a book has 1 to 256 pages of 256 bytes
abbrev pub length_fault : List ℕ → Option Fault
length_fault bytes = refuse_if (not (length bytes % 256 == 0) || nat_lt (length bytes) 256 || nat_lt 65536 (length bytes)) (placeless BookLength)

-- why the bytes are refused, or nothing
unfoldable pub load_fault : List ℕ → Option Fault
load_fault bytes = or_else (length_fault bytes) (walk_fault (page_count bytes) 0 no_notes [] (pages_in bytes))

-- the bytes are not refused
abbrev pub loads : List ℕ → Bool
loads bytes = not (is_some (load_fault bytes))

-- the book that the bytes spell
unfoldable pub spelled_book : List ℕ → Book
spelled_book bytes = slots_from 0 no_notes (pages_in bytes)

-- which pages can be read
abbrev pub marks : Book → List Bool
marks b = map (λ s. not (is_dead s)) b
