-- A row of stations read as a book: twelve stations make a page of level 0, twelve pages make a page of the next level, until
-- one page is left. Three levels are enough for 1,728 stations, and a row has at most 1,152.
use Rattle.std.specs.Prelude.{ℕ, zero, suc, ◌+◌, ◌*◌, ◌/◌, max, cond, List, ◌++◌, map, length, take, drop, ◌==◌}
use Rattle.std.specs.List.{range_with_len}
use Rattle.stations.specs.declared.station.Station.{Station}
use Rattle.books.specs.declared.Child.{Child}
use Rattle.books.specs.Books.{Slot, leaf, node, Book}
use Rattle.rolls.specs.Boxes.{around}

-- part i of a list that is cut after every so many places; the last part may be shorter
abbrev pub part : {A : Type 0} → ℕ → List A → ℕ → List A
part size xs i = take size (drop (i * size) xs)

-- the places of the row that a page of level l spans
abbrev pub span : ℕ → ℕ
span zero = 12
span (suc l) = 12 * span l

-- how many pages of level l a row of n stations makes; an empty row still makes one
abbrev pub pages_of : ℕ → ℕ → ℕ
pages_of n zero = max 1 ((n + 11) / 12)
pages_of n (suc l) = (pages_of n l + 11) / 12

-- the level of the top: the lowest that has one page
abbrev pub top_level : ℕ → ℕ
top_level n = cond (pages_of n 0 == 1) 0 (cond (pages_of n 1 == 1) 1 2)

-- how many pages of the levels from 0 to l it makes
abbrev pub pages_to : ℕ → ℕ → ℕ
pages_to n zero = pages_of n 0
pages_to n (suc l) = pages_of n (suc l) + pages_to n l

-- how many pages it makes in all
abbrev pub page_count : ℕ → ℕ
page_count n = pages_to n (top_level n)

-- page i of level l as the level above names it, where first is the number of that level's first page
abbrev pub child : List Station → ℕ → ℕ → ℕ → Child
child row l first i = record { page = first + i; bounds = around (part (span l) row i) }

-- all the pages of level l, so named
abbrev pub children : List Station → ℕ → ℕ → List Child
children row l first = map (child row l first) (range_with_len 0 (pages_of (length row) l))

-- page i of level l, where below is the number of the first page of the level below
abbrev pub page_at : List Station → ℕ → ℕ → ℕ → Slot
page_at row zero below i = leaf (part 12 row i)
page_at row (suc l) below i = node l (part 12 (children row l below) i)

-- the pages of level l
abbrev pub level_pages : List Station → ℕ → ℕ → Book
level_pages row l below = map (page_at row l below) (range_with_len 0 (pages_of (length row) l))

-- the pages of level l and then of the levels below it, where first is the number of the first of them
abbrev pub pages_from : List Station → ℕ → ℕ → Book
pages_from row zero first = level_pages row 0 (first + pages_of (length row) 0)
pages_from row (suc l) first = level_pages row (suc l) (first + pages_of (length row) (suc l)) ++ pages_from row l (first + pages_of (length row) (suc l))

-- the book of a row: its pages by level, from the top, and then by place
abbrev pub roll_book : List Station → Book
roll_book row = pages_from row (top_level (length row)) 0
