-- The entries of a page, as a source gives them.
use Rattle.std.specs.Prelude.{ℕ, zero, suc, ◌+◌, ◌*◌, List, map}
use Rattle.std.specs.List.{range_with_len}
use Rattle.books.specs.declared.Entry.{Entry}
use Rattle.books.specs.declared.Entry.TheVariants as entries
use Rattle.stored.specs.Layout.{station_at, child_at, level_byte}

-- entry i of a page of this level
abbrev pub entry_at : ℕ → List ℕ → ℕ → Entry
entry_at zero page i = entries.Station (station_at page (8 + 12 * i))
entry_at (suc l) page i = entries.Page (child_at page (8 + 18 * i))

-- the first n entries of a page
abbrev pub entries_at : List ℕ → ℕ → List Entry
entries_at page n = map (entry_at (level_byte page) page) (range_with_len 0 n)
