-- Text cut at a byte, and put together again.
use Rattle.std.specs.Prelude.{ℕ, List, ◌==◌}
use Rattle.std.specs.List.{slice_split, join_with_byte}

-- the parts of the text between separators: n separators give n + 1 parts
abbrev pub pieces : ℕ → List ℕ → List (List ℕ)
pieces sep bs = slice_split (λ b. b == sep) bs

-- the parts with a separator between each two
abbrev pub join : ℕ → List (List ℕ) → List ℕ
join sep ps = join_with_byte sep ps

-- the byte between two fields
abbrev pub comma : ℕ
comma = 44

-- the byte at the end of every line
abbrev pub line_end : ℕ
line_end = 10

-- the fields of a line
abbrev pub fields_of : List ℕ → List (List ℕ)
fields_of line = pieces comma line

-- the lines of a text; the last is what follows the last line end
abbrev pub lines_of : List ℕ → List (List ℕ)
lines_of text = pieces line_end text
