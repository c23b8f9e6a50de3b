-- Tables of marks, in which several numbers share a slot.
use Rattle.std.specs.Prelude.{◌≡◌, ℕ, ◌/◌, ◌%◌, Bool, true, false, ◌&&◌, ◌==◌, slice_index_or}
use Rattle.stations.specs.declared.marks.Marks.{Marks}

-- the place of a number in the table of low parts
abbrev pub low_of : ℕ → ℕ
low_of n = n % 16384

-- and in the table of the parts above them
abbrev pub high_of : ℕ → ℕ
high_of n = n / 16384 % 16384

-- two numbers have one place in the first table
abbrev pub same_low : ℕ → ℕ → Bool
same_low m n = low_of m == low_of n

-- and in the second
abbrev pub same_high : ℕ → ℕ → Bool
same_high m n = high_of m == high_of n

-- the low part of the number has a mark
abbrev pub is_low : Marks → ℕ → Bool
is_low marks n = slice_index_or marks.lows (low_of n) false

-- the part above it has one
abbrev pub is_high : Marks → ℕ → Bool
is_high marks n = slice_index_or marks.highs (high_of n) false

-- both parts of the number are marked
abbrev pub is_marked : Marks → ℕ → Bool
is_marked marks n = is_low marks n && is_high marks n

-- every number that passes the test is marked
abbrev pub Covers : Marks → (ℕ → Bool) → Type 0
Covers marks test = (n : ℕ) → test n ≡ true → is_marked marks n ≡ true
