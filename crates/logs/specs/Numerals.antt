-- Numbers as a log spells them.
use Rattle.std.specs.Prelude.{ℕ, ◌+◌, ◌-◌, ◌*◌, Bool, not, ◌&&◌, List, [], ◌∷◌, length, ◌==◌, nat_le, nat_lt, slice_index}
use Rattle.std.specs.Str.{all_ascii_digits}

-- the most digits of a number field
abbrev pub most_digits : ℕ
most_digits = 10

-- 1 to 10 digits, and no 0 in front of another
abbrev pub spelled : List ℕ → Bool
spelled bs = nat_lt 0 (length bs) && nat_le (length bs) most_digits && not (slice_index bs 0 == 48 && nat_lt 1 (length bs)) && all_ascii_digits bs

-- the number that goes on from n with these digits
abbrev pub read_on : ℕ → List ℕ → ℕ
read_on n [] = n
read_on n (c ∷ cs) = read_on (10 * n + (c - 48)) cs

-- the number that digits spell
abbrev pub value : List ℕ → ℕ
value bs = read_on 0 bs
