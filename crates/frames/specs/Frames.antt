-- An input of several parts, each behind a line with its length.
use Rattle.std.specs.Prelude.{ℕ, ◌+◌, ◌-◌, ◌*◌, ◌^◌, List, [], ◌∷◌, length, take, drop, Some, None, Option, nat_le, nat_lt, if◌then◌else◌, ◌==◌, position}
use Rattle.std.specs.Option.{option_and_then}
use Rattle.std.specs.Char.{is_ascii_digit}

-- the number that the digits spell, behind those that spell n; none where another byte stands among them, or the number does not fit 64 bits
abbrev pub length_from : ℕ → List ℕ → Option ℕ
length_from n [] = Some n
length_from n (b ∷ bs) = if is_ascii_digit b then (if nat_lt (10 * n + (b - 48)) (2 ^ 64) then length_from (10 * n + (b - 48)) bs else None) else None

-- the number that digits and a line end spell, behind digits that spell n, and what follows the line end; none where another byte
-- stands among the digits, the number does not fit 64 bits, or no line ends
abbrev pub header_from : ℕ → List ℕ → Option (ℕ × List ℕ)
header_from n [] = None
header_from n (b ∷ bs) = if b == 10 then Some (n, bs) else (if is_ascii_digit b then (if nat_lt (10 * n + (b - 48)) (2 ^ 64) then header_from (10 * n + (b - 48)) bs else None) else None)

-- the first bytes and those that follow them; none where there are fewer
abbrev pub cut : ℕ → List ℕ → Option (List ℕ × List ℕ)
cut n bytes = if nat_le n (length bytes) then Some (take n bytes, drop n bytes) else None

-- the first part of an input, and what follows it
abbrev pub first_frame : List ℕ → Option (List ℕ × List ℕ)
first_frame input =
    option_and_then (λ line_end.
    option_and_then (λ len. cut len (drop (line_end + 1) input)) (length_from 0 (take line_end input)))
    (position (λ b. b == 10) input)
