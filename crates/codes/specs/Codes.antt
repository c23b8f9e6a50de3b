-- The code of four measures: their bits in turn, from the highest of the first measure to the lowest of the fourth.
use Rattle.std.specs.Prelude.{◌≡◌, ℕ, zero, suc, ◌+◌, ◌-◌, ◌*◌, ◌/◌, ◌%◌, ◌^◌, ◌<◌}
use Rattle.stations.specs.declared.measures.Measures.{Measures}
use Rattle.stations.specs.Beating.{Ordinary}

-- the number whose bit 4j is bit j of x, for the first n bits
unfoldable pub spread : ℕ → ℕ → ℕ
spread zero x = 0
spread (suc n) x = x % 2 + 16 * spread n (x / 2)

-- bit 4j + 3 is bit j of m1, and m2, m3 and m4 take the bits 4j + 2, 4j + 1 and 4j
abbrev pub code_of : Measures → ℕ
code_of p = 8 * spread 16 p.m1 + 4 * spread 16 p.m2 + 2 * spread 16 p.m3 + spread 16 p.m4

-- bit j of x
abbrev pub bit_at : ℕ → ℕ → ℕ
bit_at j x = x / 2 ^ j % 2

-- the bits of a code are those of the measures, and there are no more
pub record Interleaved (p : Measures) (code : ℕ) : Type 0 where
  pub from1 : (j : ℕ) → j < 16 → bit_at (4 * j + 3) code ≡ bit_at j p.m1
  pub from2 : (j : ℕ) → j < 16 → bit_at (4 * j + 2) code ≡ bit_at j p.m2
  pub from3 : (j : ℕ) → j < 16 → bit_at (4 * j + 1) code ≡ bit_at j p.m3
  pub from4 : (j : ℕ) → j < 16 → bit_at (4 * j) code ≡ bit_at j p.m4
  pub short : code < 2 ^ 64

-- no other ordinary measures have the code
abbrev pub Alone : Measures → ℕ → Type 0
Alone p code = (q : Measures) → Ordinary q → code_of q ≡ code → q ≡ p

-- the four measures in turn
abbrev measures : ℕ → ℕ → ℕ → ℕ → Measures
measures a b c d = record { m1 = a; m2 = b; m3 = c; m4 = d }

-- codes and an entry of the table, worked out
pub record Worked : Type 0 where
  pub one : code_of (measures 1 0 0 0) ≡ 8
  pub two : code_of (measures 2 0 0 0) ≡ 128
  pub last : code_of (measures 0 0 0 1) ≡ 1
  pub all : code_of (measures 65535 65535 65535 65535) ≡ 2 ^ 64 - 1
  pub byte : spread 8 255 ≡ 286331153
