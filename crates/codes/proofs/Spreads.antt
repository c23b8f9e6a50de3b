-- Laws of spreading: the table's rule at each entry, a number spread by its two bytes, and how large it gets.
use Rattle.std.proofs.Common.{◌≡◌, ℕ, zero, suc, ◌+◌, ◌*◌, ◌/◌, ◌%◌, ◌^◌, ◌<◌, List, map, get_or, sym, refl, ap, ◌∙◌, mul_assoc, mul_comm, pow-suc, add-one, arith}
use native.Mathlib.Nat.{div-div-eq-div-mul}
use Rattle.std.specs.List.{range_with_len}
use Rattle.std.proofs.lemmas.Nat.{mod-pow-add}
use Rattle.std.proofs.lemmas.List.FromFn.{get_or-map-range_with_len}
use Rattle.codes.specs.Codes.{spread}

-- a table that is, all in all, the bytes spread in turn has each byte spread at its entry
pub entry-spread : (table : List ℕ) → table ≡ map (spread 8) (range_with_len 0 256) → (k : ℕ) → k < 256 → get_or table k 0 ≡ spread 8 k
entry-spread table is k h = ap (λ l. get_or l k 0) is ∙ get_or-map-range_with_len (spread 8) 0 256 k k 0 h (omega arith)

-- the bits past the first, one place lower
pub half_pow : (x m : ℕ) → x / 2 ^ suc m ≡ x / 2 / 2 ^ m
half_pow x m = ap (λ p. x / p) (pow-suc 2 m ∙ mul_comm (2 ^ m) 2) ∙ sym (div-div-eq-div-mul x 2 (2 ^ m))

-- k bits are the first m and the n after them
spread-split : (m n k x : ℕ) → k ≡ m + n → spread k x ≡ spread m x + 16 ^ m * spread n (x / 2 ^ m)
unfolding spread
spread-split zero n k x e =
    let same : k ≡ n = omega arith in
    let whole : x ≡ x / 1 = omega arith in
    let all : spread k x ≡ spread n (x / 1) = λ i. spread (same i) (whole i) in
    omega (arith, all)
spread-split (suc m) n zero x e = absurd (omega arith)
spread-split (suc m) n (suc k) x e =
    let rest = spread-split m n k (x / 2) (omega arith) in
    let high = spread n (x / 2 / 2 ^ m) in
    let moved : 16 ^ suc m * spread n (x / 2 ^ suc m) ≡ 16 * (16 ^ m * high) = (λ i. (pow-suc 16 m ∙ mul_comm (16 ^ m) 16) i * spread n (half_pow x m i)) ∙ mul_assoc 16 (16 ^ m) high in
    omega (arith, rest, moved)

-- only the first m bits count
spread-low : (m x : ℕ) → spread m (x % 2 ^ m) ≡ spread m x
unfolding spread
spread-low zero x = refl
spread-low (suc m) x =
    let parts : x % 2 ^ suc m ≡ (x / 2 % 2 ^ m) * 2 + x % 2 = ap (λ k. x % 2 ^ k) (sym (add-one m)) ∙ mod-pow-add x m 1 in
    let bit : x % 2 ^ suc m % 2 ≡ x % 2 = omega (arith, parts) in
    let rest : x % 2 ^ suc m / 2 ≡ x / 2 % 2 ^ m = omega (arith, parts) in
    (λ i. bit i + 16 * spread m (rest i)) ∙ ap (λ s. x % 2 + 16 * s) (spread-low m (x / 2))

-- every digit in base 16 is 0 or 1
pub spread-small : (n x : ℕ) → 15 * spread n x < 16 ^ n
unfolding spread
spread-small zero x = omega arith
spread-small (suc n) x = omega (arith, spread-small n (x / 2), pow-suc 16 n)

-- a number of two bytes, by its low byte and its high byte
pub spread-bytes : (x : ℕ) → spread 16 x ≡ spread 8 (x % 256) + spread 8 (x / 256) * 2 ^ 32
spread-bytes x = omega (arith, spread-split 8 8 16 x refl, spread-low 8 x)
