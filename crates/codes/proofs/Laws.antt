-- The bits of a code, and that different measures have different codes.
use Rattle.std.proofs.Common.{◌≡◌, ℕ, zero, suc, ◌+◌, ◌*◌, ◌/◌, ◌%◌, ◌^◌, ◌<◌, sym, ap, ◌∙◌, pow-suc, arith}
use Rattle.std.proofs.lemmas.Nat.{shr-shr, div-mul-add, mod-mul-add}
use Rattle.stations.specs.declared.measures.Measures.{Measures}
use Rattle.stations.specs.Beating.{Ordinary}
use Rattle.codes.specs.Codes.{spread, code_of, Interleaved, Alone}
use Rattle.codes.proofs.Spreads.{half_pow, spread-small}

-- the code of four numbers of n bits
abbrev woven : ℕ → ℕ → ℕ → ℕ → ℕ → ℕ
woven n a b c d = 8 * spread n a + 4 * spread n b + 2 * spread n c + spread n d

-- the last digit of that code in base 16
abbrev nibble : ℕ → ℕ → ℕ → ℕ → ℕ
nibble a b c d = 8 * (a % 2) + 4 * (b % 2) + 2 * (c % 2) + d % 2

woven-step : (n a b c d : ℕ) → woven (suc n) a b c d ≡ woven n (a / 2) (b / 2) (c / 2) (d / 2) * 16 + nibble a b c d
unfolding spread
woven-step n a b c d = omega arith

bit-of : (e h b k l : ℕ) → e ≡ (h * 2 + b) * k + l → l < k → b < 2 → e / k % 2 ≡ b
bit-of e h b k l is p q = ap (λ x. x / k % 2) is ∙ ap (λ x. x % 2) (div-mul-add (h * 2 + b) k l p) ∙ mod-mul-add h 2 b q

nibble_bits : (e h a b c d : ℕ) → e ≡ h * 16 + nibble a b c d → (e / 8 % 2 ≡ a % 2) × (e / 4 % 2 ≡ b % 2) × (e / 2 % 2 ≡ c % 2) × (e / 1 % 2 ≡ d % 2)
nibble_bits e h a b c d is = (
  bit-of e h (a % 2) 8 (4 * (b % 2) + 2 * (c % 2) + d % 2) (omega arith) (omega arith) (omega arith),
  bit-of e (h * 2 + a % 2) (b % 2) 4 (2 * (c % 2) + d % 2) (omega arith) (omega arith) (omega arith),
  bit-of e (h * 4 + 2 * (a % 2) + b % 2) (c % 2) 2 (d % 2) (omega arith) (omega arith) (omega arith),
  bit-of e (h * 8 + 4 * (a % 2) + 2 * (b % 2) + c % 2) (d % 2) 1 0 (omega arith) (omega arith) (omega arith),
)

whole : (x : ℕ) → x ≡ x / 1
whole x = omega arith

-- digit j of the code, in base 16, is made of bit j of each
digit_woven : (n j a b c d : ℕ) → j < n → (h : ℕ) × (woven n a b c d / 2 ^ (4 * j) ≡ h * 16 + nibble (a / 2 ^ j) (b / 2 ^ j) (c / 2 ^ j) (d / 2 ^ j))
digit_woven zero j a b c d h = absurd (omega arith)
digit_woven (suc n) zero a b c d h =
    let rest = woven n (a / 2) (b / 2) (c / 2) (d / 2) in
    (rest, sym (whole (woven (suc n) a b c d)) ∙ woven-step n a b c d ∙ (λ i. rest * 16 + nibble (whole a i) (whole b i) (whole c i) (whole d i)))
digit_woven (suc n) (suc j) a b c d h =
    let w = woven (suc n) a b c d in
    let rest = woven n (a / 2) (b / 2) (c / 2) (d / 2) in
    let found = digit_woven n j (a / 2) (b / 2) (c / 2) (d / 2) (omega arith) in
    let four : 4 * suc j ≡ 4 + 4 * j = omega arith in
    let down : w / 16 ≡ rest = ap (λ x. x / 16) (woven-step n a b c d) ∙ div-mul-add rest 16 (nibble a b c d) (omega arith) in
    let moved : w / 2 ^ (4 * suc j) ≡ rest / 2 ^ (4 * j) = ap (λ k. w / 2 ^ k) four ∙ sym (shr-shr w 4 (4 * j)) ∙ ap (λ x. x / 2 ^ (4 * j)) down in
    (found.0, moved ∙ found.1 ∙ (λ i. found.0 * 16 + nibble (sym (half_pow a j) i) (sym (half_pow b j) i) (sym (half_pow c j) i) (sym (half_pow d j) i)))

-- numbers of n bits with one code are the same
woven-apart : (n a b c d a' b' c' d' : ℕ) → a < 2 ^ n → b < 2 ^ n → c < 2 ^ n → d < 2 ^ n → a' < 2 ^ n → b' < 2 ^ n → c' < 2 ^ n → d' < 2 ^ n → woven n a b c d ≡ woven n a' b' c' d' → (a ≡ a') × (b ≡ b') × (c ≡ c') × (d ≡ d')
woven-apart zero a b c d a' b' c' d' h1 h2 h3 h4 h5 h6 h7 h8 e = (omega arith, omega arith, omega arith, omega arith)
woven-apart (suc n) a b c d a' b' c' d' h1 h2 h3 h4 h5 h6 h7 h8 e =
    let w = woven (suc n) a b c d in
    let rest = woven n (a / 2) (b / 2) (c / 2) (d / 2) in
    let rest' = woven n (a' / 2) (b' / 2) (c' / 2) (d' / 2) in
    let is : w ≡ rest * 16 + nibble a b c d = woven-step n a b c d in
    let is' : w ≡ rest' * 16 + nibble a' b' c' d' = e ∙ woven-step n a' b' c' d' in
    let one = nibble_bits w rest a b c d is in
    let other = nibble_bits w rest' a' b' c' d' is' in
    let same : rest ≡ rest' = sym (ap (λ x. x / 16) is ∙ div-mul-add rest 16 (nibble a b c d) (omega arith)) ∙ ap (λ x. x / 16) is' ∙ div-mul-add rest' 16 (nibble a' b' c' d') (omega arith) in
    let two = pow-suc 2 n in
    let halves = woven-apart n (a / 2) (b / 2) (c / 2) (d / 2) (a' / 2) (b' / 2) (c' / 2) (d' / 2) (omega arith) (omega arith) (omega arith) (omega arith) (omega arith) (omega arith) (omega arith) (omega arith) same in
    (omega arith, omega arith, omega arith, omega arith)

pub code_interleaved : (p : Measures) → Interleaved p (code_of p)
code_interleaved p =
    let found = λ (j : ℕ) (h : j < 16). digit_woven 16 j p.m1 p.m2 p.m3 p.m4 h in
    let bits = λ (j : ℕ) (h : j < 16). nibble_bits (code_of p / 2 ^ (4 * j)) (found j h).0 (p.m1 / 2 ^ j) (p.m2 / 2 ^ j) (p.m3 / 2 ^ j) (p.m4 / 2 ^ j) (found j h).1 in
    let down = λ (j k : ℕ). ap (λ x. x % 2) (sym (shr-shr (code_of p) (4 * j) k)) in
    record {
      from1 = λ j h. down j 3 ∙ (bits j h).0;
      from2 = λ j h. down j 2 ∙ (bits j h).1;
      from3 = λ j h. down j 1 ∙ (bits j h).2;
      from4 = λ j h. ap (λ x. x % 2) (whole (code_of p / 2 ^ (4 * j))) ∙ (bits j h).3;
      short = omega (arith, spread-small 16 p.m1, spread-small 16 p.m2, spread-small 16 p.m3, spread-small 16 p.m4);
    }

-- ordinary measures with one code are the same
pub code_apart : (p : Measures) → Ordinary p → Alone p (code_of p)
code_apart p op q oq e =
    let same = woven-apart 16 q.m1 q.m2 q.m3 q.m4 p.m1 p.m2 p.m3 p.m4 oq.in1 oq.in2 oq.in3 oq.in4 op.in1 op.in2 op.in3 op.in4 e in
    λ i. record { m1 = same.0 i; m2 = same.1 i; m3 = same.2 i; m4 = same.3 i }
