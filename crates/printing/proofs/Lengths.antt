-- How long what is printed is.
use Rattle.std.proofs.Common.{◌≡◌, ℕ, zero, suc, ◌+◌, ◌*◌, ◌/◌, ◌%◌, ◌^◌, ◌<◌, ◌≤◌, List, [], ◌∷◌, length, get_or, decimal, refl, sym, ap, ◌∙◌, arith, rules, Fits, w64}
use Rattle.std.specs.List.{sum_by}
use Rattle.std.proofs.lemmas.Fmt.{decimal_step, decimal_digit, length-decimal-le}
use Rattle.std.proofs.lemmas.List.Sums.{sum_by-cons}
use Rattle.std.proofs.lemmas.List.{length_push, length-append}
use Rattle.printing.specs.Printed.{ender, numbered}

pub one_digit : (n : ℕ) → n < 10 → 1 ≡ length (decimal n)
one_digit n h = sym (ap length (decimal_digit n h))

pub digit_more : (n : ℕ) → 10 ≤ n → n < 2 ^ 64 → length (decimal (n / 10)) + 1 ≡ length (decimal n)
digit_more n h k = sym (ap length (decimal_step n h k) ∙ length_push (decimal (n / 10)) (48 + n % 10))

pub digits-few : (n : ℕ) → n < 2 ^ 64 → length (decimal n) ≤ 20
digits-few n h = length-decimal-le 20 n (omega arith) (omega arith) h

-- a line is as long as its numbers, each with the byte behind it
pub numbered-sum : (ns : List ℕ) → sum_by (λ n. length (decimal n) + 1) ns ≡ length (numbered ns)
numbered-sum [] = refl
numbered-sum (n ∷ ns) =
    let e = length-append (decimal n) (ender ns ∷ numbered ns) in
    omega (arith, numbered-sum ns, sum_by-cons (λ m. length (decimal m) + 1) n ns, e)

pub numbered-few : (ns : List ℕ) → ((i : ℕ) → Fits w64 (get_or ns i 0)) → length (numbered ns) ≤ 21 * length ns
numbered-few [] small = omega arith
numbered-few (n ∷ ns) small =
    let fits : Fits w64 n = small 0 in
    let first : n < 2 ^ 64 = search rules in
    let e = length-append (decimal n) (ender ns ∷ numbered ns) in
    omega (arith, digits-few n first, numbered-few ns (λ i. small (suc i)), e)

-- a number has one digit more than its logarithm says
pub digits_counted : (k n : ℕ) → n < 2 ^ 64 → 10 ^ k ≤ n → n < 10 * 10 ^ k → length (decimal n) ≡ k + 1
digits_counted zero n small low high = sym (one_digit n (omega arith))
digits_counted (suc k) n small low high =
    let some : 1 ≤ 10 ^ k = search (rules, arith) in
    let more = digits_counted k (n / 10) (omega arith) (omega arith) (omega arith) in
    let step = digit_more n (omega arith) small in
    omega (arith, more, step)
