-- Numbers as a log spells them.
use Rattle.std.proofs.Common.{◌≡◌, ℕ, ◌+◌, ◌<◌, ◌≤◌, Bool, true, false, not, ◌&&◌, eqb, ltb, leb, ◌⊎◌, List, [], ◌∷◌, length, get_or, drop, sym, refl, ap, ◌∙◌, ⊎_elim, inl, inr, arith, rules}
use Rattle.std.specs.Char.{is_ascii_digit}
use Rattle.std.specs.Str.{all_ascii_digits}
use Rattle.std.proofs.lemmas.List.{at_drop_more, at_drop_all}
use Rattle.std.proofs.lemmas.Bool.{and_right, and_left, and_from, lt-leb, le-ltb, cases_lt, cases_Bool, both_ways}
use Rattle.std.proofs.lemmas.Bool.Decides.{nat_tests}
use Rattle.std.proofs.lemmas.Str.Parse.{IsNumeralModel, numerals_by_fold}
use Rattle.logs.specs.Numerals.{spelled, read_on, value}
use Rattle.logs.specs.Tokens.{parts, front, is_end}
use Rattle.logs.specs.Values.{Along}
use Rattle.logs.proofs.Cuts.{front-stop, front-step, front-there}

pub own : IsNumeralModel (λ ds. all_ascii_digits ds ≡ true) (read_on 0)
own = numerals_by_fold _ (search rules) read_on (search rules)

-- where a field ends nothing is left of it
end-front : (bs : List ℕ) → is_end bs ≡ true → front bs ≡ []
end-front [] e = refl
end-front (b ∷ bs) e = front-stop b bs e

-- elsewhere it goes on with a byte
goes_on : (text : List ℕ) (i : ℕ) → is_end (drop i text) ≡ false → (i < length text) × (parts (get_or text i 0) ≡ false)
goes_on text i e =
    ⊎_elim (λ lt. (lt, sym (at_drop_more is_end text i 0 lt) ∙ e)) (λ past. absurd (both_ways _ e (at_drop_all is_end text i past))) (cases_lt i (length text))

-- the whole field is read
pub all_read : (text : List ℕ) (n len : ℕ) → Along text n len → is_end (drop len text) ≡ true → (all_ascii_digits (front text) ≡ true) × (n ≡ value (front text)) × (len ≡ length (front text))
all_read text n len so e =
    let none : front (drop len text) ≡ [] = end-front (drop len text) e in
    (sym so.digits ∙ ap all_ascii_digits none, sym (ap (read_on n) none) ∙ so.number, omega (arith, ap length none, so.long))

-- a field that goes on after its digits, or after ten of them, is no number
pub runs_on : (text : List ℕ) (n len : ℕ) → Along text n len → len ≤ 10 → (len < 10 → len < length text → is_ascii_digit (get_or text len 0) ≡ false) → is_end (drop len text) ≡ false → spelled (front text) ≡ false
runs_on text n len so le stops e =
    let on = goes_on text len e in
    let step : front (drop len text) ≡ get_or text len 0 ∷ front (drop (len + 1) text) = front-there text len on.0 on.1 in
    ⊎_elim
    (λ lt. and_right _ _ (sym so.digits ∙ ap all_ascii_digits step ∙ and_left _ _ (stops lt on.0)))
    (λ past.
    let many : 10 < length (front text) = omega (arith, ap length step, so.long) in
    and_left _ _ (and_left _ _ (and_right _ _ (lt-leb _ _ many))))
    (cases_lt len 10)

-- an empty field is no number
no_number : (bs : List ℕ) → length bs ≡ 0 → spelled bs ≡ false
no_number bs e = let none : length bs ≤ 0 = omega arith in and_left _ _ (and_left _ _ (and_left _ _ (le-ltb _ _ none)))

-- and so is one that begins with no digit
pub empty_first : (text : List ℕ) (n len : ℕ) → Along text n len → len ≡ 0 → (len < 10 → len < length text → is_ascii_digit (get_or text len 0) ≡ false) → spelled (front text) ≡ false
empty_first text n len so none stops =
    elim (cases_Bool (is_end (drop len text))) [
      | inl e ↦ no_number (front text) (omega (arith, (all_read text n len so e).2))
      | inr e ↦ runs_on text n len so (omega arith) stops e
    ]

-- a field begins with the first byte of its text
pub first_byte : (text : List ℕ) → 0 < length (front text) → get_or (front text) 0 0 ≡ get_or text 0 0
first_byte [] some = refl
first_byte (b ∷ bs) some = go (parts b) refl some
  where
    go : (t : Bool) → parts b ≡ t → 0 < length (front (b ∷ bs)) → get_or (front (b ∷ bs)) 0 0 ≡ b
    go true e h = absurd (omega (arith, ap length (front-stop b bs e)))
    go false e h = ap (λ xs. get_or xs 0 0) (front-step b bs e)

-- what a number is spelled by
pub spelled-from : (bs : List ℕ) → 0 < length bs → length bs ≤ 10 → ((get_or bs 0 0 ≡ 48) × (length bs ≤ 1)) ⊎ (get_or bs 0 0 ≡ 48 → ⊥) → all_ascii_digits bs ≡ true → spelled bs ≡ true
spelled-from bs some short lead all =
    let e : (ltb 0 (length bs) && leb (length bs) 10 && not (eqb (get_or bs 0 0) 48 && ltb 1 (length bs))) ≡ true = grind (arith, nat_tests) in
    and_from _ _ e all

-- a 0 in front of another digit spells no number
pub zero-first : (bs : List ℕ) → get_or bs 0 0 ≡ 48 → 1 < length bs → spelled bs ≡ false
zero-first bs zero long =
    let e : (ltb 0 (length bs) && leb (length bs) 10 && not (eqb (get_or bs 0 0) 48 && ltb 1 (length bs))) ≡ false = grind (arith, nat_tests) in
    and_left _ _ e
