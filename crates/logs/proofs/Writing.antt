-- Fields as they are written and as they are read.
use Rattle.std.proofs.Common.{◌≡◌, ℕ, ◌^◌, ◌<◌, ◌≤◌, true, false, ◌&&◌, eqb, ltb, ◌⊎◌, List, [], ◌∷◌, length, get_or, decimal, refl, ap, ◌∙◌, ap₂, inl, inr, arith}
use Rattle.std.specs.Char.{is_ascii_digit}
use Rattle.std.specs.Str.{all_ascii_digits}
use Rattle.std.specs.List.{AllByRecursion as Each}
use Rattle.std.proofs.lemmas.Fmt.{decimal-digits_value, digits_decimal, digits_value-decimal, decimal_nonempty, length-decimal-le, first_decimal, decimal_digit}
use Rattle.std.proofs.lemmas.Str.Parse.{digits_value_short}
use Rattle.std.proofs.lemmas.Bool.{false≢true, and_parts, and_from, leb-true, ltb-true, eqb-true, ne_eqb, not-true, cases_eq}
use Rattle.std.proofs.lemmas.Bool.Decides.{nat_tests}
use Rattle.logs.specs.Pieces.{comma, line_end}
use Rattle.logs.specs.Lines.{Free}
use Rattle.logs.specs.Numerals.{spelled, value}
use Rattle.logs.specs.Fields.{spells, reading, writing, admits, paired, pass, is_letter}
use Rattle.logs.specs.declared.field.FieldKind.{FieldKind}
use Rattle.logs.specs.declared.field.FieldKind.TheVariants.{Letter, Number, Measure, Weight}
use Rattle.logs.proofs.Spelling.{own, spelled-from}

-- what a spelled number is
pub record Spelled (bs : List ℕ) : Type 0 where
  pub some : 0 < length bs
  pub short : length bs ≤ 10
  pub lead : get_or bs 0 0 ≡ 48 → length bs ≡ 1
  pub digits : all_ascii_digits bs ≡ true

pub spelled-parts : (bs : List ℕ) → spelled bs ≡ true → Spelled bs
spelled-parts bs e =
    let a = and_parts _ _ e in
    let b = and_parts _ _ a.0 in
    let d = and_parts _ _ b.0 in
    let some : 0 < length bs = ltb-true 0 (length bs) d.0 in
    let not-both : (eqb (get_or bs 0 0) 48 && ltb 1 (length bs)) ≡ false = not-true _ b.1 in
    record {
      some = some;
      short = leb-true _ _ d.1;
      lead = λ z. grind (arith, nat_tests);
      digits = a.1;
    }

number_again : (bs : List ℕ) → spelled bs ≡ true → decimal (value bs) ≡ bs
number_again bs e =
    let s = spelled-parts bs e in
    let v = digits_value_short own bs 10 s.digits s.short in
    decimal-digits_value own bs s.digits s.some s.lead (omega (arith, v))

letter_again : (bs : List ℕ) → is_letter bs ≡ true → get_or bs 0 0 ∷ [] ≡ bs
letter_again [] e = absurd (false≢true e)
letter_again (b ∷ []) e = refl
letter_again (b ∷ c ∷ bs) e = let z : length (b ∷ c ∷ bs) ≡ 1 = eqb-true (length (b ∷ c ∷ bs)) 1 (and_parts _ _ e).0 in absurd (omega arith)

-- a field that is spelled as its kind asks is what is written of its reading
pub write_read : (k : FieldKind) (bs : List ℕ) → spells k bs ≡ true → writing k (reading k bs) ≡ bs
write_read Letter bs e = letter_again bs e
write_read Number bs e = number_again bs e
write_read Measure bs e = number_again bs e
write_read Weight bs e = number_again bs e

-- the other way round: a number in range, as it is written
pub record Written (k : FieldKind) (n : ℕ) : Type 0 where
  pub spelled : spells k (writing k n) ≡ true
  pub read : reading k (writing k n) ≡ n
  pub no-comma : Free comma (writing k n)
  pub no_end : Free line_end (writing k n)

digits-free : (c : ℕ) → ((d : ℕ) → is_ascii_digit d ≡ true → d ≡ c → ⊥) → (ds : List ℕ) → all_ascii_digits ds ≡ true → Free c ds
digits-free c off [] e = tt
digits-free c off (d ∷ ds) e = let p = and_parts _ _ e in (ne_eqb d c (off d p.0), digits-free c off ds p.1)

digit_low : (d : ℕ) → is_ascii_digit d ≡ true → 48 ≤ d
digit_low d e = leb-true 48 d (and_parts _ _ e).0

decimal-spelled : (n : ℕ) → n < 10 ^ 10 → spelled (decimal n) ≡ true
decimal-spelled n small =
    let fits : n < 2 ^ 64 = omega arith in
    let first : ((get_or (decimal n) 0 0 ≡ 48) × (length (decimal n) ≤ 1)) ⊎ (get_or (decimal n) 0 0 ≡ 48 → ⊥) =
    elim (cases_eq n 0) [
      | inl z ↦ (let d : decimal n ≡ 48 ∷ [] = ap decimal z ∙ decimal_digit 0 (omega arith) in inl (ap (λ bs. get_or bs 0 0) d, omega (arith, ap length d)))
      | inr h ↦ inr (λ e. omega (arith, first_decimal n (let p : 0 < n = omega arith in p) fits))
    ] in
    spelled-from (decimal n) (decimal_nonempty n fits) (length-decimal-le 10 n (omega arith) small fits) first (digits_decimal own n fits)

module _ (n : ℕ) (small : n < 10 ^ 10) where
  fits : n < 2 ^ 64
  fits = omega arith

  decimal-read : value (decimal n) ≡ n
  decimal-read = digits_value-decimal own n fits

  decimal-no-comma : Free comma (decimal n)
  decimal-no-comma = digits-free comma (λ d e z. omega (arith, digit_low d e)) (decimal n) (digits_decimal own n fits)

  decimal-no-end : Free line_end (decimal n)
  decimal-no-end = digits-free line_end (λ d e z. omega (arith, digit_low d e)) (decimal n) (digits_decimal own n fits)

pub written : (k : FieldKind) (n : ℕ) → admits k n ≡ true → Written k n
written Letter n e =
    record {
      spelled = and_from _ _ refl e;
      read = refl;
      no-comma = (grind (arith, nat_tests), tt);
      no_end = (grind (arith, nat_tests), tt);
    }
written Number n e =
    let small : n < 10 ^ 10 = omega (arith, leb-true n 4294967295 (and_parts _ _ e).1) in
    record { spelled = decimal-spelled n small; read = decimal-read n small; no-comma = decimal-no-comma n small; no_end = decimal-no-end n small }
written Measure n e =
    let small : n < 10 ^ 10 = omega (arith, leb-true n 65535 e) in
    record { spelled = decimal-spelled n small; read = decimal-read n small; no-comma = decimal-no-comma n small; no_end = decimal-no-end n small }
written Weight n e =
    let small : n < 10 ^ 10 = omega (arith, leb-true n 1000 e) in
    record { spelled = decimal-spelled n small; read = decimal-read n small; no-comma = decimal-no-comma n small; no_end = decimal-no-end n small }

-- the same of all fields of a line
pub writes_read : (ks : List FieldKind) (fs : List (List ℕ)) → length fs ≡ length ks → pass spells ks fs ≡ true → paired writing ks (paired reading ks fs) ≡ fs
writes_read [] [] e h = refl
writes_read [] (f ∷ fs) e h = absurd (omega arith)
writes_read (k ∷ ks) [] e h = absurd (omega arith)
writes_read (k ∷ ks) (f ∷ fs) e h = let p = and_parts _ _ h in ap₂ (λ x xs. x ∷ xs) (write_read k f p.0) (writes_read ks fs (omega arith) p.1)

pub reads-written : (ks : List FieldKind) (ns : List ℕ) → length ns ≡ length ks → pass admits ks ns ≡ true → paired reading ks (paired writing ks ns) ≡ ns
reads-written [] [] e h = refl
reads-written [] (n ∷ ns) e h = absurd (omega arith)
reads-written (k ∷ ks) [] e h = absurd (omega arith)
reads-written (k ∷ ks) (n ∷ ns) e h = let p = and_parts _ _ h in ap₂ (λ x xs. x ∷ xs) (written k n p.0).read (reads-written ks ns (omega arith) p.1)

pub spells-written : (ks : List FieldKind) (ns : List ℕ) → pass admits ks ns ≡ true → pass spells ks (paired writing ks ns) ≡ true
spells-written [] ns h = refl
spells-written (k ∷ ks) [] h = refl
spells-written (k ∷ ks) (n ∷ ns) h = let p = and_parts _ _ h in and_from _ _ (written k n p.0).spelled (spells-written ks ns p.1)

pub commas_written : (ks : List FieldKind) (ns : List ℕ) → pass admits ks ns ≡ true → Each (Free comma) (paired writing ks ns)
commas_written [] ns h = tt
commas_written (k ∷ ks) [] h = tt
commas_written (k ∷ ks) (n ∷ ns) h = let p = and_parts _ _ h in ((written k n p.0).no-comma, commas_written ks ns p.1)

pub ends-written : (ks : List FieldKind) (ns : List ℕ) → pass admits ks ns ≡ true → Each (Free line_end) (paired writing ks ns)
ends-written [] ns h = tt
ends-written (k ∷ ks) [] h = tt
ends-written (k ∷ ks) (n ∷ ns) h = let p = and_parts _ _ h in ((written k n p.0).no_end, ends-written ks ns p.1)
