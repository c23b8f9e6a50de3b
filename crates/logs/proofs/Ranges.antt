-- Numbers that are in the range of their kind.
use Rattle.std.proofs.Common.{◌≡◌, ℕ, zero, suc, ◌+◌, ◌^◌, ◌<◌, ◌≤◌, Bool, true, false, not, ◌&&◌, List, [], ◌∷◌, length, get_or, None, sym, refl, ap, ◌∙◌, arith}
use Rattle.std.proofs.lemmas.Bool.{and_parts, leb-true}
use Rattle.stations.specs.declared.fault.Code.{Code}
use Rattle.stations.specs.Faults.{fault, refuse_if, or_else}
use Rattle.stations.specs.Beating.{Ordinary}
use Rattle.logs.specs.Fields.{admits, pass, question_line}
use Rattle.logs.specs.Checks.{field_fault, measures_at}
use Rattle.logs.specs.declared.field.FieldKind.{FieldKind}
use Rattle.logs.specs.declared.field.FieldKind.TheVariants.{Letter, Measure, Weight}

module _ {A : Type 0} (test : FieldKind → A → Bool) where
  -- each passes its own test
  pub pass-at : (ks : List FieldKind) (xs : List A) (i : ℕ) (d : A) → pass test ks xs ≡ true → i < length ks → i < length xs → test (get_or ks i Letter) (get_or xs i d) ≡ true
  pass-at [] xs i d e inK inX = absurd (omega arith)
  pass-at (k ∷ ks) [] i d e inK inX = absurd (omega arith)
  pass-at (k ∷ ks) (x ∷ xs) zero d e inK inX = (and_parts _ _ e).0
  pass-at (k ∷ ks) (x ∷ xs) (suc i) d e inK inX = pass-at ks xs i d (and_parts _ _ e).1 (omega arith) (omega arith)

  -- no refusal is the same as all passing
  pub pass-from : (code : Code) (line j : ℕ) (ks : List FieldKind) (xs : List A) → field_fault test code line j ks xs ≡ None → pass test ks xs ≡ true
  pass-from code line j [] xs e = refl
  pass-from code line j (k ∷ ks) [] e = refl
  pass-from code line j (k ∷ ks) (x ∷ xs) e = go (test k x) (pass-from code line (suc j) ks xs) e
    where
      go : (t : Bool) → (field_fault test code line (suc j) ks xs ≡ None → pass test ks xs ≡ true) → or_else (refuse_if (not t) (fault code line j)) (field_fault test code line (suc j) ks xs) ≡ None → (t && pass test ks xs) ≡ true
      go true later h = later h
      go false later h = let z : ◌≡◌ {A = ℕ} 0 1 = cc in absurd (omega arith)

  pub pass-none : (code : Code) (line j : ℕ) (ks : List FieldKind) (xs : List A) → pass test ks xs ≡ true → field_fault test code line j ks xs ≡ None
  pass-none code line j [] xs e = refl
  pass-none code line j (k ∷ ks) [] e = refl
  pass-none code line j (k ∷ ks) (x ∷ xs) e =
      ap (λ t. or_else (refuse_if (not t) (fault code line j)) (field_fault test code line (suc j) ks xs)) (and_parts _ _ e).0
      ∙ pass-none code line (suc j) ks xs (and_parts _ _ e).1

-- four numbers that are in the range of measures
pub ordinary-at : (ks : List FieldKind) (ns : List ℕ) (i : ℕ) → pass admits ks ns ≡ true → length ns ≡ length ks → i + 4 ≤ length ks
    → get_or ks i Letter ≡ Measure → get_or ks (i + 1) Letter ≡ Measure → get_or ks (i + 2) Letter ≡ Measure → get_or ks (i + 3) Letter ≡ Measure → Ordinary (measures_at i ns)
ordinary-at ks ns i e len fits k0 k1 k2 k3 =
    let small : (j : ℕ) → j < length ks → get_or ks j Letter ≡ Measure → get_or ns j 0 < 2 ^ 16 =
    λ j h k. let t : admits Measure (get_or ns j 0) ≡ true = ap (λ x. admits x (get_or ns j 0)) (sym k) ∙ pass-at admits ks ns j 0 e h (omega arith) in omega (arith, leb-true (get_or ns j 0) 65535 t) in
    record { in1 = small i (omega arith) k0; in2 = small (i + 1) (omega arith) k1; in3 = small (i + 2) (omega arith) k2; in4 = small (i + 3) (omega arith) k3 }

-- a number in the place of a weight
pub weight_at : (ns : List ℕ) → pass admits question_line ns ≡ true → length ns ≡ 14 → (i : ℕ) → i < 14 → get_or question_line i Letter ≡ Weight → get_or ns i 0 ≤ 1000
weight_at ns e long i h k =
    let t : admits Weight (get_or ns i 0) ≡ true = ap (λ x. admits x (get_or ns i 0)) (sym k) ∙ pass-at admits question_line ns i 0 e h (omega arith) in
    leb-true (get_or ns i 0) 1000 t

-- all four of them
pub weights-small : (ns : List ℕ) → pass admits question_line ns ≡ true → length ns ≡ 14 → (get_or ns 10 0 ≤ 1000) × (get_or ns 11 0 ≤ 1000) × (get_or ns 12 0 ≤ 1000) × (get_or ns 13 0 ≤ 1000)
weights-small ns e long =
    (weight_at ns e long 10 (omega arith) refl, weight_at ns e long 11 (omega arith) refl, weight_at ns e long 12 (omega arith) refl, weight_at ns e long 13 (omega arith) refl)
