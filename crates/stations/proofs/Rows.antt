-- Steps along a row of stations.
use Rattle.std.proofs.Common.{◌≡◌, ℕ, suc, ◌+◌, ◌<◌, Bool, true, false, cond, not, ltb, ◌⊎◌, List, [], ◌∷◌, ◌++◌, length, get_or, take, drop, Some, None, Option, refl, sym, ap, ◌∙◌, inl, inr, ⊎_elim, add-one, arith, ◌==◌}
use Rattle.std.specs.List.{position, position_or_len}
use Rattle.std.specs.Option.{option_map}
use Rattle.std.proofs.lemmas.Bool.{eqb-true, or_cases, or_left, or_right, cases_lt, lt-ltb, le-ltb}
use Rattle.std.proofs.lemmas.List.{at_drop_more, take_more}
use Rattle.stations.specs.declared.station.Station.{Station}
use Rattle.stations.specs.declared.fault.Code.TheVariants.{OutOfRange, RepeatedNumber}
use Rattle.stations.specs.Faults.{fault, refuse_if, or_else}
use Rattle.stations.specs.Rows.{holds_number, zero_fault, repeat_fault}

-- what a read past the end would give
abbrev pub nowhere : Station
nowhere = record { number = 0; at = record { m1 = 0; m2 = 0; m3 = 0; m4 = 0 } }

-- the first station with number 0, and the refusal
abbrev pub zero : Station → Bool
zero s = s.number == 0

zero_at : (j : ℕ) (ss : List Station) → zero_fault j ss ≡ option_map (λ i. fault OutOfRange (j + i) 0) (position zero ss)
zero_at j [] = refl
zero_at j (s ∷ ss) = go (zero s) (zero_at (suc j) ss)
  where
    P : ℕ
    P = position_or_len zero ss

    go : (t : Bool) → zero_fault (suc j) ss ≡ option_map (λ i. fault OutOfRange (suc j + i) 0) (position zero ss)
        → or_else (refuse_if t (fault OutOfRange j 0)) (zero_fault (suc j) ss) ≡ option_map (λ i. fault OutOfRange (j + i) 0) (cond (ltb (cond (not t) (1 + P) 0) (suc (length ss))) (Some (cond (not t) (1 + P) 0)) None)
    go false e =
        ⊎_elim
        (λ lt.
        let a : ltb P (length ss) ≡ true = lt-ltb _ _ lt in
        let b : ltb (1 + P) (suc (length ss)) ≡ true = lt-ltb _ _ (omega arith) in
        let n : suc j + P ≡ j + (1 + P) = omega arith in
        e ∙ ap (λ t. option_map (λ i. fault OutOfRange (suc j + i) 0) (cond t (Some P) None)) a ∙ ap (λ m. Some (fault OutOfRange m 0)) n
        ∙ sym (ap (λ t. option_map (λ i. fault OutOfRange (j + i) 0) (cond t (Some (1 + P)) None)) b))
        (λ past.
        let a : ltb P (length ss) ≡ false = le-ltb _ _ past in
        let b : ltb (1 + P) (suc (length ss)) ≡ false = le-ltb _ _ (omega arith) in
        e ∙ ap (λ t. option_map (λ i. fault OutOfRange (suc j + i) 0) (cond t (Some P) None)) a
        ∙ sym (ap (λ t. option_map (λ i. fault OutOfRange (j + i) 0) (cond t (Some (1 + P)) None)) b))
        (cases_lt P (length ss))
    go true e =
        let b : ltb 0 (suc (length ss)) ≡ true = lt-ltb _ _ (omega arith) in
        let n : j ≡ j + 0 = omega arith in
        ap (λ m. Some (fault OutOfRange m 0)) n ∙ sym (ap (λ t. option_map (λ i. fault OutOfRange (j + i) 0) (cond t (Some 0) None)) b)

pub zero_found : (row : List Station) (r : Option ℕ) → r ≡ position zero row → zero_fault 0 row ≡ option_map (λ i. fault OutOfRange i 0) r
zero_found row r is = zero_at 0 row ∙ ap (option_map (λ i. fault OutOfRange (0 + i) 0)) (sym is) ∙ same r
  where
    same : (o : Option ℕ) → option_map (λ i. fault OutOfRange (0 + i) 0) o ≡ option_map (λ i. fault OutOfRange i 0) o
    same None = refl
    same (Some i) = let n : 0 + i ≡ i = omega arith in ap (λ m. Some (fault OutOfRange m 0)) n

-- a number of a longer row is a number of the row or that of the last station
pub holds-last : (n : ℕ) (row : List Station) (s : Station) → holds_number n (row ++ s ∷ []) ≡ true → (holds_number n row ≡ true) ⊎ (s.number ≡ n)
holds-last n [] s h = ⊎_elim (λ e. inr (eqb-true _ _ e)) (λ e. inl e) (or_cases _ _ h)
holds-last n (t ∷ ts) s h = ⊎_elim (λ e. inl (or_left _ _ e)) (λ later. ⊎_elim (λ e. inl (or_right _ _ e)) (λ e. inr e) (holds-last n ts s later)) (or_cases _ _ h)

module _ (row : List Station) (i : ℕ) (below : i < length row) where
  repeat_at : repeat_fault (take i row) i (drop i row) ≡ or_else (refuse_if (holds_number (get_or row i nowhere).number (take i row)) (fault RepeatedNumber i 0)) (repeat_fault (take (i + 1) row) (i + 1) (drop (i + 1) row))
  repeat_at =
      at_drop_more (repeat_fault (take i row) i) row i nowhere below
      ∙ ap (λ j. or_else (refuse_if (holds_number (get_or row i nowhere).number (take i row)) (fault RepeatedNumber i 0)) (repeat_fault (take i row ++ get_or row i nowhere ∷ []) j (drop (i + 1) row))) (sym (add-one i))
      ∙ ap (λ front. or_else (refuse_if (holds_number (get_or row i nowhere).number (take i row)) (fault RepeatedNumber i 0)) (repeat_fault front (i + 1) (drop (i + 1) row))) (sym (take_more row i nowhere below))

  pub repeat_passed : holds_number (get_or row i nowhere).number (take i row) ≡ false → repeat_fault (take i row) i (drop i row) ≡ repeat_fault (take (i + 1) row) (i + 1) (drop (i + 1) row)
  repeat_passed e = repeat_at ∙ ap (λ t. or_else (refuse_if t (fault RepeatedNumber i 0)) (repeat_fault (take (i + 1) row) (i + 1) (drop (i + 1) row))) e

  pub holds-step : (n : ℕ) → holds_number n (take (i + 1) row) ≡ true → (holds_number n (take i row) ≡ true) ⊎ ((get_or row i nowhere).number ≡ n)
  holds-step n h = holds-last n (take i row) (get_or row i nowhere) (sym (ap (holds_number n) (take_more row i nowhere below)) ∙ h)
