-- A header read in one walk, and the line end looked for first.
use Rattle.std.proofs.Common.{◌≡◌, ℕ, suc, ◌+◌, ◌-◌, ◌*◌, ◌^◌, Bool, true, false, cond, eqb, ltb, List, [], ◌∷◌, length, take, drop, Some, None, Option, ◌<◌, ◌≤◌, ⊎_elim, add-one, one-add, sym, refl, ap, ◌∙◌, arith}
use Rattle.std.proofs.lemmas.Bool.{lt-ltb, le-ltb, lt-leb, le-leb, cases_lt}
use Rattle.std.specs.List.{position, position_or_len}
use Rattle.std.specs.Option.{option_and_then}
use Rattle.std.specs.Char.{is_ascii_digit}
use Rattle.frames.specs.Frames.{length_from, header_from, cut, first_frame}

-- the part behind the line end at a place, and what follows it, where the digits before it spell a number behind n
abbrev framed : ℕ → List ℕ → ℕ → Option (List ℕ × List ℕ)
framed n bs e = option_and_then (λ len. cut len (drop (e + 1) bs)) (length_from n (take e bs))

abbrev found : ℕ → List ℕ → Option ℕ → Option (List ℕ × List ℕ)
found n bs at = option_and_then (framed n bs) at

-- a line end behind the first byte
later : (n b : ℕ) (bs : List ℕ) (k : ℕ) (t : Bool) → found n (b ∷ bs) (cond t (Some (suc k)) None) ≡ cond (is_ascii_digit b) (cond (ltb (10 * n + (b - 48)) (2 ^ 64)) (found (10 * n + (b - 48)) bs (cond t (Some k) None)) None) None
later n b bs k true = by (is_ascii_digit b) (ltb (10 * n + (b - 48)) (2 ^ 64)) ∙ ap (λ i. cond (is_ascii_digit b) (cond (ltb (10 * n + (b - 48)) (2 ^ 64)) (option_and_then (λ len. cut len (drop i bs)) (length_from (10 * n + (b - 48)) (take k bs))) None) None) (sym (add-one k))
  where
    by : (d l : Bool) → option_and_then (λ len. cut len (drop (suc k + 1) (b ∷ bs))) (cond d (cond l (length_from (10 * n + (b - 48)) (take k bs)) None) None) ≡ cond d (cond l (option_and_then (λ len. cut len (drop (suc k) bs)) (length_from (10 * n + (b - 48)) (take k bs))) None) None
    by true true = ap (λ i. option_and_then (λ len. cut len (drop i (b ∷ bs))) (length_from (10 * n + (b - 48)) (take k bs))) (add-one (suc k))
    by true false = refl
    by false l = refl
later n b bs k false = by (is_ascii_digit b) (ltb (10 * n + (b - 48)) (2 ^ 64))
  where
    by : (d l : Bool) → ◌≡◌ {A = Option (List ℕ × List ℕ)} None (cond d (cond l None None) None)
    by true true = refl
    by true false = refl
    by false l = refl

less-on : (k m : ℕ) → ltb (1 + k) (suc m) ≡ ltb k m
less-on k m = ⊎_elim (λ (h : k < m). lt-ltb (1 + k) (suc m) (omega arith) ∙ sym (lt-ltb k m h)) (λ (h : m ≤ k). le-ltb (1 + k) (suc m) (omega arith) ∙ sym (le-ltb k m h)) (cases_lt k m)

past : {A B : Type 0} (f : A → Option B) (d l : Bool) (o : Option A) → option_and_then f (cond d (cond l o None) None) ≡ cond d (cond l (option_and_then f o) None) None
past f true true o = refl
past f true false o = refl
past f false l o = refl

pub header_is : (n : ℕ) (bs : List ℕ) → option_and_then (λ h. cut h.0 h.1) (header_from n bs) ≡ found n bs (position (λ b. eqb b 10) bs)
header_is n [] = refl
header_is n (b ∷ bs) = go (eqb b 10) refl (header_is (10 * n + (b - 48)) bs)
  where
    k : ℕ
    k = position_or_len (λ b. eqb b 10) bs

    go : (t : Bool) → eqb b 10 ≡ t → option_and_then (λ h. cut h.0 h.1) (header_from (10 * n + (b - 48)) bs) ≡ found (10 * n + (b - 48)) bs (position (λ b. eqb b 10) bs) → option_and_then (λ h. cut h.0 h.1) (header_from n (b ∷ bs)) ≡ found n (b ∷ bs) (position (λ b. eqb b 10) (b ∷ bs))
    go true e h = rw e (ap (λ t. found n (b ∷ bs) (cond t (Some 0) None)) (sym (lt-ltb 0 (suc (length bs)) (omega arith))))
    go false e h = rw e (
        past (λ h. cut h.0 h.1) (is_ascii_digit b) (ltb (10 * n + (b - 48)) (2 ^ 64)) (header_from (10 * n + (b - 48)) bs)
        ∙ ap (λ x. cond (is_ascii_digit b) (cond (ltb (10 * n + (b - 48)) (2 ^ 64)) x None) None) h
        ∙ sym (later n b bs k (ltb k (length bs)))
        ∙ ap (λ t. found n (b ∷ bs) (cond t (Some (suc k)) None)) (sym (less-on k (length bs)))
        ∙ ap (λ i. found n (b ∷ bs) (cond (ltb (1 + k) (suc (length bs))) (Some i) None)) (sym (one-add k))
        )

module _ (input : List ℕ) where
  pub no_header : header_from 0 input ≡ None → None ≡ first_frame input
  no_header e = sym (ap (option_and_then (λ h. cut h.0 h.1)) e) ∙ header_is 0 input

  module _ (len : ℕ) (rest : List ℕ) (e : header_from 0 input ≡ Some (len, rest)) where
    is-cut : cut len rest ≡ first_frame input
    is-cut = sym (ap (option_and_then (λ h. cut h.0 h.1)) e) ∙ header_is 0 input

    pub too_short : length rest < len → None ≡ first_frame input
    too_short h = ap (λ t. cond t (Some (take len rest, drop len rest)) None) (sym (lt-leb len (length rest) h)) ∙ is-cut

    pub frame-is : len ≤ length rest → Some (take len rest, drop len rest) ≡ first_frame input
    frame-is h = ap (λ t. cond t (Some (take len rest, drop len rest)) None) (sym (le-leb len (length rest) h)) ∙ is-cut
