-- The fields of a line, one after the other.
use Rattle.std.proofs.Common.{◌≡◌, ℕ, suc, ◌+◌, ◌<◌, ◌≤◌, Bool, true, false, cond, not, ltb, List, [], ◌∷◌, ◌++◌, length, get_or, take, drop, set, Some, None, Option, sym, refl, ap, ◌∙◌, subst, ap₂, ⊎_elim, add-one, arith}
use Rattle.std.specs.List.{zip, position, position_or_len}
use Rattle.std.specs.Option.{option_map}
use Rattle.stations.specs.declared.fault.Fault.{Fault}
use Rattle.stations.specs.declared.fault.Code.{Code}
use Rattle.stations.specs.Faults.{fault, refuse_if, or_else}
use Rattle.std.proofs.lemmas.List.{drop_more, drop_all, length-drop, length-set, take_more_set, take_all, append-nil, append_assoc}
use Rattle.std.proofs.ByRecursion.{All-drop}
use Rattle.std.proofs.lemmas.Bool.{cases_lt, lt-ltb, le-ltb}
use Rattle.stations.specs.declared.fault.Code.TheVariants.{BadField}
use Rattle.logs.specs.Pieces.{line_end, fields_of}
use Rattle.logs.specs.Fields.{spells, reading, paired}
use Rattle.logs.specs.Checks.{field_fault, numbers_of}
use Rattle.logs.specs.Tokens.{front}
use Rattle.logs.specs.Lines.{Free}
use Rattle.logs.specs.Values.{Said}
use Rattle.logs.proofs.Cuts.{next, front_piece, front_whole, free_behind}
use Rattle.logs.specs.declared.field.FieldKind.{FieldKind}
use Rattle.logs.specs.declared.field.FieldKind.TheVariants.{Letter}

module _ {A : Type 0} (test : FieldKind → A → Bool) (code : Code) (line : ℕ) (ks : List FieldKind) (xs : List A) where
  -- what the fields from place j on are refused for; they are counted from 1
  abbrev pub left : ℕ → Option Fault
  left j = field_fault test code line (j + 1) (drop j ks) (drop j xs)

  left_step : (j : ℕ) (d : A) → j < length ks → j < length xs → left j ≡ or_else (refuse_if (not (test (get_or ks j Letter) (get_or xs j d))) (fault code line (j + 1))) (left (j + 1))
  left_step j d inK inX =
      ap₂ (field_fault test code line (j + 1)) (drop_more ks j Letter inK) (drop_more xs j d inX)
      ∙ ap (λ n. or_else (refuse_if (not (test (get_or ks j Letter) (get_or xs j d))) (fault code line (j + 1))) (field_fault test code line n (drop (j + 1) ks) (drop (j + 1) xs))) (sym (add-one (j + 1)))

  -- the field passes its test
  pub left-pass : (j : ℕ) (d : A) → j < length ks → j < length xs → test (get_or ks j Letter) (get_or xs j d) ≡ true → left j ≡ left (j + 1)
  left-pass j d inK inX e = left_step j d inK inX ∙ ap (λ t. or_else (refuse_if (not t) (fault code line (j + 1))) (left (j + 1))) e

  -- or it does not
  pub left_fail : (j : ℕ) (d : A) → j < length ks → j < length xs → test (get_or ks j Letter) (get_or xs j d) ≡ false → left j ≡ Some (fault code line (j + 1))
  left_fail j d inK inX e = left_step j d inK inX ∙ ap (λ t. or_else (refuse_if (not t) (fault code line (j + 1))) (left (j + 1))) e

  -- and all have passed
  pub left-none : (j : ℕ) → length ks ≤ j → left j ≡ None
  left-none j past = ap (λ ys. field_fault test code line (j + 1) ys (drop j xs)) (drop_all j ks past)

-- the first pair that fails its test, and the refusal
module _ {A : Type 0} (test : FieldKind → A → Bool) (code : Code) (line : ℕ) where
  abbrev pub fails : FieldKind × A → Bool
  fails p = not (test p.0 p.1)

  fault_at : (j : ℕ) (ks : List FieldKind) (xs : List A) → field_fault test code line j ks xs ≡ option_map (λ i. fault code line (j + i)) (position fails (zip ks xs))
  fault_at j [] xs = refl
  fault_at j (k ∷ ks) [] = refl
  fault_at j (k ∷ ks) (x ∷ xs) = go (test k x) (fault_at (suc j) ks xs)
    where
      P : ℕ
      P = position_or_len fails (zip ks xs)

      go : (t : Bool) → field_fault test code line (suc j) ks xs ≡ option_map (λ i. fault code line (suc j + i)) (position fails (zip ks xs))
          → or_else (refuse_if (not t) (fault code line j)) (field_fault test code line (suc j) ks xs) ≡ option_map (λ i. fault code line (j + i)) (cond (ltb (cond (not (not t)) (1 + P) 0) (suc (length (zip ks xs)))) (Some (cond (not (not t)) (1 + P) 0)) None)
      go true e =
          ⊎_elim
          (λ lt.
          let a : ltb P (length (zip ks xs)) ≡ true = lt-ltb _ _ lt in
          let b : ltb (1 + P) (suc (length (zip ks xs))) ≡ true = lt-ltb _ _ (omega arith) in
          let n : suc j + P ≡ j + (1 + P) = omega arith in
          e ∙ ap (λ t. option_map (λ i. fault code line (suc j + i)) (cond t (Some P) None)) a ∙ ap (λ m. Some (fault code line m)) n
          ∙ sym (ap (λ t. option_map (λ i. fault code line (j + i)) (cond t (Some (1 + P)) None)) b))
          (λ past.
          let a : ltb P (length (zip ks xs)) ≡ false = le-ltb _ _ past in
          let b : ltb (1 + P) (suc (length (zip ks xs))) ≡ false = le-ltb _ _ (omega arith) in
          e ∙ ap (λ t. option_map (λ i. fault code line (suc j + i)) (cond t (Some P) None)) a
          ∙ sym (ap (λ t. option_map (λ i. fault code line (j + i)) (cond t (Some (1 + P)) None)) b))
          (cases_lt P (length (zip ks xs)))
      go false e =
          let b : ltb 0 (suc (length (zip ks xs))) ≡ true = lt-ltb _ _ (omega arith) in
          let n : j ≡ j + 0 = omega arith in
          ap (λ m. Some (fault code line m)) n ∙ sym (ap (λ t. option_map (λ i. fault code line (j + i)) (cond t (Some 0) None)) b)

  pub fault_found : (ks : List FieldKind) (xs : List A) (r : Option ℕ) → r ≡ position fails (zip ks xs) → field_fault test code line 1 ks xs ≡ option_map (λ i. fault code line (i + 1)) r
  fault_found ks xs r is = fault_at 1 ks xs ∙ ap (option_map (λ i. fault code line (1 + i))) (sym is) ∙ swap r
    where
      swap : (o : Option ℕ) → option_map (λ i. fault code line (1 + i)) o ≡ option_map (λ i. fault code line (i + 1)) o
      swap None = refl
      swap (Some i) = let n : 1 + i ≡ i + 1 = omega arith in ap (λ m. Some (fault code line m)) n

-- the numbers of the fields before place j are in their places, and the fields from j on are those of the rest
pub record Going (line : ℕ) (bytes : List ℕ) (kinds : List FieldKind) (ns : List ℕ) (j : ℕ) (rest : List ℕ) : Type 0 where
  pub decides : left spells BadField line kinds (fields_of bytes) j ≡ field_fault spells BadField line 1 kinds (fields_of bytes)
  pub numbers : take j ns ++ paired reading (drop j kinds) (drop j (fields_of bytes)) ≡ numbers_of kinds bytes
  pub places : length ns ≡ length kinds
  pub free : Free line_end rest
  pub goes : j < length kinds → drop j (fields_of bytes) ≡ fields_of rest

module _ {line : ℕ} {bytes : List ℕ} {kinds : List FieldKind} {ns : List ℕ} {j : ℕ} {rest : List ℕ} (count : length (fields_of bytes) ≡ length kinds) (more : j < length kinds) (g : Going line bytes kinds ns j rest) where
  within : j < length (fields_of bytes)
  within = omega arith

  -- the field at place j, and those behind it
  split : (after : List ℕ) → rest ≡ front rest ++ after → get_or (fields_of bytes) j [] ∷ drop (j + 1) (fields_of bytes) ≡ front rest ∷ next after
  split after e = sym (drop_more (fields_of bytes) j [] within) ∙ g.goes more ∙ front_piece rest after g.free e

  field_is : get_or (fields_of bytes) j [] ≡ front rest
  field_is = cc (split _ (front_whole rest))

  -- the field is not written as its kind asks
  pub going_fail : spells (get_or kinds j Letter) (front rest) ≡ false → field_fault spells BadField line 1 kinds (fields_of bytes) ≡ Some (fault BadField line (j + 1))
  going_fail e = sym g.decides ∙ left_fail spells BadField line kinds (fields_of bytes) j [] more within (ap (spells (get_or kinds j Letter)) field_is ∙ e)

  -- it is, and says n
  pub going_more : (n : ℕ) (after : List ℕ) → Said (get_or kinds j Letter) rest n after → Going line bytes kinds (set ns j n) (j + 1) (drop 1 after)
  going_more n after said =
      let F = fields_of bytes in
      let k = get_or kinds j Letter in
      let says : reading k (get_or F j []) ≡ n = ap (reading k) field_is ∙ sym said.says in
      let later = paired reading (drop (j + 1) kinds) (drop (j + 1) F) in
      let step : paired reading (drop j kinds) (drop j F) ≡ n ∷ later =
      ap₂ (paired reading) (drop_more kinds j Letter more) (drop_more F j [] within) ∙ ap (λ x. x ∷ later) says in
      let lt : j < length ns = omega (arith, g.places) in
      let behind : Free line_end after = free_behind line_end (front rest) after (subst (Free line_end) said.whole g.free) in
      let rest_is : drop (j + 1) F ≡ next after = cc (split after said.whole) in
      record {
        decides = sym (left-pass spells BadField line kinds F j [] more within (ap (spells k) field_is ∙ said.written)) ∙ g.decides;
        numbers =
            ap (λ xs. xs ++ later) (take_more_set ns j n lt)
            ∙ append_assoc (take j ns) (n ∷ []) later
            ∙ ap (λ xs. take j ns ++ xs) (sym step) ∙ g.numbers;
        places = length-set ns j n ∙ g.places;
        free = All-drop _ 1 after behind;
        goes = λ lt. rest_is ∙ next_is after (omega (arith, ap length rest_is, length-drop (j + 1) F, count, lt));
      }
    where
      next_is : (xs : List ℕ) → 0 < length (next xs) → next xs ≡ fields_of (drop 1 xs)
      next_is [] some = absurd (omega arith)
      next_is (x ∷ xs) some = refl

-- every field is read
pub going_all : (line : ℕ) (bytes : List ℕ) (kinds : List FieldKind) (ns : List ℕ) (j : ℕ) (rest : List ℕ) → length kinds ≤ j → Going line bytes kinds ns j rest → (field_fault spells BadField line 1 kinds (fields_of bytes) ≡ None) × (ns ≡ numbers_of kinds bytes)
going_all line bytes kinds ns j rest past g = (
  sym g.decides ∙ left-none spells BadField line kinds (fields_of bytes) j past,
  sym (append-nil ns) ∙ ap (λ xs. xs ++ []) (sym (take_all j ns (omega (arith, g.places))))
      ∙ ap (λ ks. take j ns ++ paired reading ks (drop j (fields_of bytes))) (sym (drop_all j kinds past)) ∙ g.numbers,
)
