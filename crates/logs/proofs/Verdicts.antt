-- Refusals, one check after another.
use Rattle.std.proofs.Common.{◌≡◌, ℕ, suc, Bool, true, false, not, eqb, List, [], ◌∷◌, length, Some, None, Ok, Err, Option, refl, ap, ◌∙◌, arith}
use Rattle.std.proofs.lemmas.Bool.{not-false, eqb-true, eq-eqb, ne_eqb, not_from_true}
use Rattle.stations.specs.declared.fault.Fault.{Fault}
use Rattle.stations.specs.declared.fault.Code.TheVariants.{BadField, OutOfRange}
use Rattle.stations.specs.Faults.{fault, refuse_if, or_else, verdict}
use Rattle.logs.specs.Pieces.{fields_of}
use Rattle.logs.specs.Fields.{spells, admits, pass, paired, reading}
use Rattle.logs.specs.Checks.{line_fault, numbers_of, field_fault}
use Rattle.logs.specs.declared.field.FieldKind.{FieldKind}
use Rattle.logs.proofs.Ranges.{pass-from, pass-none}

pub verdict-ok : (o : Option Fault) → Ok tt ≡ verdict o → o ≡ None
verdict-ok None e = refl
verdict-ok (Some f) e = let z : ◌≡◌ {A = ℕ} 0 1 = cc in absurd (omega arith)

pub verdict-err : (o : Option Fault) (f : Fault) → Err f ≡ verdict o → o ≡ Some f
verdict-err None f e = let z : ◌≡◌ {A = ℕ} 0 1 = cc in absurd (omega arith)
verdict-err (Some g) f e = cc

-- neither of two checks refuses
pub neither : (a b : Option Fault) → or_else a b ≡ None → (a ≡ None) × (b ≡ None)
neither None b e = (refl, e)
neither (Some f) b e = let z : ◌≡◌ {A = ℕ} 0 1 = cc in absurd (omega arith)

pub passed : (t : Bool) (f : Fault) → refuse_if t f ≡ None → t ≡ false
passed true f e = let z : ◌≡◌ {A = ℕ} 0 1 = cc in absurd (omega arith)
passed false f e = refl

pub after_none : (a b : Option Fault) → a ≡ None → or_else a b ≡ b
after_none a b e = rw e

pub at_some : (a b : Option Fault) (f : Fault) → a ≡ Some f → or_else a b ≡ Some f
at_some a b f e = rw e

-- an accepted line
pub record Fine (kinds : List FieldKind) (bytes : List ℕ) : Type 0 where
  pub count : length (fields_of bytes) ≡ length kinds
  pub spelled : pass spells kinds (fields_of bytes) ≡ true
  pub admitted : pass admits kinds (numbers_of kinds bytes) ≡ true

pub fine-from : (line : ℕ) (kinds : List FieldKind) (bytes : List ℕ) → line_fault line kinds bytes ≡ None → Fine kinds bytes
fine-from line kinds bytes e =
    let a = neither (refuse_if (not (eqb (length (fields_of bytes)) (length kinds))) (fault BadField line 0)) _ e in
    let b = neither (field_fault spells BadField line 1 kinds (fields_of bytes)) _ a.1 in
    record {
      count = eqb-true _ _ (not-false _ (passed _ _ a.0));
      spelled = pass-from spells BadField line 1 kinds (fields_of bytes) b.0;
      admitted = pass-from admits OutOfRange line 1 kinds (numbers_of kinds bytes) b.1;
    }

pub fine-none : (line : ℕ) (kinds : List FieldKind) (bytes : List ℕ) → Fine kinds bytes → line_fault line kinds bytes ≡ None
fine-none line kinds bytes h =
    let t : not (eqb (length (fields_of bytes)) (length kinds)) ≡ false = not_from_true _ (eq-eqb _ _ h.count) in
    ap (λ x. or_else (refuse_if x (fault BadField line 0)) (or_else (field_fault spells BadField line 1 kinds (fields_of bytes)) (field_fault admits OutOfRange line 1 kinds (numbers_of kinds bytes)))) t
    ∙ after_none (field_fault spells BadField line 1 kinds (fields_of bytes)) _ (pass-none spells BadField line 1 kinds (fields_of bytes) h.spelled)
    ∙ pass-none admits OutOfRange line 1 kinds (numbers_of kinds bytes) h.admitted

-- what a line is refused for: how many fields it has, how one is written, or what one says
pub refused_count : (line : ℕ) (kinds : List FieldKind) (bytes : List ℕ) → (length (fields_of bytes) ≡ length kinds → ⊥) → line_fault line kinds bytes ≡ Some (fault BadField line 0)
refused_count line kinds bytes off =
    let t : eqb (length (fields_of bytes)) (length kinds) ≡ false = ne_eqb _ _ off in
    at_some _ _ _ (ap (λ x. refuse_if (not x) (fault BadField line 0)) t)

module _ (line : ℕ) (kinds : List FieldKind) (bytes : List ℕ) (f : Fault) (count : length (fields_of bytes) ≡ length kinds) where
  counted : refuse_if (not (eqb (length (fields_of bytes)) (length kinds))) (fault BadField line 0) ≡ None
  counted = ap (λ x. refuse_if (not x) (fault BadField line 0)) (eq-eqb _ _ count)

  pub refused_spelling : field_fault spells BadField line 1 kinds (fields_of bytes) ≡ Some f → line_fault line kinds bytes ≡ Some f
  refused_spelling e = after_none _ _ counted ∙ at_some _ (field_fault admits OutOfRange line 1 kinds (numbers_of kinds bytes)) f e

  pub refused_range : field_fault spells BadField line 1 kinds (fields_of bytes) ≡ None → field_fault admits OutOfRange line 1 kinds (numbers_of kinds bytes) ≡ Some f → line_fault line kinds bytes ≡ Some f
  refused_range none e = after_none _ _ counted ∙ after_none _ _ none ∙ e

-- a line of n fields says n numbers
pub length-paired : {A B : Type 0} (f : FieldKind → A → B) (ks : List FieldKind) (xs : List A) → length xs ≡ length ks → length (paired f ks xs) ≡ length ks
length-paired f [] xs e = refl
length-paired f (k ∷ ks) [] e = absurd (omega arith)
length-paired f (k ∷ ks) (x ∷ xs) e = ap suc (length-paired f ks xs (omega arith))

-- the numbers of an accepted line: as many as its kinds, and each in range
pub fine-numbers : (line : ℕ) (kinds : List FieldKind) (bytes ns : List ℕ) → line_fault line kinds bytes ≡ None → ns ≡ numbers_of kinds bytes → (length ns ≡ length kinds) × (pass admits kinds ns ≡ true)
fine-numbers line kinds bytes ns e is =
    let fine = fine-from line kinds bytes e in
    (ap length is ∙ length-paired reading kinds (fields_of bytes) fine.count, ap (pass admits kinds) is ∙ fine.admitted)
