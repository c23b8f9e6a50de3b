-- Counting, what holds of each element, and tests that pass.
use Rattle.std.proofs.Common.{◌≡◌, ◌+◌, ◌≤◌, Bool, false, List, [], ◌∷◌, ◌++◌, None, Ok, Option, arith}
use Rattle.std.specs.List.{AllByRecursion as Each}
use Rattle.stations.specs.declared.fault.Fault.{Fault}
use Rattle.stations.specs.Faults.{verdict, or_else, refuse_if}
use Rattle.stations.specs.Counting.{bit, count}

pub count_append : {A : Type 0} (t : A → Bool) (xs ys : List A) → count t (xs ++ ys) ≡ count t xs + count t ys
count_append t [] ys = omega arith
count_append t (x ∷ xs) ys = omega (arith, count_append t xs ys)

pub bit_le : (t : Bool) → bit t ≤ 1
bit_le t = grind arith

pub all_of : {A : Type 0} (P : A → Type 0) → ((x : A) → P x) → (xs : List A) → Each P xs
all_of P h [] = tt
all_of P h (x ∷ xs) = (h x, all_of P h xs)

pub all_both : {A : Type 0} (P Q R : A → Type 0) → ((x : A) → P x → Q x → R x) → (xs : List A) → Each P xs → Each Q xs → Each R xs
all_both P Q R h [] ps qs = tt
all_both P Q R h (x ∷ xs) ps qs = (h x ps.0 qs.0, all_both P Q R h xs ps.1 qs.1)

-- neither of two checks refuses
pub both-pass : (a b : Option Fault) → or_else a b ≡ None → (a ≡ None) × (b ≡ None)
both-pass a b e = grind arith

pub not-refused : (t : Bool) (f : Fault) → refuse_if t f ≡ None → t ≡ false
not-refused t f e = grind arith

-- a check that passes leaves the word to the next
pub passes_on : (o later : Option Fault) → o ≡ None → or_else o later ≡ later
passes_on o later e = grind arith

pub passed : (o : Option Fault) → verdict o ≡ Ok tt → o ≡ None
passed o e = grind arith
