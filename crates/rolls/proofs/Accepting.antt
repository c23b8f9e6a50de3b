-- A row that is not refused is sound.
use Rattle.std.proofs.Common.{◌≡◌, ℕ, suc, ◌+◌, ◌≤◌, Bool, true, false, eqb, ltb, List, [], ◌∷◌, ◌++◌, length, Some, None, Ok, Option, refl, ap, subst, arith}
use Rattle.std.specs.List.{AllByRecursion as Each}
use Rattle.std.proofs.lemmas.List.{append_assoc}
use Rattle.std.proofs.lemmas.Bool.{ltb-false, eqb-false, eqb-true, or_parts}
use Rattle.stations.specs.declared.fault.Fault.{Fault}
use Rattle.stations.specs.declared.fault.Code.TheVariants.{OutOfRange, TooManyStations, RepeatedNumber}
use Rattle.stations.specs.declared.station.Station.{Station}
use Rattle.stations.specs.Beating.{Ordinary}
use Rattle.stations.specs.Counting.{bit, count}
use Rattle.stations.specs.Faults.{fault, placeless, refuse_if, or_else, verdict}
use Rattle.stations.specs.Rows.{holds_number, zero_fault, repeat_fault, most_stations, row_fault}
use Rattle.books.specs.Books.{numbered, Lawful}
use Rattle.rolls.specs.Rolls.{roll_book}
use Rattle.rolls.specs.Laws.{Sound}
use Rattle.rolls.proofs.Pages.{count_append}
use Rattle.rolls.proofs.Books.{rows_make_books}
use Rattle.rolls.proofs.Counts.{length_roll, count-some, count-few}

-- neither of two checks refuses
both-pass : (t : Bool) (f : Fault) (later : Option Fault) → or_else (refuse_if t f) later ≡ None → (t ≡ false) × (later ≡ None)
both-pass true f later e = absurd (let z : ◌≡◌ {A = ℕ} 0 1 = cc in omega arith)
both-pass false f later e = (refl, e)

then-pass : (first later : Option Fault) → or_else first later ≡ None → (first ≡ None) × (later ≡ None)
then-pass (Some f) later e = absurd (let z : ◌≡◌ {A = ℕ} 0 1 = cc in omega arith)
then-pass None later e = (refl, e)

pub passed : (o : Option Fault) → verdict o ≡ Ok tt → o ≡ None
passed (Some f) e = absurd (let z : ◌≡◌ {A = ℕ} 0 1 = cc in omega arith)
passed None e = refl

no_zero : (i : ℕ) (row : List Station) → zero_fault i row ≡ None → Each (λ s. 1 ≤ s.number) row
no_zero i [] e = tt
no_zero i (s ∷ ss) e =
    let h = both-pass (eqb s.number 0) (fault OutOfRange i 0) (zero_fault (suc i) ss) e in
    (let other = eqb-false s.number 0 h.0 in omega arith, no_zero (suc i) ss h.1)

none-held : (n : ℕ) (row : List Station) → holds_number n row ≡ false → count (numbered n) row ≡ 0
none-held n [] e = refl
none-held n (s ∷ ss) e =
    let h = or_parts (eqb s.number n) (holds_number n ss) e in
    omega (arith, ap bit h.0, none-held n ss h.1)

no_repeat : (earlier : List Station) (i : ℕ) (row : List Station) → ((n : ℕ) → count (numbered n) earlier ≤ 1) → repeat_fault earlier i row ≡ None → (n : ℕ) → count (numbered n) (earlier ++ row) ≤ 1
no_repeat earlier i [] h e n = omega (arith, h n, count_append (numbered n) earlier [])
no_repeat earlier i (s ∷ ss) h e n =
    let k = both-pass (holds_number s.number earlier) (fault RepeatedNumber i 0) (repeat_fault (earlier ++ s ∷ []) (suc i) ss) e in
    subst (λ xs. count (numbered n) xs ≤ 1) (append_assoc earlier (s ∷ []) ss) (no_repeat (earlier ++ s ∷ []) (suc i) ss (once k) k.1 n)
  where
    once : (holds_number s.number earlier ≡ false) × (repeat_fault (earlier ++ s ∷ []) (suc i) ss ≡ None) → (m : ℕ) → count (numbered m) (earlier ++ s ∷ []) ≤ 1
    once k m = rw count_append (go (eqb s.number m) refl)
      where
        go : (t : Bool) → eqb s.number m ≡ t → count (numbered m) earlier + (bit t + 0) ≤ 1
        go true p = omega (arith, subst (λ j. count (numbered j) earlier ≡ 0) (eqb-true s.number m p) (none-held s.number earlier k.0))
        go false p = omega (arith, h m)

pub sound : (row : List Station) → row_fault row ≡ None → Each (λ s. Ordinary s.at) row → Sound row
sound row e measures =
    let h = both-pass (ltb most_stations (length row)) (placeless TooManyStations) (or_else (zero_fault 0 row) (repeat_fault [] 0 row)) e in
    let k = then-pass (zero_fault 0 row) (repeat_fault [] 0 row) h.1 in
    record { few = ltb-false most_stations (length row) h.0; numbers = no_zero 0 row k.0; numbered_once = no_repeat [] 0 row (λ n. omega arith) k.1; measures = measures }

-- what a roll carries of its row
pub carried : (row : List Station) → Sound row → (1 ≤ length (roll_book row)) × (length (roll_book row) ≤ 105) × ∥ Lawful (roll_book row) ∥₁
carried row s = (rw length_roll (count-some (length row)), rw length_roll (count-few (length row) s.few), ∣ (rows_make_books row s).lawful ∣₁)

-- no station is a sound row
pub empty_sound : Sound []
empty_sound = record { few = omega arith; numbers = tt; numbered_once = λ n. omega arith; measures = tt }
