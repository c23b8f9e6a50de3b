-- A whole book, written or refused.
use Rattle.std.proofs.Common.{◌≡◌, ℕ, ◌*◌, ◌^◌, ◌<◌, ◌≤◌, ◌⊎◌, List, ◌++◌, length, drop, Some, None, ap, ◌∙◌, arith}
use Rattle.std.specs.List.{AllByRecursion as Each}
use Rattle.std.proofs.lemmas.List.{take_at, drop_at}
use Rattle.std.proofs.lemmas.Bool.Decides.{nat_tests}
use Rattle.stations.specs.declared.fault.Fault.{Fault}
use Rattle.stations.specs.declared.fault.Code.TheVariants.{ShortBuffer}
use Rattle.stations.specs.declared.station.Station.{Station}
use Rattle.stations.specs.Beating.{Ordinary}
use Rattle.stations.specs.Faults.{placeless}
use Rattle.stations.specs.Rows.{row_fault}
use Rattle.rolls.specs.Rolls.{roll_book}
use Rattle.rolls.proofs.Accepting.{sound}
use Rattle.stored.specs.Loading.{load_fault, spelled_book}
use Rattle.writer.specs.declared.keys.CodeKey.{CodeKey}
use Rattle.writer.specs.Bytes.{book_bytes}
use Rattle.writer.specs.Keys.{code_order}
use Rattle.writer.specs.Writing.{write_fault, Written, Storable}
use Rattle.writer.proofs.Rows.{accepted, sound-order, pages-order, reads-back}

module _ (row : List Station) (places bytes : ℕ) where
  pub row-refused : (f : Fault) → row_fault row ≡ Some f → write_fault row places bytes ≡ Some f
  unfolding write_fault
  row-refused f e = rw e

  pub short-refused : row_fault row ≡ None → (places < length row) ⊎ (bytes < 256 * length (roll_book row)) → write_fault row places bytes ≡ Some (placeless ShortBuffer)
  unfolding write_fault
  short-refused e h = rw e (grind (arith, nat_tests))

  pub none-refused : row_fault row ≡ None → length row ≤ places → 256 * length (roll_book row) ≤ bytes → write_fault row places bytes ≡ None
  unfolding write_fault
  none-refused e a b = rw e (grind (arith, nat_tests))

pub storable : (row : List Station) → row_fault row ≡ None → Each (λ s. s.number < 2 ^ 32) row → Each (λ s. Ordinary s.at) row → Storable row
storable row fine numbers measures = record { sound = sound row fine measures; numbers = numbers }

pub order-fine : (row sorted : List Station) → Storable row → sorted ≡ code_order row → row_fault sorted ≡ None
order-fine row sorted h e = ap row_fault e ∙ accepted (code_order row) (sound-order row h.sound)

pub order-pages : (row sorted : List Station) → sorted ≡ code_order row → length (roll_book sorted) ≡ length (roll_book row)
order-pages row sorted e = ap (λ r. length (roll_book r)) e ∙ pages-order row

pub written : (row sorted : List Station) (work work' : List CodeKey) (book put : List ℕ) (pages : ℕ) → Storable row → sorted ≡ code_order row → pages ≡ length (roll_book row)
    → put ≡ book_bytes (roll_book sorted) → length put ≡ 256 * pages → drop (length row) work' ≡ drop (length row) work
    → Written row work work' book (put ++ drop (256 * pages) book) (256 * pages)
written row sorted work work' book put pages h e many is full kept =
    let rest = drop (256 * pages) book in
    let bytes = take_at put rest (256 * pages) full ∙ is ∙ ap (λ r. book_bytes (roll_book r)) e in
    record {
      sized = ap (λ n. 256 * n) many;
      bytes = bytes;
      spells = ap spelled_book bytes ∙ (reads-back row h).spells;
      loads = ap load_fault bytes ∙ (reads-back row h).loads;
      after = drop_at put rest (256 * pages) full;
      kept = kept;
    }
