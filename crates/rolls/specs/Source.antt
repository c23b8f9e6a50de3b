-- What a roll means as a page source.
use Rattle.std.specs.Prelude.{ℕ, List, length, Some, None, Option, refl}
use Rattle.std.proofs.Common.{arith}
use Rattle.stations.specs.declared.fault.Fault.{Fault}
use Rattle.stations.specs.declared.station.Station.{Station}
use Rattle.books.specs.Books.{Book}
use Rattle.sources.specs.Sources.{SourceLaws}
use Rattle.rolls.specs.declared.roll.Roll.{Roll}
use Rattle.rolls.specs.Rolls.{roll_book}
use Rattle.books.specs.Facts.{lawful_out}

-- the row that the roll reads
abbrev pub row_in : Roll → List Station
row_in s = s.row.now

-- the book that the roll is read as
abbrev pub book_of : Roll → Book
book_of s = roll_book (row_in s)

-- how many pages it has
abbrev pub pages_in : Roll → ℕ
pages_in s = length (book_of s)

-- how many reads were asked of it
abbrev pub reads_of : Roll → ℕ
reads_of s = s.meter

-- a roll is a source
pub roll_laws : SourceLaws Roll 105 book_of pages_in reads_of
roll_laws = record { few = omega arith; some = λ s. s.some; fits = λ s. s.fits; sized = λ s. refl; lawful = λ s. lawful_out (book_of s) s.lawful; metered = λ s. s.metered }

-- the row that is read after one was offered: a row with a fault is not taken
abbrev pub taken : Option Fault → List Station → List Station → List Station
taken (Some f) offered former = former
taken None offered former = offered
