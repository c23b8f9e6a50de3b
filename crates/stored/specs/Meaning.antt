-- What a stored book means.
use Rattle.std.specs.Prelude.{ℕ}
use Rattle.std.proofs.Common.{arith}
use Rattle.books.specs.Books.{Book}
use Rattle.sources.specs.Sources.{SourceLaws}
use Rattle.stored.specs.declared.stored.Stored.{Stored}
use Rattle.books.specs.Facts.{lawful_out}
use Rattle.stored.specs.Loading.{spelled_book, page_count}

-- the book that its bytes spell
abbrev pub book_of : Stored → Book
book_of s = spelled_book s.bytes.now

-- how many pages it has
abbrev pub pages_of : Stored → ℕ
pages_of s = page_count s.bytes.now

-- the reads that were asked of it, modulo 2 ^ 64
abbrev pub meter_of : Stored → ℕ
meter_of s = s.meter

-- what every source owes, from what the struct carries
pub stored-laws : SourceLaws Stored 256 book_of pages_of meter_of
stored-laws =
    record {
      few = omega arith;
      some = λ s. s.some;
      fits = λ s. s.fits;
      sized = λ s. s.sized;
      lawful = λ s. lawful_out (book_of s) s.lawful;
      metered = λ s. s.metered;
    }
