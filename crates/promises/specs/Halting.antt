-- Which refusals a search that stands can give.
use Rattle.std.specs.Prelude.{◌≡◌, ℕ, ◌⊎◌, Err}
use Rattle.stations.specs.declared.fault.Fault.{Fault}
use Rattle.stations.specs.declared.fault.Code.TheVariants.{DeadPage, WaitingFull, ListFull}
use Rattle.books.specs.Books.{Book}
use Rattle.promises.specs.Queries.{Query}
use Rattle.promises.specs.Searching.{Limits, next}

-- a dead page, too much waiting, or a full list; never a page that is not in the book
abbrev pub HaltsOnly : Type 0
HaltsOnly = (q : Query) (b : Book) (limits : Limits) (n : ℕ) (f : Fault) → next q b limits n ≡ Err f → (f.code ≡ DeadPage) ⊎ ((f.code ≡ WaitingFull) ⊎ (f.code ≡ ListFull))
