-- What a page source means, and what each read gives.
use Rattle.std.specs.Prelude.{◌≡◌, ℕ, ◌^◌, ◌<◌, ◌≤◌, length, take, Ok, Err, MatchBool, Result, nat_lt}
use Rattle.stations.specs.declared.fault.Fault.{Fault}
use Rattle.stations.specs.declared.fault.Code.TheVariants.{PageNumber, DeadPage}
use Rattle.stations.specs.Faults.{fault}
use Rattle.books.specs.Books.{Slot, dead, leaf, node, Book, slot, level, entries_on, Lawful}
use Rattle.sources.specs.declared.page.Page.{Page}

-- the page shows the live slot: its level, and its entries in order
pub record Shows (s : Slot) (page : Page) : Type 0 where
  pub levels : page.level ≡ level s
  pub shown : take page.len page.entries ≡ entries_on s

-- a page comes, and it shows the slot
abbrev pub Seen : Slot → Result Page Fault → Type 0
Seen s (Ok page) = Shows s page
Seen s (Err f) = ⊥

-- what reading gives where the page number is below the count: the page, or a refusal that names a dead one
abbrev pub Gives : ℕ → Slot → Result Page Fault → Type 0
Gives p dead r = r ≡ Err (fault DeadPage p 0)
Gives p (leaf ss) r = Seen (leaf ss) r
Gives p (node l cs) r = Seen (node l cs) r

-- what reading page p of a book of so many pages gives
abbrev pub Reads : Book → ℕ → ℕ → Result Page Fault → Type 0
Reads b count p r = MatchBool (nat_lt p count) (Gives p (slot b p) r) (r ≡ Err (fault PageNumber p 0))

-- what every kind of source owes: how many pages it may hold, and what its book and its count keep
pub record SourceLaws (S : Type 0) (limit : ℕ) (book : S → Book) (pages meter : S → ℕ) : Type 0 where
  pub few : limit ≤ 256
  pub some : (s : S) → 1 ≤ pages s
  pub fits : (s : S) → pages s ≤ limit
  -- a page number below the count is a place of the book, and no page beyond is named
  pub sized : (s : S) → length (book s) ≡ pages s
  pub lawful : (s : S) → Lawful (book s)
  pub metered : (s : S) → meter s < 2 ^ 64
