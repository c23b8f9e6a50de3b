-- What fills a place of a page where no entry has been put.
use Rattle.books.specs.declared.Entry.{Entry}
use Rattle.books.specs.declared.Entry.TheVariants.{Page, Station}

-- the entry is a station, and names no page
abbrev pub IsStation : Entry → Type 0
IsStation (Page c) = ⊥
IsStation (Station s) = Unit {0}
