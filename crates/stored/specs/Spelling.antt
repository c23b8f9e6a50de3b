-- The book that bytes spell, said page by page.
use Rattle.std.specs.Prelude.{◌≡◌, ℕ, ◌<◌, ◌≤◌, List, length}
use Rattle.books.specs.Books.{Book, slot, Lawful}
use Rattle.stored.specs.Layout.{spelled_slot}
use Rattle.stored.specs.Loading.{page_count, page_bytes, spelled_book}

-- each page of the bytes spells the book's page of that number
pub record Spells (bytes : List ℕ) (b : Book) : Type 0 where
  pub sized : length b ≡ page_count bytes
  pub each : (p : ℕ) → p < length b → spelled_slot (page_bytes bytes p) ≡ slot b p

-- bytes whose pages spell a lawful book spell that book
abbrev pub PagesSpellBooks : Type 0
PagesSpellBooks = (bytes : List ℕ) (b : Book) → length b ≤ 256 → Lawful b → Spells bytes b → spelled_book bytes ≡ b

-- only what the pages spell matters: bytes that the layout ignores change nothing
abbrev pub PagesDecide : Type 0
PagesDecide = (xs ys : List ℕ) → page_count xs ≡ page_count ys → ((p : ℕ) → p < page_count xs → spelled_slot (page_bytes xs p) ≡ spelled_slot (page_bytes ys p)) → spelled_book xs ≡ spelled_book ys
