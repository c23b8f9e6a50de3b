-- What bytes that load are, in words that do not speak of a walk.
use Rattle.std.specs.Prelude.{◌≡◌, ℕ, ◌%◌, ◌≤◌, true, List, length}
use Rattle.books.specs.Books.{slot, IsLive, Lawful}
use Rattle.stored.specs.Layout.{is_padded}
use Rattle.stored.specs.Loading.{page_bytes, spelled_book}

-- whole pages, 1 to 256 of them, that spell a lawful book
pub record Sound (bytes : List ℕ) : Type 0 where
  pub whole : length bytes % 256 ≡ 0
  pub some : 256 ≤ length bytes
  pub few : length bytes ≤ 65536
  -- bytes 2 to 7 of a page that can be read are 0
  pub padded : (p : ℕ) → IsLive (slot (spelled_book bytes) p) → is_padded (page_bytes bytes p) ≡ true
  pub lawful : Lawful (spelled_book bytes)
