-- When some pages of a book leave no doubt of the answer.
use Rattle.std.specs.Prelude.{◌≡◌, ℕ, ◌⊎◌, List}
use Rattle.std.specs.List.{AllByRecursion as Each}
use Rattle.books.specs.declared.Child.{Child}
use Rattle.books.specs.Lists.{◌∈◌}
use Rattle.books.specs.Books.{Book, slot, children_on, IsLive, Lawful, Whole}
use Rattle.promises.specs.Queries.{Query, answer}

-- w is a whole lawful book that has those of these pages of b that are live, unchanged
pub record Keeps (b : Book) (ps : List ℕ) (w : Book) : Type 0 where
  pub lawful : Lawful w
  pub whole : Whole w
  pub same : Each (λ p. IsLive (slot b p) → slot w p ≡ slot b p) ps

-- the page p is the top, or a page of the list names it
abbrev pub NamedFrom : Book → List ℕ → ℕ → Type 0
NamedFrom b ps p = (p ≡ 0) ⊎ ((n : ℕ) × (c : Child) × (n ∈ ps) × (c ∈ children_on (slot b n)) × (c.page ≡ p))

-- live pages of the book that hang together from the top
pub record Rooted (b : Book) (ps : List ℕ) : Type 0 where
  pub top : 0 ∈ ps
  pub live : Each (λ p. IsLive (slot b p)) ps
  pub hangs : Each (NamedFrom b ps) ps

-- the pages settle the question: every whole lawful book that has them gives the same answer
pub record Settles (q : Query) (b : Book) (ps : List ℕ) : Type 0 where
  pub rooted : Rooted b ps
  pub same : (v w : Book) → Keeps b ps v → Keeps b ps w → answer q v ≡ answer q w
