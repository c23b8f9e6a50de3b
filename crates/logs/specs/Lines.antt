-- A line at the front of a text.
use Rattle.std.specs.Prelude.{◌≡◌, ℕ, false, List, [], ◌∷◌, ◌++◌, ◌==◌}
use Rattle.std.specs.List.{AllByRecursion as Each}
use Rattle.logs.specs.Pieces.{line_end, lines_of}

-- the text holds no separator
abbrev pub Free : ℕ → List ℕ → Type 0
Free sep bs = Each (λ b. (b == sep) ≡ false) bs

-- the text begins with this line and its end, and goes on with the rest
pub record Found (text bytes rest : List ℕ) : Type 0 where
  pub whole : text ≡ bytes ++ line_end ∷ rest
  pub free : Free line_end bytes

-- no line end follows
abbrev pub Unended : List ℕ → Type 0
Unended text = lines_of text ≡ text ∷ []
