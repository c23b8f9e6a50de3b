-- What the token at a place of a text says.
use Rattle.std.specs.Prelude.{◌≡◌, ℕ, ◌<◌, Bool, true, cond, ◌||◌, List, [], ◌∷◌, length, drop, ◌==◌, slice_index}
use Rattle.logs.specs.Pieces.{comma, line_end}
use Rattle.logs.specs.declared.token.Token.{Token}
use Rattle.logs.specs.declared.token.Token.TheVariants.{Field, Comma, LineEnd}

-- the byte parts fields or ends a line
abbrev pub parts : ℕ → Bool
parts b = b == comma || b == line_end

-- the bytes before the first comma or line end
abbrev pub front : List ℕ → List ℕ
front [] = []
front (b ∷ bs) = cond (parts b) [] (b ∷ front bs)

-- no field goes on in what is left
abbrev pub is_end : List ℕ → Bool
is_end [] = true
is_end (b ∷ bs) = parts b

-- a comma and a line end are the byte at the place; a field is all up to the next of them, and is not empty
abbrev pub Reads : List ℕ → ℕ → Token → Type 0
Reads text at (Field bytes i) = (i ≡ at) × (bytes.now ≡ front (drop at text)) × (0 < length bytes.now)
Reads text at (Comma i) = (i ≡ at) × (at < length text) × (slice_index text at ≡ comma)
Reads text at (LineEnd i) = (i ≡ at) × (at < length text) × (slice_index text at ≡ line_end)
