-- What is read at the front of a text.
use Rattle.std.specs.Prelude.{◌≡◌, ℕ, ◌+◌, ◌^◌, ◌<◌, ◌≤◌, true, List, ◌∷◌, ◌++◌, length, drop}
use Rattle.std.specs.Str.{all_ascii_digits}
use Rattle.logs.specs.Tokens.{front}
use Rattle.logs.specs.Numerals.{read_on, value}
use Rattle.logs.specs.Fields.{spells, reading, admits}
use Rattle.logs.specs.declared.field.FieldKind.{FieldKind}

-- the first `len` bytes are digits and are read as n, and what is left of the field decides the rest
pub record Along (text : List ℕ) (n len : ℕ) : Type 0 where
  pub within : len ≤ length text
  pub digits : all_ascii_digits (front (drop len text)) ≡ all_ascii_digits (front text)
  pub number : read_on n (front (drop len text)) ≡ value (front text)
  pub long : len + length (front (drop len text)) ≡ length (front text)
  pub small : n < 10 ^ len

-- the field at the front of the text is written as its kind asks and says n, and the rest follows it
pub record Said (kind : FieldKind) (text : List ℕ) (n : ℕ) (rest : List ℕ) : Type 0 where
  pub written : spells kind (front text) ≡ true
  pub says : n ≡ reading kind (front text)
  pub whole : text ≡ front text ++ rest

-- the same of a number in range, with a byte between the field and the rest
pub record Closed (kind : FieldKind) (text : List ℕ) (close n : ℕ) (rest : List ℕ) : Type 0 where
  pub written : spells kind (front text) ≡ true
  pub says : n ≡ reading kind (front text)
  pub admitted : admits kind n ≡ true
  pub whole : text ≡ front text ++ close ∷ rest
