-- The kinds of field, and the two kinds of line as rows of them.
use Rattle.std.specs.Prelude.{ℕ, Bool, true, ◌&&◌, ◌||◌, List, [], ◌∷◌, length, decimal, ◌==◌, nat_le, nat_lt, slice_index}
use Rattle.logs.specs.Numerals.{spelled, value}
use Rattle.logs.specs.declared.field.FieldKind.{FieldKind}
use Rattle.logs.specs.declared.field.FieldKind.TheVariants.{Letter, Number, Measure, Weight}

-- the ranking's letter, k, the region's lows and highs, the weights
abbrev pub question_line : List FieldKind
question_line = Letter ∷ Measure ∷ Measure ∷ Measure ∷ Measure ∷ Measure ∷ Measure ∷ Measure ∷ Measure ∷ Measure ∷ Weight ∷ Weight ∷ Weight ∷ Weight ∷ []

-- a station's number and its measures
abbrev pub station_line : List FieldKind
station_line = Number ∷ Measure ∷ Measure ∷ Measure ∷ Measure ∷ []

-- S names the weighted sum
abbrev pub sum_letter : ℕ
sum_letter = 83

-- W names the largest product
abbrev pub largest_letter : ℕ
largest_letter = 87

-- one byte that is S or W
abbrev pub is_letter : List ℕ → Bool
is_letter bs = length bs == 1 && (slice_index bs 0 == sum_letter || slice_index bs 0 == largest_letter)

-- the field is written as its kind asks
abbrev pub spells : FieldKind → List ℕ → Bool
spells Letter bs = is_letter bs
spells Number bs = spelled bs
spells Measure bs = spelled bs
spells Weight bs = spelled bs

-- what the field says: a letter's byte, or the number
abbrev pub reading : FieldKind → List ℕ → ℕ
reading Letter bs = slice_index bs 0
reading Number bs = value bs
reading Measure bs = value bs
reading Weight bs = value bs

-- how a field of the kind is written
abbrev pub writing : FieldKind → ℕ → List ℕ
writing Letter n = n ∷ []
writing Number n = decimal n
writing Measure n = decimal n
writing Weight n = decimal n

-- what is in range for the kind; k and the bounds of a region are in the range of measures
abbrev pub admits : FieldKind → ℕ → Bool
admits Letter n = n == sum_letter || n == largest_letter
admits Number n = nat_lt 0 n && nat_le n 4294967295
admits Measure n = nat_le n 65535
admits Weight n = nat_le n 1000

-- each kind with the field at its place
abbrev pub paired : {A B : Type 0} → (FieldKind → A → B) → List FieldKind → List A → List B
paired f [] xs = []
paired f (k ∷ ks) [] = []
paired f (k ∷ ks) (x ∷ xs) = f k x ∷ paired f ks xs

-- every field passes the test of its kind
abbrev pub pass : {A : Type 0} → (FieldKind → A → Bool) → List FieldKind → List A → Bool
pass test [] xs = true
pass test (k ∷ ks) [] = true
pass test (k ∷ ks) (x ∷ xs) = test k x && pass test ks xs
