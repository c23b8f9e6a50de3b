-- Members of a list.
use Rattle.std.specs.Prelude.{◌≡◌, List, [], ◌∷◌}
use Rattle.std.specs.List.{AllByRecursion as Each}

infix 20 ◌∈◌
-- a is a member of the list
pub data ◌∈◌ {A : Type 0} (a : A) : List A → Type 0 where
  here : {x : A} {xs : List A} → a ≡ x → a ∈ (x ∷ xs)
  there : {x : A} {xs : List A} → a ∈ xs → a ∈ (x ∷ xs)

-- R holds of each member and each later one
abbrev pub Pairwise : {A : Type 0} → (A → A → Type 0) → List A → Type 0
Pairwise R [] = Unit {0}
Pairwise R (x ∷ xs) = Each (R x) xs × Pairwise R xs
