-- A line taken off the front of a text.
use Rattle.std.specs.Prelude.{◌≡◌, ℕ, List, [], ◌∷◌, Some, None, Option}
use Rattle.stations.specs.declared.fault.Fault.{Fault}
use Rattle.stations.specs.declared.fault.Code.TheVariants.{BadField}
use Rattle.stations.specs.Faults.{fault}
use Rattle.logs.specs.Lines.{Found}
use Rattle.logs.specs.Checks.{line_fault, numbers_of}
use Rattle.logs.specs.declared.field.FieldKind.{FieldKind}

-- the line at the front of the text is accepted, its fields say these numbers, and the rest follows it
pub record Taken (line : ℕ) (kinds : List FieldKind) (text ns rest : List ℕ) : Type 0 where
  pub bytes : List ℕ
  pub found : Found text bytes rest
  pub accepted : line_fault line kinds bytes ≡ None
  pub says : ns ≡ numbers_of kinds bytes

-- why the first of the lines is refused: it has no end, or what is wrong with it
abbrev pub first_fault : ℕ → List FieldKind → List (List ℕ) → Option Fault
first_fault line kinds [] = Some (fault BadField line 0)
first_fault line kinds (p ∷ []) = Some (fault BadField line 0)
first_fault line kinds (p ∷ q ∷ ps) = line_fault line kinds p
