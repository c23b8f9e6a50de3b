-- What the pages checked so far say: how each page was named, and which station numbers occurred.
use Rattle.std.specs.Prelude.{ℕ, Bool, List, [], ◌∷◌, ◌++◌, map, replicate, is_some, Some, None, Option, ◌==◌, slice_index_or, slice_set}
use Rattle.std.specs.List.{list_any}
use Rattle.books.specs.declared.Child.{Child}
use Rattle.books.specs.Books.{Slot, level, stations_on, children_on}
use Rattle.stored.specs.declared.naming.Naming.{Naming}

-- by page number: the level of the page that names it and the box that it is named with, or nothing yet
abbrev pub Notes : Type 0
Notes = List (Option Naming)

-- nothing is said yet
abbrev pub no_notes : Notes
no_notes = replicate 256 None

-- what is said of page p
abbrev pub note_of : Notes → ℕ → Option Naming
note_of notes p = slice_index_or notes p None

-- a page that was checked names it
abbrev pub is_named : Notes → ℕ → Bool
is_named notes p = is_some (note_of notes p)

-- what a page of level l says of a page that it names
abbrev pub naming : ℕ → Child → Naming
naming l c = record { level = l; bounds = c.bounds }

-- the notes after one named page
abbrev pub note_one : ℕ → Notes → Child → Notes
note_one l notes c = slice_set notes c.page (Some (naming l c))

-- the notes after the named pages of a page of level l, one after the other
abbrev pub note_all : ℕ → Notes → List Child → Notes
note_all l notes [] = notes
note_all l notes (c ∷ cs) = note_all l (note_one l notes c) cs

-- the number stands in the list
abbrev pub occurs : ℕ → List ℕ → Bool
occurs n ms = list_any (λ m. m == n) ms

-- the notes after a page
abbrev pub notes_after : Notes → Slot → Notes
notes_after notes s = note_all (level s) notes (children_on s)

-- the station numbers after a page
abbrev pub numbers_after : List ℕ → Slot → List ℕ
numbers_after numbers s = numbers ++ map (λ t. t.number) (stations_on s)
