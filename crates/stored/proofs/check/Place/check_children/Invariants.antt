use Rattle.std.proofs.Common.{◌≡◌, drop}
use Rattle.stored.specs.Layout.{children_of}
use Rattle.stored.specs.Notes.{note_all}
use Rattle.stored.specs.Checks.{children_fault}
use Rattle.stored.proofs.check.Place.check_children.Given as goal

-- what is left decides the fault, and what is noted in the end
abbrev pub invariant-loop-i : goal.invariant-loop-i
invariant-loop-i l =
    (children_fault l.self.pages l.self.page l.self.naming l.level l.notes l.i (children_of (drop l.i l.children))
    ≡ children_fault l.self.pages l.self.page l.self.naming l.level l.initial.notes 0 (children_of l.children))
    × (note_all l.level l.notes (children_of (drop l.i l.children)) ≡ note_all l.level l.initial.notes (children_of l.children))
