use Rattle.std.proofs.Common.{◌≡◌, ◌*◌, ◌≤◌, [], ◌++◌, length, take, drop}
use Rattle.stored.specs.Notes.{no_notes}
use Rattle.stored.specs.Listed.{listed}
use Rattle.stored.specs.Loading.{page_count, pages_in, walk_fault, slots_from, marks}
use Rattle.stored.proofs.walk.check_pages.Given as goal

-- what is left decides the fault, and the marks in the end; a page lists at most 12 numbers
abbrev pub invariant-loop-p : goal.invariant-loop-p
invariant-loop-p l =
    (walk_fault (length l.pages) l.p l.seen.notes (listed l.seen.numbers) (drop l.p l.pages)
    ≡ walk_fault (page_count l.bytes) 0 no_notes [] (pages_in l.bytes))
    × (take l.p l.live ++ marks (slots_from l.p l.seen.notes (drop l.p l.pages)) ≡ marks (slots_from 0 no_notes (pages_in l.bytes)))
    × (length (listed l.seen.numbers) ≤ 12 * l.p)
