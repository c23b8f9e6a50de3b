use Rattle.std.proofs.Common.{◌≡◌, map, length, take}
use Rattle.books.specs.declared.Entry.TheVariants as entry
use Rattle.stored.specs.Layout.{stations_of, children_of}
use Rattle.stored.proofs.showing.page_at.Given as goal

-- the entries so far stand in the first places
abbrev pub invariant-loop-place : goal.invariant-loop-place
invariant-loop-place l = (length l.shown ≡ 12) × (take l.place l.shown ≡ map entry.Station (stations_of (take l.place l.bytes-items)))

abbrev pub invariant-loop-place-else-level-eq0 : goal.invariant-loop-place-else-level-eq0
invariant-loop-place-else-level-eq0 l = (length l.shown ≡ 12) × (take l.place l.shown ≡ map entry.Page (children_of (take l.place l.bytes-items)))
