use Rattle.std.proofs.Common.{◌≡◌, map, length, take}
use Rattle.books.specs.declared.Entry.TheVariants as entries
use Rattle.rolls.proofs.place.Place.leaf.Given as goal

-- the stations so far are the first entries
abbrev pub invariant-loop-place : goal.invariant-loop-place
invariant-loop-place l = (length l.entries ≡ 12) × (take l.place l.entries ≡ map entries.Station (take l.place l.stations))
