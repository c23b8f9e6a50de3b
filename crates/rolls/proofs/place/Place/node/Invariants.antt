use Rattle.std.proofs.Common.{◌≡◌, ◌-◌, map, length, take, drop}
use Rattle.books.specs.declared.Entry.TheVariants as entries
use Rattle.rolls.specs.Rolls.{children}
use Rattle.rolls.proofs.place.Place.node.Given as goal

-- the pages so far are the first entries
abbrev pub invariant-loop-place : goal.invariant-loop-place
invariant-loop-place l = (length l.entries ≡ 12) × (take l.place l.entries ≡ map entries.Page (take l.place (drop l.from (children l.self.row.now (l.self.level - 1) l.self.below))))
