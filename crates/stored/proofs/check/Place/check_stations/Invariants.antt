use Rattle.std.proofs.Common.{◌≡◌, ◌+◌, ◌++◌, map, length, drop}
use Rattle.stored.specs.Layout.{stations_of}
use Rattle.stored.specs.Listed.{listed}
use Rattle.stored.specs.Checks.{stations_fault}
use Rattle.stored.proofs.check.Place.check_stations.Given as goal

-- what is left decides the fault, and what is listed in the end
abbrev pub invariant-loop-i : goal.invariant-loop-i
invariant-loop-i l =
    (stations_fault l.self.page l.self.naming (listed l.numbers) l.i (stations_of (drop l.i l.stations))
    ≡ stations_fault l.self.page l.self.naming (listed l.initial.numbers) 0 (stations_of l.stations))
    × (listed l.numbers ++ map (λ s. s.number) (stations_of (drop l.i l.stations)) ≡ listed l.initial.numbers ++ map (λ s. s.number) (stations_of l.stations))
    × (length (listed l.numbers) ≡ length (listed l.initial.numbers) + l.i)
