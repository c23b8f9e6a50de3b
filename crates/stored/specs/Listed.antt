use Rattle.std.specs.Prelude.{ℕ, List}
use Rattle.stored.specs.declared.numbers.Numbers.{Numbers}

-- the numbers, in the order in which they occurred
abbrev pub listed : Numbers → List ℕ
listed ns = ns.all.items
