-- How far a search has come, as a bound on keys.
use Rattle.std.specs.Prelude.{Bool, true, not}
use Rattle.stations.specs.declared.key.Key.{Key}
use Rattle.stations.specs.Keys.{before}

-- every key, the keys before one, the keys that do not come after one
pub data Bound : Type 0 where
  all : Bound
  below : Key → Bound
  up_to : Key → Bound

-- the bound holds the key
abbrev pub within : Bound → Key → Bool
within all k = true
within (below κ) k = before k κ
within (up_to κ) k = not (before κ k)
