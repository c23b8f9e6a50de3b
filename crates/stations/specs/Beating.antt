-- Measures compared. Small is good, so a station beats another by being nowhere larger and somewhere smaller.
use Rattle.std.specs.Prelude.{ℕ, ◌+◌, ◌^◌, ◌<◌, ◌≤◌, Bool, ◌&&◌, ◌||◌, nat_le, nat_lt}
use Rattle.stations.specs.declared.measures.Measures.{Measures}

-- measures as any input has them: numbers of 16 bits
pub record Ordinary (p : Measures) : Type 0 where
  pub in1 : p.m1 < 2 ^ 16
  pub in2 : p.m2 < 2 ^ 16
  pub in3 : p.m3 < 2 ^ 16
  pub in4 : p.m4 < 2 ^ 16

infixl 20 ◌≼◌
-- no measure of p is larger than q's
pub record ◌≼◌ (p q : Measures) : Type 0 where
  pub in1 : p.m1 ≤ q.m1
  pub in2 : p.m2 ≤ q.m2
  pub in3 : p.m3 ≤ q.m3
  pub in4 : p.m4 ≤ q.m4

-- the same, as a test
abbrev pub at_most : Measures → Measures → Bool
at_most p q = nat_le p.m1 q.m1 && nat_le p.m2 q.m2 && nat_le p.m3 q.m3 && nat_le p.m4 q.m4

-- some measure of p is smaller than q's
abbrev pub smaller : Measures → Measures → Bool
smaller p q = nat_lt p.m1 q.m1 || nat_lt p.m2 q.m2 || nat_lt p.m3 q.m3 || nat_lt p.m4 q.m4

-- p beats q (dominates it, in the literature's word): strict, so equal measures beat neither way
abbrev pub beats : Measures → Measures → Bool
beats p q = at_most p q && smaller p q

abbrev pub sum : Measures → ℕ
sum p = p.m1 + p.m2 + p.m3 + p.m4

-- measure by measure, by f
abbrev pub both : (ℕ → ℕ → ℕ) → Measures → Measures → Measures
both f p q = record { m1 = f p.m1 q.m1; m2 = f p.m2 q.m2; m3 = f p.m3 q.m3; m4 = f p.m4 q.m4 }
