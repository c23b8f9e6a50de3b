-- What the supplied rankings mean.
use Rattle.std.specs.Prelude.{◌≡◌, ℕ, List, [], ◌∷◌, ◌+◌, ◌*◌, ◌<◌, max, ◌⊎◌}
use Rattle.stations.specs.declared.measures.Measures.{Measures}
use Rattle.rankings.specs.declared.weights.Weights.{Weights}
use Rattle.rankings.specs.declared.weights.Ranker.{Ranker}
use Rattle.rankings.specs.declared.weights.Ranker.TheVariants.{Sum, Largest}

-- each weight times its measure
abbrev pub products : Weights → Measures → List ℕ
products w p = w.w1 * p.m1 ∷ w.w2 * p.m2 ∷ w.w3 * p.m3 ∷ w.w4 * p.m4 ∷ []

-- S: the four products added
abbrev pub weighted_sum : Weights → Measures → ℕ
weighted_sum w p = w.w1 * p.m1 + w.w2 * p.m2 + w.w3 * p.m3 + w.w4 * p.m4

-- W: the largest of the four products
abbrev pub largest_product : Weights → Measures → ℕ
largest_product w p = max (max (w.w1 * p.m1) (w.w2 * p.m2)) (max (w.w3 * p.m3) (w.w4 * p.m4))

abbrev pub ranker_score : Ranker → Measures → ℕ
ranker_score (Sum s) p = weighted_sum s.weights p
ranker_score (Largest s) p = largest_product s.weights p

-- the weights, in order
pub record Weighs (w : Weights) (w1 w2 w3 w4 : ℕ) : Type 0 where
  pub first : w.w1 ≡ w1
  pub second : w.w2 ≡ w2
  pub third : w.w3 ≡ w3
  pub fourth : w.w4 ≡ w4

-- some weight is above 1,000
abbrev pub TooHeavy : ℕ → ℕ → ℕ → ℕ → Type 0
TooHeavy w1 w2 w3 w4 = ((1000 < w1) ⊎ ((1000 < w2) ⊎ ((1000 < w3) ⊎ (1000 < w4))))
