-- The supplied rankings rise with each measure, and stay below 2 ^ 64.
use Rattle.std.specs.Prelude.{ℕ, ◌*◌, ◌^◌, ◌<◌, ◌≤◌}
use Rattle.std.proofs.Common.{mul-le-mul, mul-le-mul_left, arith}
use Rattle.stations.specs.declared.measures.Measures.{Measures}
use Rattle.stations.specs.Beating.{Ordinary, ◌≼◌}
use Rattle.rankings.specs.declared.weights.Weights.{Weights}
use Rattle.rankings.specs.declared.weights.Ranker.{Ranker}
use Rattle.rankings.specs.declared.weights.Ranker.TheVariants.{Sum, Largest}
use Rattle.rankings.specs.Scores.{weighted_sum, largest_product, ranker_score}

-- the product of a weight and an ordinary measure
pub product_small : (w m : ℕ) → w ≤ 1000 → m < 2 ^ 16 → w * m ≤ 65535000
product_small w m hw hm = let h : m ≤ 65535 = omega arith in mul-le-mul hw h

module _ (w : Weights) (p q : Measures) (h : p ≼ q) where
  pub sum_rises : weighted_sum w p ≤ weighted_sum w q
  sum_rises = omega (arith, mul-le-mul_left w.w1 h.in1, mul-le-mul_left w.w2 h.in2, mul-le-mul_left w.w3 h.in3, mul-le-mul_left w.w4 h.in4)

  pub largest_rises : largest_product w p ≤ largest_product w q
  largest_rises = omega (arith, mul-le-mul_left w.w1 h.in1, mul-le-mul_left w.w2 h.in2, mul-le-mul_left w.w3 h.in3, mul-le-mul_left w.w4 h.in4)

module _ (w : Weights) (p : Measures) (h : Ordinary p) where
  pub sum_below : weighted_sum w p < 2 ^ 64
  sum_below = omega (arith, product_small w.w1 p.m1 w.small.0 h.in1, product_small w.w2 p.m2 w.small.1 h.in2, product_small w.w3 p.m3 w.small.2 h.in3, product_small w.w4 p.m4 w.small.3 h.in4)

  pub largest_below : largest_product w p < 2 ^ 64
  largest_below = omega (arith, product_small w.w1 p.m1 w.small.0 h.in1, product_small w.w2 p.m2 w.small.1 h.in2, product_small w.w3 p.m3 w.small.2 h.in3, product_small w.w4 p.m4 w.small.3 h.in4)

pub ranker_rises : (r : Ranker) (p q : Measures) → p ≼ q → ranker_score r p ≤ ranker_score r q
ranker_rises (Sum s) p q h = sum_rises s.weights p q h
ranker_rises (Largest s) p q h = largest_rises s.weights p q h

pub ranker-below : (r : Ranker) (p : Measures) → Ordinary p → ranker_score r p < 2 ^ 64
ranker-below (Sum s) p h = sum_below s.weights p h
ranker-below (Largest s) p h = largest_below s.weights p h
