-- What tables of marks cover after one number more.
use Rattle.std.proofs.Common.{◌≡◌, ℕ, Bool, true, ◌||◌, ◌⊎◌, ap, ◌∙◌, ⊎_elim}
use Rattle.std.proofs.lemmas.Bool.{eq-eqb, and_parts, and_from, or_left, or_right}
use Rattle.stations.specs.declared.marks.Marks.{Marks}
use Rattle.stations.specs.Marks.{low_of, high_of, same_low, same_high, is_low, is_high, is_marked, Covers}

module _ (marks after : Marks) (number : ℕ) (lows : (n : ℕ) → is_low after n ≡ (same_low number n || is_low marks n)) (highs : (n : ℕ) → is_high after n ≡ (same_high number n || is_high marks n)) where
  kept : (n : ℕ) → is_marked marks n ≡ true → is_marked after n ≡ true
  kept n e = let both = and_parts (is_low marks n) (is_high marks n) e in and_from _ _ (lows n ∙ or_right _ _ both.0) (highs n ∙ or_right _ _ both.1)

  here : (n : ℕ) → number ≡ n → is_marked after n ≡ true
  here n same = and_from _ _ (lows n ∙ or_left _ _ (eq-eqb _ _ (ap low_of same))) (highs n ∙ or_left _ _ (eq-eqb _ _ (ap high_of same)))

  -- what passes the later test passed the earlier one, or is the number that was marked
  pub covers_more : (earlier later : ℕ → Bool) → ((n : ℕ) → later n ≡ true → (earlier n ≡ true) ⊎ (number ≡ n)) → Covers marks earlier → Covers after later
  covers_more earlier later split covers n passes = ⊎_elim (λ old. kept n (covers n old)) (λ same. here n same) (split n passes)
