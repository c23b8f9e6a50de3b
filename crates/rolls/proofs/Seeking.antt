-- Looking for a page, from the top level down.
use Rattle.std.proofs.Common.{ℕ, zero, suc, ◌+◌, ◌-◌, ◌<◌, ◌≤◌, List, length, get_or, ap, ◌∙◌, subst, arith}
use Rattle.stations.specs.declared.station.Station.{Station}
use Rattle.books.specs.Books.{dead}
use Rattle.rolls.specs.Rolls.{pages_of, pages_to, pages_from}
use Rattle.rolls.specs.Places.{StandsAt, Among, Sought}
use Rattle.rolls.proofs.Pages.{first-at, later-at}

level-among : (n l : ℕ) → pages_of n l ≤ pages_to n l
level-among n zero = omega arith
level-among n (suc l) = omega arith

module _ (row : List Station) (page : ℕ) where
  pub among : (n first : ℕ) → 0 < n → Sought row page n first → Among row page (n - 1) first
  among zero first h s = absurd (omega arith)
  among (suc l) first h s = subst (λ m. Among row page m first) {x = l} (omega arith) s

  pub below_that : (l first : ℕ) → Among row page l first → first + pages_of (length row) l ≤ page → Sought row page l (first + pages_of (length row) l)
  below_that zero first s h = omega (arith, s.left)
  below_that (suc l) first s h = record {
    low = omega (arith, s.low);
    from = h;
    left = omega (arith, s.left);
    holds = s.holds ∙ later-at row l first (page - first) (omega arith) ∙ ap (λ i. get_or (pages_from row l (first + pages_of (length row) (suc l))) i dead) (omega arith);
  }

  pub found : (l first : ℕ) → Among row page l first → page < first + pages_of (length row) l → StandsAt row page l (page - first) (first + pages_of (length row) l)
  found l first s h = record {
    low = s.low;
    there = omega (arith, s.from);
    next = omega (arith, s.left, level-among (length row) l);
    holds = s.holds ∙ first-at row l first (page - first) (omega (arith, s.from));
  }
