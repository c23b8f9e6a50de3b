-- The least box around stations holds them, and lies in every box that does.
use Rattle.std.proofs.Common.{◌≤◌, List, [], ◌∷◌, length, arith}
use Rattle.std.specs.List.{AllByRecursion as Each}
use Rattle.std.proofs.ByRecursion.{All-weaker}
use Rattle.stations.specs.declared.measures.Measures.{Measures}
use Rattle.stations.specs.declared.station.Station.{Station}
use Rattle.stations.specs.declared.region.Region.{Region}
use Rattle.stations.specs.Beating.{Ordinary, ◌≼◌}
use Rattle.books.specs.Books.{Inside, Nested}
use Rattle.rolls.specs.Boxes.{point, widen, widen_all, around}

nested_trans : (a b c : Region) → Nested a b → Nested b c → Nested a c
nested_trans a b c h k = omega arith

pub inside_nested : (p : Measures) (a b : Region) → Inside p a → Nested a b → Inside p b
inside_nested p a b h k = omega arith

in_wider : (box : Region) (p : Measures) → Inside p (widen box p)
in_wider box p = omega arith

wider : (box : Region) (p : Measures) → Nested box (widen box p)
wider box p = omega arith

least-wider : (box other : Region) (p : Measures) → Nested box other → Inside p other → Nested (widen box p) other
least-wider box other p h k = omega arith

in_all : (box : Region) (ss : List Station) → Nested box (widen_all box ss)
in_all box [] = omega arith
in_all box (s ∷ ss) = nested_trans box (widen box s.at) (widen_all (widen box s.at) ss) (wider box s.at) (in_all (widen box s.at) ss)

all_in : (box : Region) (ss : List Station) → Each (λ s. Inside s.at (widen_all box ss)) ss
all_in box [] = tt
all_in box (s ∷ ss) = (inside_nested s.at (widen box s.at) (widen_all (widen box s.at) ss) (in_wider box s.at) (in_all (widen box s.at) ss), all_in (widen box s.at) ss)

least-all : (box other : Region) (ss : List Station) → Nested box other → Each (λ s. Inside s.at other) ss → Nested (widen_all box ss) other
least-all box other [] h k = h
least-all box other (s ∷ ss) h k = least-all (widen box s.at) other ss (least-wider box other s.at h k.0) k.1

pub around-holds : (ss : List Station) → Each (λ s. Inside s.at (around ss)) ss
around-holds [] = tt
around-holds (s ∷ ss) = (inside_nested s.at (point s.at) (widen_all (point s.at) ss) (omega arith) (in_all (point s.at) ss), all_in (point s.at) ss)

pub around-least : (ss : List Station) (other : Region) → 1 ≤ length ss → Each (λ s. Inside s.at other) ss → Nested (around ss) other
around-least [] other h k = absurd (omega arith)
around-least (s ∷ ss) other h k = least-all (point s.at) other ss (record { above = k.0.above; below = k.0.below }) k.1

pub around-ordered : (ss : List Station) → 1 ≤ length ss → (around ss).low ≼ (around ss).high
around-ordered [] h = absurd (omega arith)
around-ordered (s ∷ ss) h = let k = (around-holds (s ∷ ss)).0 in omega arith

-- the box of all ordinary measures
abbrev widest : Region
widest = record { low = record { m1 = 0; m2 = 0; m3 = 0; m4 = 0 }; high = record { m1 = 65535; m2 = 65535; m3 = 65535; m4 = 65535 } }

pub around-high : (ss : List Station) → 1 ≤ length ss → Each (λ s. Ordinary s.at) ss → Ordinary (around ss).high
around-high ss h k =
    let lies = around-least ss widest h (All-weaker (λ s. Ordinary s.at) (λ s. Inside s.at widest) (λ s j. omega arith) ss k) in
    omega (arith, lies.below)
