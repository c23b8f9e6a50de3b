-- A test of a book, rule by rule, for books that are written out.
use Rattle.std.specs.Prelude.{◌≡◌, ℕ, suc, Bool, true, ◌&&◌, ◌||◌, leb, List, [], ◌∷◌, length, ◌==◌, nat_eq, nat_le, nat_lt}
use Rattle.stations.specs.declared.measures.Measures.{Measures}
use Rattle.stations.specs.declared.region.Region.{Region}
use Rattle.stations.specs.Beating.{at_most}
use Rattle.stations.specs.Play.{inside}
use Rattle.stations.specs.Counting.{count}
use Rattle.books.specs.Books.{Book, Slot, dead, leaf, node, slot, level, size, children_on, stations, named, names, Lawful}

-- the largest measures that there are
abbrev pub worst : Measures
worst = record { m1 = 65535; m2 = 65535; m3 = 65535; m4 = 65535 }

-- the test passes at each member
abbrev pub every : {A : Type 0} → (A → Bool) → List A → Bool
every t [] = true
every t (x ∷ xs) = t x && every t xs

-- no two members have one number
abbrev pub once : {A : Type 0} → (A → ℕ) → List A → Bool
once f xs = every (λ x. leb (count (λ y. nat_eq (f y) (f x)) xs) 1) xs

-- the test passes at each slot, with the places counted from i
abbrev pub every_slot : (ℕ → Slot → Bool) → ℕ → Book → Bool
every_slot t i [] = true
every_slot t i (s ∷ b) = t i s && every_slot t (suc i) b

-- the page is one level lower and lies in the box
abbrev pub fits : ℕ → Region → Slot → Bool
fits l box dead = true
fits l box (leaf ss) = l == 1 && every (λ s. inside box s.at) ss
fits l box (node m cs) = l == suc (suc m) && every (λ c. at_most box.low c.bounds.low && at_most c.bounds.high box.high) cs

-- it has entries, or is the top and a leaf
abbrev pub filled : ℕ → Slot → Bool
filled p dead = true
filled p (leaf ss) = nat_le 1 (length ss) || p == 0
filled p (node l cs) = nat_le 1 (length cs)

-- it is dead, or the top, or named
abbrev pub reached : Book → ℕ → Slot → Bool
reached b p dead = true
reached b p (leaf ss) = p == 0 || nat_le 1 (count (names p) (named b))
reached b p (node l cs) = p == 0 || nat_le 1 (count (names p) (named b))

-- what is asked of each slot
abbrev pub slot_rules : Book → ℕ → Slot → Bool
slot_rules b p s =
    nat_le (level s) 7 && (nat_le (size s) 12 && (filled p s && (every (λ c. nat_lt p c.page && nat_lt c.page (length b)) (children_on s) && (every (λ c. fits (level s) c.bounds (slot b c.page)) (children_on s) && reached b p s))))

-- what is asked of the boxes and the stations
abbrev pub entry_rules : Book → Bool
entry_rules b =
    once (λ c. c.page) (named b) && (every (λ c. at_most c.bounds.low c.bounds.high && at_most c.bounds.high worst) (named b) && (every (λ s. at_most s.at worst && nat_le 1 s.number) (stations b) && once (λ s. s.number) (stations b)))

-- the whole test
abbrev pub lawful : Book → Bool
lawful b = every_slot (slot_rules b) 0 b && entry_rules b

-- a book that passes the test is lawful
abbrev pub Checked : Type 0
Checked = (b : Book) → lawful b ≡ true → Lawful b
