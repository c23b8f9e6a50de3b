-- When one page is refused. `pages` is the page count, p the page's number and `naming` how it was named, which the top is not.
use Rattle.std.specs.Prelude.{ℕ, suc, ◌+◌, Bool, true, not, ◌&&◌, ◌||◌, List, [], ◌∷◌, ◌++◌, Some, None, Option, ◌==◌, nat_le}
use Rattle.stations.specs.declared.fault.Fault.{Fault}
use Rattle.stations.specs.declared.fault.Code.TheVariants.{PageHeader, PageLevel, NamedPage, BoxOrder, StationNumber, OutsideBox}
use Rattle.stations.specs.declared.measures.Measures.{Measures}
use Rattle.stations.specs.declared.station.Station.{Station}
use Rattle.stations.specs.Faults.{fault, refuse_if, or_else}
use Rattle.stations.specs.Beating.{at_most}
use Rattle.books.specs.declared.Child.{Child}
use Rattle.books.specs.Books.{Slot, dead, leaf, node}
use Rattle.stored.specs.declared.naming.Naming.{Naming}
use Rattle.stored.specs.Layout.{level_byte, count_byte, is_padded, live}
use Rattle.stored.specs.Notes.{Notes, is_named, note_one, occurs}

-- the header keeps the layout, and only a top of level 0 is without entries
abbrev pub is_fair_header : ℕ → List ℕ → Bool
is_fair_header p page = nat_le (level_byte page) 7 && nat_le (count_byte page) 12 && is_padded page && (not (count_byte page == 0) || (p == 0 && level_byte page == 0))

-- the page is one level below the page that names it
abbrev pub is_below : Option Naming → ℕ → Bool
is_below None l = true
is_below (Some n) l = n.level == l + 1

-- what lies from low to high lies in the box of the page; the top has no box
abbrev pub is_within : Option Naming → Measures → Measures → Bool
is_within None low high = true
is_within (Some n) low high = at_most n.bounds.low low && at_most high n.bounds.high

-- entry i names a page: one above p and below the count that is not named yet, with a box in order and inside the page's
abbrev pub child_fault : ℕ → ℕ → Option Naming → Notes → ℕ → Child → Option Fault
child_fault pages p naming notes i c =
    or_else (refuse_if (nat_le c.page p || nat_le pages c.page || is_named notes c.page) (fault NamedPage p i))
    (or_else (refuse_if (not (at_most c.bounds.low c.bounds.high)) (fault BoxOrder p i))
    (refuse_if (not (is_within naming c.bounds.low c.bounds.high)) (fault OutsideBox p i)))

-- entry i is a station: with a number from 1 that did not occur yet, and inside the page's box
abbrev pub station_fault : ℕ → Option Naming → List ℕ → ℕ → Station → Option Fault
station_fault p naming numbers i s =
    or_else (refuse_if (s.number == 0 || occurs s.number numbers) (fault StationNumber p i))
    (refuse_if (not (is_within naming s.at s.at)) (fault OutsideBox p i))

-- the first fault of these named pages, counted from i, on a page of level l
abbrev pub children_fault : ℕ → ℕ → Option Naming → ℕ → Notes → ℕ → List Child → Option Fault
children_fault pages p naming l notes i [] = None
children_fault pages p naming l notes i (c ∷ cs) =
    or_else (child_fault pages p naming notes i c) (children_fault pages p naming l (note_one l notes c) (i + 1) cs)

-- the first fault of these stations, counted from i
abbrev pub stations_fault : ℕ → Option Naming → List ℕ → ℕ → List Station → Option Fault
stations_fault p naming numbers i [] = None
stations_fault p naming numbers i (s ∷ ss) =
    or_else (station_fault p naming numbers i s) (stations_fault p naming (numbers ++ s.number ∷ []) (i + 1) ss)

-- the first fault of the entries of a page
abbrev pub entries_fault : ℕ → ℕ → Option Naming → Notes → List ℕ → Slot → Option Fault
entries_fault pages p naming notes numbers dead = None
entries_fault pages p naming notes numbers (leaf ss) = stations_fault p naming numbers 0 ss
entries_fault pages p naming notes numbers (node l cs) = children_fault pages p naming (suc l) notes 0 cs

-- the first fault of a live page that counts: its header, its level, its entries in turn
abbrev pub page_fault : ℕ → ℕ → Option Naming → Notes → List ℕ → List ℕ → Option Fault
page_fault pages p naming notes numbers page =
    or_else (refuse_if (not (is_fair_header p page)) (fault PageHeader p 255))
    (or_else (refuse_if (not (is_below naming (level_byte page))) (fault PageLevel p 255))
    (entries_fault pages p naming notes numbers (live page)))
