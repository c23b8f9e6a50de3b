-- What a page keeps that is not refused, and so each page of a walk that passes.
use Rattle.std.proofs.Common.{◌≡◌, ℕ, zero, suc, ◌+◌, ◌*◌, ◌<◌, ◌≤◌, Bool, true, false, cond, List, [], ◌∷◌, length, Some, None, Option, refl, arith}
use Rattle.std.specs.List.{range_with_len, AllByRecursion as Each}
use Rattle.std.proofs.lemmas.Bool.{not-false}
use Rattle.std.proofs.lemmas.Bool.Decides.{nat_tests}
use Rattle.std.proofs.lemmas.Grind.{common_steps}
use Rattle.std.proofs.ByRecursion.{All-map, All-weaker}
use Rattle.std.proofs.lemmas.List.FromFn.{length-map-range_with_len}
use Rattle.stations.specs.declared.station.Station.{Station}
use Rattle.stations.specs.Beating.{Ordinary, ◌≼◌}
use Rattle.stations.specs.Counting.{bit, count}
use Rattle.books.specs.declared.Child.{Child}
use Rattle.books.specs.Books.{Slot, dead, level, size, stations_on, children_on, IsLive, Inside, Nested, Fits, Filled, names, numbered}
use Rattle.stored.specs.declared.naming.Naming.{Naming}
use Rattle.stored.specs.Layout.{measures_at, station_at, child_at, stations_in, children_in, level_byte, count_byte, live_slot, live}
use Rattle.stored.specs.Notes.{Notes, note_of, is_named, naming, occurs, notes_after, numbers_after}
use Rattle.stored.specs.Checks.{is_fair_header, is_below, entries_fault, page_fault}
use Rattle.stored.specs.Loading.{is_live_at, slot_at, slots_from, visit_fault, walk_fault}
use Rattle.stored.proofs.Counts.{both-pass, not-refused, all_of}
use Rattle.stored.proofs.Passing.{HeldBy, children-pass, stations-pass}

-- what the page p keeps, by what the pages before it say
pub record Fair (pages p : ℕ) (notes : Notes) (numbers : List ℕ) (s : Slot) : Type 0 where
  pub levels : level s ≤ 7
  pub sizes : size s ≤ 12
  pub filled : Filled p s
  pub after : Each (λ c. (p < c.page) × (c.page < pages)) (children_on s)
  pub fits : (n : Naming) → note_of notes p ≡ Some n → Fits n.level n.bounds s
  pub reached : IsLive s → (p ≡ 0 → ⊥) → is_named notes p ≡ true
  pub named : (q : ℕ) → bit (is_named (notes_after notes s) q) ≡ bit (is_named notes q) + count (names q) (children_on s)
  pub kept : (q : ℕ) (n : Naming) → note_of notes q ≡ Some n → note_of (notes_after notes s) q ≡ Some n
  pub noted : Each (λ c. note_of (notes_after notes s) c.page ≡ Some (naming (level s) c)) (children_on s)
  pub long : length (notes_after notes s) ≡ length notes
  pub ordered : Each (λ c. c.bounds.low ≼ c.bounds.high) (children_on s)
  pub boxes : Each (λ c. Ordinary c.bounds.high) (children_on s)
  pub measures : Each (λ t. Ordinary t.at) (stations_on s)
  pub positive : Each (λ t. 1 ≤ t.number) (stations_on s)
  pub once : (n : ℕ) → bit (occurs n (numbers_after numbers s)) ≡ bit (occurs n numbers) + count (numbered n) (stations_on s)

dead_fair : (pages p : ℕ) (notes : Notes) (numbers : List ℕ) → Fair pages p notes numbers dead
dead_fair pages p notes numbers = grind (arith, common_steps)

-- a number in two bytes has 16 bits
measures_fit : (bytes : List ℕ) (i : ℕ) → Ordinary (measures_at bytes i)
measures_fit bytes i = grind arith

-- what a fair header says
pub record Headed (p lv n : ℕ) : Type 0 where
  pub low : lv ≤ 7
  pub few : n ≤ 12
  pub some : n ≡ 0 → (p ≡ 0) × (lv ≡ 0)

pub headed : (p : ℕ) (page : List ℕ) → is_fair_header p page ≡ true → Headed p (level_byte page) (count_byte page)
headed p page e = grind (arith, nat_tests)

below-from : (nm : Option Naming) (lv : ℕ) → is_below nm lv ≡ true → (n : Naming) → nm ≡ Some n → n.level ≡ lv + 1
below-from nm lv e n is = grind arith

module _ (pages p : ℕ) (notes : Notes) (numbers page : List ℕ) (fit : pages ≤ length notes) (counts : (p ≡ 0 → ⊥) → is_named notes p ≡ true) where
  -- the page, by its level
  fair_at_level : (lv : ℕ) → Headed p lv (count_byte page) → ((n : Naming) → note_of notes p ≡ Some n → n.level ≡ lv + 1)
      → entries_fault pages p (note_of notes p) notes numbers (live_slot lv page) ≡ None → Fair pages p notes numbers (live_slot lv page)
  fair_at_level zero h below e =
      let ss = stations-pass p (note_of notes p) numbers 0 (stations_in page) e in
      let long : length (stations_in page) ≡ count_byte page = length-map-range_with_len (λ i. station_at page (8 + 12 * i)) 0 (count_byte page) in
      record {
        levels = omega arith;
        sizes = omega (arith, h.few);
        filled = λ none. grind (arith, h.some);
        after = tt;
        fits = λ n is. (below n is, All-weaker (λ (t : Station). HeldBy (note_of notes p) t.at t.at) (λ (t : Station). Inside t.at n.bounds) (λ t held. let k = held n is in record { above = k.above; below = k.below }) (stations_in page) ss.held);
        reached = λ _. counts;
        named = λ q. omega arith;
        kept = λ q n is. is;
        noted = tt;
        long = refl;
        ordered = tt;
        boxes = tt;
        measures = All-map (λ (t : Station). Ordinary t.at) (λ i. station_at page (8 + 12 * i)) (range_with_len 0 (count_byte page)) (all_of (λ i. Ordinary (measures_at page (8 + 12 * i + 4))) (λ i. measures_fit page (8 + 12 * i + 4)) (range_with_len 0 (count_byte page)));
        positive = ss.positive;
        once = ss.counted;
      }
  fair_at_level (suc l) h below e =
      let cs = children-pass pages p (note_of notes p) (suc l) notes 0 (children_in page) fit e in
      let long : length (children_in page) ≡ count_byte page = length-map-range_with_len (λ i. child_at page (8 + 18 * i)) 0 (count_byte page) in
      record {
        levels = h.low;
        sizes = omega (arith, h.few);
        filled = grind (arith, h.some);
        after = cs.after;
        fits = λ n is. (omega (arith, below n is), All-weaker (λ (c : Child). HeldBy (note_of notes p) c.bounds.low c.bounds.high) (λ (c : Child). Nested c.bounds n.bounds) (λ c held. let k = held n is in record { above = k.above; below = k.below }) (children_in page) cs.held);
        reached = λ _. counts;
        named = cs.counted;
        kept = cs.kept;
        noted = cs.noted;
        long = cs.long;
        ordered = cs.ordered;
        boxes = All-map (λ (c : Child). Ordinary c.bounds.high) (λ i. child_at page (8 + 18 * i)) (range_with_len 0 (count_byte page)) (all_of (λ i. Ordinary (measures_at page (8 + 18 * i + 10))) (λ i. measures_fit page (8 + 18 * i + 10)) (range_with_len 0 (count_byte page)));
        measures = tt;
        positive = tt;
        once = λ n. grind (arith, common_steps);
      }

  fair_live : page_fault pages p (note_of notes p) notes numbers page ≡ None → Fair pages p notes numbers (live page)
  fair_live e =
      let first = both-pass _ _ e in
      let second = both-pass _ _ first.1 in
      fair_at_level (level_byte page) (headed p page (not-false _ (not-refused _ _ first.0))) (below-from (note_of notes p) (level_byte page) (not-false _ (not-refused _ _ second.0))) second.1

pub fair_visit : (pages p : ℕ) (notes : Notes) (numbers page : List ℕ) → pages ≤ length notes → visit_fault pages p notes numbers page ≡ None → Fair pages p notes numbers (slot_at notes p page)
fair_visit pages p notes numbers page fit e = by (is_live_at notes p page) refl e
  where
    by : (m : Bool) → is_live_at notes p page ≡ m → cond m (page_fault pages p (note_of notes p) notes numbers page) None ≡ None → Fair pages p notes numbers (cond m (live page) dead)
    by true is passes = fair_live pages p notes numbers page fit (λ below. grind arith) passes
    by false is passes = dead_fair pages p notes numbers

-- each of these slots is fair, from page p on
abbrev pub FairFrom : ℕ → ℕ → Notes → List ℕ → List Slot → Type 0
FairFrom pages p notes numbers [] = Unit {0}
FairFrom pages p notes numbers (s ∷ ss) = Fair pages p notes numbers s × FairFrom pages (p + 1) (notes_after notes s) (numbers_after numbers s) ss

pub fair_walk : (pages p : ℕ) (notes : Notes) (numbers : List ℕ) (rest : List (List ℕ)) → pages ≤ length notes → walk_fault pages p notes numbers rest ≡ None → FairFrom pages p notes numbers (slots_from p notes rest)
fair_walk pages p notes numbers [] fit e = tt
fair_walk pages p notes numbers (page ∷ rest) fit e =
    let parts = both-pass _ _ e in
    let fair = fair_visit pages p notes numbers page fit parts.0 in
    (fair, fair_walk pages (p + 1) (notes_after notes (slot_at notes p page)) (numbers_after numbers (slot_at notes p page)) rest (omega (arith, fair.long)) parts.1)
