-- The turns of a search, on the row.
use Rattle.std.proofs.Common.{◌≡◌, ℕ, suc, Bool, true, false, ◌&&◌, ◌||◌, eqb, List, [], ◌∷◌, ◌++◌, length, filter, sym, refl, ap, ◌∙◌, subst, ⊎_elim, arith}
use Rattle.std.proofs.lemmas.Bool.{both_ways, not_from_true}
use Rattle.std.proofs.ByRecursion.{All-weaker}
use Rattle.stations.specs.declared.station.Station as stated
use Rattle.stations.specs.declared.key.Key.{Key}
use Rattle.stations.specs.Keys.{before}
use Rattle.stations.specs.Counting.{count}
use Rattle.books.specs.declared.Child.{Child}
use Rattle.books.specs.declared.Entry.{Entry}
use Rattle.books.specs.declared.Entry.TheVariants.{Page, Station}
use Rattle.books.specs.Lists.{Pairwise, ◌∈◌, here, there}
use Rattle.books.specs.Books.{Book, slot, stations_on, children_on, entries_on, Lawful}
use Rattle.promises.specs.Bounds.{Bound, all, below, up_to, within}
use Rattle.promises.specs.Queries.{Query, Laws, station_key, page_key, answer}
use Rattle.promises.specs.Opening.{called_for, opened, up_to_bound, listed}
use Rattle.promises.specs.Waiting.{key_of, passes, Place, places, some, waits, waiting}
use Rattle.promises.specs.Searching.{top_key, row}
use Rattle.promises.specs.Turning.{Same, Least, Turns, Turning}
use Rattle.promises.proofs.Lists.{all-at, in_map, of_map, count_append, kept-none}
use Rattle.promises.proofs.Keys.{before_same}
use Rattle.promises.proofs.Books.{in_joined}
use Rattle.promises.proofs.Rows.{not_after, top-first, rising-answer, page_in_row, station_in_row, of_row}
use Rattle.promises.proofs.Places.{count_kept, count_same, count_map, of_some, of-children, of-stations, at, count_at, same_in}
use Rattle.promises.proofs.Turns as turns
use Rattle.promises.proofs.Turns.{false-from, W, Wanted, called-wanted, answer-wanted, wanted-called, wanted-answer, pages-done, stations-done, listed_same, opened_same, standing-at, on, saw, saw-parts, pages-below, stations-below, listed_below, pages_up, stations_up, is_child, is_station}
use Rattle.promises.proofs.PageTurns as page-turns

kinds : {P : Type 0} {s : stated.Station} {c : Child} → Station s ≡ Page c → P
kinds h = let z : ◌≡◌ {A = ℕ} 0 1 = cc in absurd (omega arith)

same-station : {s t : stated.Station} → Station s ≡ Station t → s ≡ t
same-station h = cc

same-page : {c d : Child} → Page c ≡ Page d → c ≡ d
same-page h = cc

none_in : {A : Type 0} {x : A} {xs : List A} → x ∈ xs → length xs ≡ 0 → ⊥
none_in (here e) h = omega arith
none_in (there m) h = omega arith

-- in a rising list, what comes up to one of its members is what comes before it, and that member
up_to_one : (q : Query) {s : stated.Station} {xs : List stated.Station} → Pairwise (λ s t. before (station_key q s) (station_key q t) ≡ true) xs → s ∈ xs → up_to_bound q (up_to (station_key q s)) xs ≡ up_to_bound q (below (station_key q s)) xs ++ s ∷ []
up_to_one q {s} r (here {x = y} {xs = ys} e) =
    let past = All-weaker (λ t. before (station_key q y) (station_key q t) ≡ true) (λ t. before (station_key q s) (station_key q t) ≡ true) (λ t h. subst (λ w. before (station_key q w) (station_key q t) ≡ true) (sym e) h) ys r.0 in
    let same : before (station_key q s) (station_key q y) ≡ false = subst (λ w. before (station_key q s) (station_key q w) ≡ false) e (before_same (station_key q s)) in
    let same' : before (station_key q y) (station_key q s) ≡ false = subst (λ w. before (station_key q w) (station_key q s) ≡ false) e (before_same (station_key q s)) in
    rw (
      same,
      same',
      kept-none (λ t. within (up_to (station_key q s)) (station_key q t)) ys (All-weaker _ _ (λ t h. not_from_true _ h) ys past),
      kept-none (λ t. within (below (station_key q s)) (station_key q t)) ys (All-weaker _ _ (λ t h. not_after (station_key q s) (station_key q t) h) ys past),
    ) (ap (λ w. w ∷ []) (sym e))
up_to_one q {s} r (there {x = y} {xs = ys} m) =
    let first : before (station_key q y) (station_key q s) ≡ true = all-at (λ z. before (station_key q y) (station_key q z) ≡ true) r.0 m in
    rw (first, not_after (station_key q y) (station_key q s) first) (ap (λ w. y ∷ w) (up_to_one q r.1 m))

module _ (q : Query) (laws : Laws q) (b : Book) (lawful : Lawful b) where
  -- how often a test holds of what waits
  count-waits : (t : Entry → Bool) (u : Bound) → count t (waiting q b u) ≡ count (λ x. waits q b u x && t x.entry) (places 0 b)
  count-waits t u = count_map t (λ x. x.entry) (W q laws b lawful u) ∙ count_kept (λ x. t x.entry) (waits q b u) (places 0 b)

  row-wanted : {e : Entry} → e ∈ row q b → Wanted q laws b lawful e
  row-wanted m = ⊎_elim (λ r. subst (Wanted q laws b lawful) (sym r.2) (called-wanted q laws b lawful r.1)) (λ r. subst (Wanted q laws b lawful) (sym r.2) (answer-wanted q laws b lawful r.1)) (of_row q laws b lawful m)

  wanted-row : (p : ℕ) (e : Entry) → e ∈ entries_on (slot b p) → Wanted q laws b lawful e → e ∈ row q b
  wanted-row p (Page c) m w = page_in_row q laws b lawful (wanted-called q laws b lawful (in_joined children_on refl b p (of-children (slot b p) m)) w)
  wanted-row p (Station s) m w = station_in_row q laws b lawful (wanted-answer q laws b lawful (in_joined stations_on refl b p (of-stations (slot b p) m)) w)

  row-called : {c : Child} → Page c ∈ row q b → c ∈ called_for q b
  row-called m = ⊎_elim (λ r. subst (λ d. d ∈ called_for q b) (sym (same-page r.2)) r.1) (λ r. kinds (sym r.2)) (of_row q laws b lawful m)

  row-answer : {s : stated.Station} → Station s ∈ row q b → s ∈ answer q b
  row-answer m = ⊎_elim (λ r. kinds r.2) (λ r. subst (λ t. t ∈ answer q b) (sym (same-station r.2)) r.1) (of_row q laws b lawful m)

  -- once the top is opened
  top-waits : (y : Place) → waits q b (below top_key) y ≡ (eqb y.page 0 && passes q [] y.entry)
  top-waits y = rw (no-saw, top-first (key_of q y.entry)) (plain (eqb y.page 0 && passes q [] y.entry))
    where
      plain : (t : Bool) → ((t || false) && true) ≡ t
      plain true = refl
      plain false = refl

      no-saw : some (saw q laws b lawful (below top_key) y) (called_for q b) ≡ false
      no-saw = false-from (some (saw q laws b lawful (below top_key) y) (called_for q b)) (λ h. let r = of_some (saw q laws b lawful (below top_key) y) (called_for q b) h in both_ways (before (page_key q r.0) top_key) (top-first (page_key q r.0)) (saw-parts q laws b lawful (below top_key) y r.0 r.2).1)

  top-same : Same (waiting q b (below top_key)) (filter (passes q []) (entries_on (slot b 0)))
  top-same t =
      count-waits t (below top_key)
      ∙ count_same _ (λ y. eqb y.page 0 && (passes q [] y.entry && t y.entry)) (places 0 b) (λ y m. ap (λ s. s && t y.entry) (top-waits y) ∙ assoc (eqb y.page 0) (passes q [] y.entry) (t y.entry))
      ∙ count_at 0 0 (λ e. passes q [] e && t e) b
      ∙ sym (count_kept t (passes q []) (entries_on (slot b 0)))
    where
      assoc : (a c d : Bool) → ((a && c) && d) ≡ (a && (c && d))
      assoc true c d = refl
      assoc false c d = refl

  module _ (u : Bound) (e : Entry) (rest : List Entry) (least : Least q (waiting q b u) e rest) where
    abbrev κ : Key
    κ = key_of q e

    found : (p : ℕ) × (at p e ∈ W q laws b lawful u)
    found =
        let r = of_map (λ x. x.entry) (W q laws b lawful u) (same_in (e ∷ rest) (waiting q b u) (λ t. sym (least.same t)) (here refl)) in
        (r.0.page, subst (λ f. at r.0.page f ∈ W q laws b lawful u) (sym r.2) r.1)

    abbrev x : Place
    x = at found.0 e

    member : x ∈ W q laws b lawful u
    member = found.1

    not-before : {f : Entry} → f ∈ (e ∷ rest) → before (key_of q f) κ ≡ false
    not-before (here d) = subst (λ f. before (key_of q f) κ ≡ false) (sym d) (before_same κ)
    not-before (there m) = all-at (λ f. before (key_of q f) κ ≡ false) least.least m

    first : (y : Place) → y ∈ W q laws b lawful u → before (key_of q y.entry) κ ≡ false
    first y m = not-before (same_in (waiting q b u) (e ∷ rest) least.same (in_map (λ x. x.entry) m))

    stands : e ∈ entries_on (slot b found.0)
    stands = standing-at q laws b lawful (on q laws b lawful u x member first)

    abbrev NoStation : Type 0
    NoStation = (s : stated.Station) → e ≡ Station s → e ∈ row q b → ⊥

    abbrev NoPage : Type 0
    NoPage = (c : Child) → e ≡ Page c → e ∈ row q b → ⊥

    no-page-key : NoPage → (c : Child) → c ∈ called_for q b → page_key q c ≡ κ → ⊥
    no-page-key f c m k = let i = is_child q laws b lawful u x member first c m k in f c (sym i) (subst (λ e. e ∈ row q b) i (page_in_row q laws b lawful m))

    no-station-key : NoStation → (s : stated.Station) → s ∈ answer q b → station_key q s ≡ κ → ⊥
    no-station-key f s m k = let i = is_station q laws b lawful u x member first s m k in f s (sym i) (subst (λ e. e ∈ row q b) i (station_in_row q laws b lawful m))

    nearest : (f : Entry) → f ∈ row q b → within u (key_of q f) ≡ before (key_of q f) κ
    nearest f m = ⊎_elim
        (λ r. subst (λ f. within u (key_of q f) ≡ before (key_of q f) κ) (sym r.2) (pages-below q laws b lawful u x member first r.0 r.1))
        (λ r. subst (λ f. within u (key_of q f) ≡ before (key_of q f) κ) (sym r.2) (stations-below q laws b lawful u x member first r.0 r.1))
        (of_row q laws b lawful m)

    lists : (s : stated.Station) → e ≡ Station s → e ∈ row q b → listed q b (up_to κ) ≡ listed q b u ++ s ∷ []
    lists s i m =
        ap (λ f. listed q b (up_to (key_of q f))) i
        ∙ up_to_one q (rising-answer q laws b lawful) (row-answer (subst (λ f. f ∈ row q b) i m))
        ∙ ap (λ ss. ss ++ s ∷ []) (sym (listed_below q laws b lawful u x member first ∙ ap (λ f. listed q b (below (key_of q f))) i))

    opens : (c : Child) → e ≡ Page c → e ∈ row q b → length (opened q b (up_to κ)) ≡ suc (length (opened q b u))
    opens c i m = ap (λ f. length (opened q b (up_to (key_of q f)))) i ∙ page-turns.more-opened q laws b lawful u x member first c i (row-called (subst (λ f. f ∈ row q b) i m)) ∙ omega arith

    comes : (c : Child) → e ≡ Page c → e ∈ row q b → Same (waiting q b (up_to κ)) (filter (passes q (listed q b u)) (entries_on (slot b c.page)) ++ rest)
    comes c i m t =
        let v : up_to κ ≡ up_to (page_key q c) = ap (λ f. up_to (key_of q f)) i in
        let fresh = filter (passes q (listed q b u)) (entries_on (slot b c.page)) in
        ap (λ w. count t (waiting q b w)) v
        ∙ omega (
          arith,
          least.same t,
          count-waits t u,
          count-waits t (up_to (page_key q c)),
          page-turns.comes q laws b lawful u x member first c i (row-called (subst (λ f. f ∈ row q b) i m)) t,
          count_kept t (passes q (listed q b u)) (entries_on (slot b c.page)),
          count_append t fresh rest,
        )

    leaves : NoPage → Same (waiting q b (up_to κ)) rest
    leaves f t = omega (arith, least.same t, count-waits t u, count-waits t (up_to κ), turns.leaves q laws b lawful u x member first (no-page-key f) (λ y. t y.entry))

    pub turned : Turns q b u e rest
    turned = record {
      nearest = nearest;
      wanted = λ h. wanted-row found.0 e stands (turns.wanted q laws b lawful u x member first h);
      unwanted = λ h m. turns.unwanted q laws b lawful u x member first h (row-wanted m);
      lists = lists;
      listed_same = λ f. sym (listed_same q laws b lawful u (up_to κ) (λ s m. stations_up q laws b lawful u x member first s m (no-station-key f s m)));
      opens = opens;
      comes = comes;
      opened_same = λ f. sym (opened_same q laws b lawful u (up_to κ) (λ c m. pages_up q laws b lawful u x member first c m (no-page-key f c m)));
      leaves = leaves;
    }

  ended : (u : Bound) → length (waiting q b u) ≡ 0 → (f : Entry) → f ∈ row q b → within u (key_of q f) ≡ true
  ended u h f m =
      let nothing : (y : Place) → y ∈ W q laws b lawful u → within all (key_of q y.entry) ≡ true → ⊥ = λ y n _. none_in (in_map (λ x. x.entry) n) h in
      ⊎_elim
      (λ r. subst (λ f. within u (key_of q f) ≡ true) (sym r.2) (pages-done q laws b lawful u all nothing r.0 r.1 refl))
      (λ r. subst (λ f. within u (key_of q f) ≡ true) (sym r.2) (stations-done q laws b lawful u all nothing r.0 r.1 refl))
      (of_row q laws b lawful m)

pub turning : Turning
turning q laws b lawful = record { top = top-same q laws b lawful; turns = turned q laws b lawful; ends = ended q laws b lawful }
