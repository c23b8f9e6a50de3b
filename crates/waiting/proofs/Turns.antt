-- One turn of a run, against the book.
use Rattle.std.proofs.Common.{◌≡◌, ℕ, zero, suc, ◌+◌, ◌<◌, ◌≤◌, Bool, true, false, ltb, leb, List, [], ◌∷◌, ◌++◌, map, length, Some, None, Ok, Err, filter, sym, refl, ap, ◌∙◌, subst, ⊎_elim, arith}
use Rattle.std.specs.List.{AllByRecursion as Each}
use Rattle.std.proofs.lemmas.List.{nil_from_length, append-nil}
use Rattle.std.proofs.ByRecursion.{All-map, all_shuffled}
use Rattle.std.proofs.lemmas.Bool.{cases_Bool, cases_eq, both_ways, not-true, not_from_true, lt-ltb, le-ltb, le-leb, lt-leb}
use Rattle.stations.specs.declared.station.Station as stated
use Rattle.stations.specs.declared.key.Key.{Key}
use Rattle.stations.specs.declared.fault.Fault.{Fault}
use Rattle.stations.specs.declared.fault.Code.TheVariants.{DeadPage, WaitingFull, ListFull}
use Rattle.stations.specs.Faults.{fault, refuse_if, or_else}
use Rattle.stations.specs.Keys.{before}
use Rattle.stations.specs.Counting.{bit, count}
use Rattle.books.specs.declared.Child.{Child}
use Rattle.books.specs.declared.Entry.{Entry}
use Rattle.books.specs.declared.Entry.TheVariants.{Page, Station}
use Rattle.books.specs.Lists.{Pairwise, ◌∈◌, here, there}
use Rattle.books.specs.Books.{Book, dead, slot, is_dead, IsLive, entries_on, children_on, named, Lawful}
use Rattle.heaps.specs.Heap.{Heaped}
use Rattle.heaps.proofs.Laws.{none_heaped}
use Rattle.promises.specs.Bounds.{Bound, all, below, up_to, within}
use Rattle.promises.specs.Queries.{Query, Laws, station_key, page_key, answer}
use Rattle.promises.specs.Opening.{called_for, opened, listed}
use Rattle.promises.specs.Waiting.{key_of, passes, Place, waiting}
use Rattle.promises.specs.Searching.{top_key, row, open_fault, halt_at}
use Rattle.promises.specs.Stepping.{Clear, Steps}
use Rattle.promises.specs.Turning as turning
use Rattle.promises.specs.Turning.{Same, Least, Turns}
use Rattle.promises.specs.Histories as histories
use Rattle.promises.specs.Histories.{phase_by}
use Rattle.promises.proofs.Lists.{all-at, all_from, of-kept, of_map, in_map, kept-none, kept-all, length-kept, count_into, count-all, pairwise_kept, pairwise_mapped}
use Rattle.promises.proofs.Keys.{before_same, before-total}
use Rattle.promises.proofs.Books.{false-live, of_joined, shape}
use Rattle.promises.proofs.Rows.{top-first, page_in_row, station_in_row, of_row}
use Rattle.promises.proofs.Places.{at, same_in}
use Rattle.promises.proofs.Turns.{W, is_child, is_station}
use Rattle.promises.proofs.Stepping.{stepping}
use Rattle.promises.proofs.Turning as proved
use Rattle.waiting.specs.declared.waiting.Waiting.{Waiting}
use Rattle.waiting.specs.Orders.{by_key}
use Rattle.waiting.specs.Held.{Keyed, entries_of, Taken, Filled}
use Rattle.waiting.specs.States.{limits, Refuses, many, unnamed, dies, crowds, Opens, At, Gave, Turned}
use Rattle.waiting.proofs.Filling.{same_shuffled, same_length, entries-length, filled-count}

kinds : {P : Type 0} {s : stated.Station} {c : Child} → Station s ≡ Page c → P
kinds h = cc

same-station : {s t : stated.Station} → Station s ≡ Station t → s ≡ t
same-station h = cc

same-page : {c d : Child} → Page c ≡ Page d → c ≡ d
same-page h = cc

not_done : {P : Type 0} → phase_by (Ok None) ≡ histories.searching → P
not_done h = cc

not-halted : {P : Type 0} {f : Fault} → phase_by (Err f) ≡ histories.searching → P
not-halted h = cc

module _ (q : Query) (laws : Laws q) (b : Book) (lawful : Lawful b) where
  abbrev T : turning.Turned q b
  T = proved.turning q laws b lawful

  abbrev S : Steps q b limits
  S = stepping q laws b lawful limits

  row-answer : {s : stated.Station} → Station s ∈ row q b → s ∈ answer q b
  row-answer m = ⊎_elim (λ r. kinds r.2) (λ r. subst (λ t. t ∈ answer q b) (sym (same-station r.2)) r.1) (of_row q laws b lawful m)

  row-called : {c : Child} → Page c ∈ row q b → c ∈ called_for q b
  row-called m = ⊎_elim (λ r. subst (λ d. d ∈ called_for q b) (sym (same-page r.2)) r.1) (λ r. kinds (sym r.2)) (of_row q laws b lawful m)

  -- bounds that agree on the row list and open the same
  listed_by : (u v : Bound) → ((f : Entry) → f ∈ row q b → within u (key_of q f) ≡ within v (key_of q f)) → listed q b u ≡ listed q b v
  listed_by u v h = Rattle.promises.proofs.Turns.listed_same q laws b lawful u v (λ s m. h (Station s) (station_in_row q laws b lawful m))

  opened-by : (u v : Bound) → ((f : Entry) → f ∈ row q b → within u (key_of q f) ≡ within v (key_of q f)) → opened q b u ≡ opened q b v
  opened-by u v h = Rattle.promises.proofs.Turns.opened_same q laws b lawful u v (λ c m. h (Page c) (page_in_row q laws b lawful m))

  -- why a page halts the search, or not
  open_none : (p : ℕ) (v : Bound) → IsLive (slot b p) → length (waiting q b v) ≤ 1024 → open_fault q b limits p v ≡ None
  open_none p v live h = rw (false-live (slot b p) live, le-ltb 1024 (length (waiting q b v)) h)

  open-dead : (p : ℕ) (v : Bound) → slot b p ≡ dead → open_fault q b limits p v ≡ Some (fault DeadPage p 0)
  open-dead p v h = ap (λ s. or_else (refuse_if (is_dead s) (fault DeadPage p 0)) (refuse_if (ltb 1024 (length (waiting q b v))) (fault WaitingFull p 0))) h

  open_crowded : (p : ℕ) (v : Bound) → IsLive (slot b p) → 1024 < length (waiting q b v) → open_fault q b limits p v ≡ Some (fault WaitingFull p 0)
  open_crowded p v live h = rw (false-live (slot b p) live, lt-ltb 1024 (length (waiting q b v)) h)

  module _ (u : Bound) (xs : List Waiting) (ss : List stated.Station) (n : ℕ) (at-u : At q b u xs ss n) where
    waiting-length : length (waiting q b u) ≡ length xs
    waiting-length = sym (same_length (entries_of xs) (waiting q b u) at-u.waits) ∙ entries-length xs

    -- nothing waits: the search is done
    pub ended : (ys : List Waiting) → length xs ≡ 0 → Gave q b ss (Ok None) ys ss n
    ended ys none =
        let over : (f : Entry) → f ∈ row q b → within u (key_of q f) ≡ within all (key_of q f) = T.ends u (waiting-length ∙ none) in
        let every : listed q b all ≡ answer q b = kept-all (λ _. true) (answer q b) (all_from _ (answer q b) (λ s _. refl)) in
        let whole : ss ≡ answer q b = at-u.listed ∙ listed_by u all over ∙ every in
        let clear : Clear q b limits all = record { top = at-u.clear.top; rest = λ f m _. at-u.clear.rest f m (over f m) } in
        let e = S.ends clear (length ss) (omega (arith, ap length whole)) in
        record { gives = sym e.0; reads = at-u.reads ∙ ap length (opened-by u all over ∙ sym e.1); lists = refl; goes = not_done }

    module _ (w : Waiting) (ys : List Waiting) (taken : Taken xs w ys) where
      abbrev e : Entry
      e = w.entry

      abbrev κ : Key
      κ = key_of q w.entry

      keyed : Keyed q w × Each (Keyed q) ys
      keyed = all_shuffled (Keyed q) xs (w ∷ ys) taken.holds at-u.keys

      least : Least q (waiting q b u) e (entries_of ys)
      least = record {
        same = λ t. sym (at-u.waits t) ∙ sym (same_shuffled xs (w ∷ ys) taken.holds t);
        least = All-map (λ f. before (key_of q f) κ ≡ false) (λ v. v.entry) ys (firsts ys (taken.least at-u.heap) keyed.1);
      }
        where
          firsts : (vs : List Waiting) → Each (λ v. before v.key w.key ≡ false) vs → Each (Keyed q) vs → Each (λ v. before (key_of q v.entry) κ ≡ false) vs
          firsts [] h k = tt
          firsts (v ∷ vs) h k = (ap (λ j. before j κ) (sym k.0) ∙ ap (λ j. before v.key j) (sym keyed.0) ∙ h.0, firsts vs h.1 k.1)

      turn : Turns q b u e (entries_of ys)
      turn = T.turns u e (entries_of ys) least

      found : (p : ℕ) × (at p e ∈ W q laws b lawful u)
      found =
          let r = of_map (λ x. x.entry) (W q laws b lawful u) (same_in (e ∷ entries_of ys) (waiting q b u) (λ t. sym (least.same t)) (here refl)) in
          (r.0.page, subst (λ f. at r.0.page f ∈ W q laws b lawful u) (sym r.2) r.1)

      abbrev x : Place
      x = at found.0 e

      not-before : {f : Entry} → f ∈ (e ∷ entries_of ys) → before (key_of q f) κ ≡ false
      not-before (here d) = subst (λ f. before (key_of q f) κ ≡ false) (sym d) (before_same κ)
      not-before (there m) = all-at (λ f. before (key_of q f) κ ≡ false) least.least m

      first : (y : Place) → y ∈ W q laws b lawful u → before (key_of q y.entry) κ ≡ false
      first y m = not-before (same_in (waiting q b u) (e ∷ entries_of ys) least.same (in_map (λ x. x.entry) m))

      -- whatever is on the row with this key is this entry
      only : (f : Entry) → f ∈ row q b → key_of q f ≡ κ → f ≡ e
      only f m k =
          ⊎_elim
          (λ r. r.2 ∙ is_child q laws b lawful u x found.1 first r.0 r.1 (sym (ap (key_of q) r.2) ∙ k))
          (λ r. r.2 ∙ is_station q laws b lawful u x found.1 first r.0 r.1 (sym (ap (key_of q) r.2) ∙ k))
          (of_row q laws b lawful m)

      clear-below : Clear q b limits (below κ)
      clear-below = record { top = at-u.clear.top; rest = λ f m h. at-u.clear.rest f m (turn.nearest f m ∙ h) }

      -- the search goes on past the entry unless that halts it
      clear_up : (e ∈ row q b → halt_at q b limits e ≡ None) → Clear q b limits (up_to κ)
      clear_up halts = record {
        top = at-u.clear.top;
        rest = λ f m h. ⊎_elim
            (λ k. clear-below.rest f m k)
            (λ k. let i = only f m (before-total (key_of q f) κ k (not-true (before κ (key_of q f)) h)) in subst (λ g. halt_at q b limits g ≡ None) (sym i) (halts (subst (λ g. g ∈ row q b) i m)))
            (cases_Bool (before (key_of q f) κ));
      }

      listed_below : listed q b (below κ) ≡ ss
      listed_below = sym (at-u.listed ∙ listed_by u (below κ) turn.nearest)

      opened-below : length (opened q b (below κ)) ≡ n
      opened-below = sym (at-u.reads ∙ ap length (opened-by u (below κ) turn.nearest))

      wanted : passes q ss e ≡ true → e ∈ row q b
      wanted h = turn.wanted (ap (λ xs. passes q xs e) (sym at-u.listed) ∙ h)

      -- the entry is set aside
      pub aside : passes q ss e ≡ false → Turned q b ss None ys ss n
      aside h =
          let off : e ∈ row q b → ⊥ = turn.unwanted (ap (λ xs. passes q xs e) (sym at-u.listed) ∙ h) in (
            refl,
            (
              up_to κ,
              record {
                keys = keyed.1;
                heap = taken.heap at-u.heap;
                waits = λ t. sym (turn.leaves (λ c _ m. off m) t);
                listed = at-u.listed ∙ sym (turn.listed_same (λ s _ m. off m));
                reads = at-u.reads ∙ ap length (sym (turn.opened_same (λ c _ m. off m)));
                clear = clear_up (λ m. absurd (off m));
              },
            ),
          )

      module _ (s : stated.Station) (is : e ≡ Station s) (passed : passes q ss e ≡ true) where
        no-page : (c : Child) → e ≡ Page c → e ∈ row q b → ⊥
        no-page c h m = kinds (sym is ∙ h)

        full : (t : Bool) → leb 512 (length ss) ≡ t → halt_at q b limits e ≡ refuse_if t (fault ListFull s.number 0)
        full t h = ap (halt_at q b limits) is ∙ ap (λ t. refuse_if t (fault ListFull s.number 0)) (ap (λ xs. leb 512 (length xs)) (ap (λ f. listed q b (below (key_of q f))) (sym is) ∙ listed_below) ∙ h)

        -- it is handed out
        pub handed : length ss < 512 → (ss' : List stated.Station) → ss' ≡ ss ++ s ∷ [] → Turned q b ss (Some (Ok (Some s))) ys ss' n
        handed room ss' more =
            let m = wanted passed in
            let κ-is : station_key q s ≡ κ = ap (key_of q) (sym is) in
            let clear = clear_up (λ _. full false (lt-leb 512 (length ss) room)) in
            let h = S.hands s (row-answer (subst (λ f. f ∈ row q b) is m)) (subst (λ k. Clear q b limits (up_to k)) (sym κ-is) clear) (length ss) (ap (λ k. length (listed q b (below k))) κ-is ∙ ap length listed_below) in
            record {
              gives = sym h.0;
              reads = sym (ap length h.1 ∙ ap (λ k. length (opened q b (below k))) κ-is ∙ opened-below);
              lists = more;
              goes = λ _. (
                up_to κ,
                record {
                  keys = keyed.1;
                  heap = taken.heap at-u.heap;
                  waits = λ t. sym (turn.leaves no-page t);
                  listed = more ∙ ap (λ xs. xs ++ s ∷ []) at-u.listed ∙ sym (turn.lists s is m);
                  reads = at-u.reads ∙ ap length (sym (turn.opened_same no-page));
                  clear = clear;
                },
              );
            }

        -- it finds the list full
        pub list_full : 512 ≤ length ss → Turned q b ss (Some (Err (fault ListFull s.number 0))) ys ss n
        list_full room =
            let m = wanted passed in
            let h = S.halts e (fault ListFull s.number 0) m clear-below (full true (le-leb 512 (length ss) room)) (length ss) (omega (arith, ap length listed_below)) in
            record { gives = sym h.0; reads = at-u.reads ∙ ap length (sym (h.1 ∙ turn.opened_same no-page)); lists = refl; goes = not-halted }

      module _ (c : Child) (is : e ≡ Page c) (passed : passes q ss e ≡ true) (zs : List Waiting) (m : ℕ) where
        no-station : (s : stated.Station) → e ≡ Station s → e ∈ row q b → ⊥
        no-station s h _ = kinds (sym h ∙ is)

        halt_is : halt_at q b limits e ≡ open_fault q b limits c.page (up_to κ)
        halt_is = ap (halt_at q b limits) is ∙ ap (λ f. open_fault q b limits c.page (up_to (key_of q f))) (sym is)

        comes : Same (waiting q b (up_to κ)) (filter (passes q ss) (entries_on (slot b c.page)) ++ entries_of ys)
        comes = subst (λ xs. Same (waiting q b (up_to κ)) (filter (passes q xs) (entries_on (slot b c.page)) ++ entries_of ys)) (sym at-u.listed) (turn.comes c is (wanted passed))

        pub more-opened : length (opened q b (up_to κ)) ≡ suc n
        more-opened = turn.opens c is (wanted passed) ∙ ap suc (sym at-u.reads)

        pub in_book : c.page < length b
        in_book =
            let o = of_joined children_on b (of-kept _ (named b) (row-called (subst (λ f. f ∈ row q b) is (wanted passed)))).0 in
            (all-at (λ c. (o.0 < c.page) × (c.page < length b)) (lawful.after o.0) o.1).1

        -- its page is opened
        pub entered : length zs ≤ 1024 → Opens q b (length b) c.page ss ys zs n m (Ok tt) → Turned q b ss None zs ss m
        entered room o =
            let same : Same (entries_of zs) (waiting q b (up_to κ)) = λ t. o.2.same t ∙ sym (comes t) in
            let count = same_length (entries_of zs) (waiting q b (up_to κ)) same in (
              refl,
              (
                up_to κ,
                record {
                  keys = o.2.keys keyed.1;
                  heap = o.2.heap (taken.heap at-u.heap);
                  waits = same;
                  listed = at-u.listed ∙ sym (turn.listed_same no-station);
                  reads = o.1 ∙ omega (arith, more-opened);
                  clear = clear_up (λ _. halt_is ∙ open_none c.page (up_to κ) o.0 (omega (arith, count, entries-length zs)));
                },
              ),
            )

        -- or halts the search
        halted : (f : Fault) → open_fault q b limits c.page (up_to κ) ≡ Some f → m ≡ n + 1 → Turned q b ss (Some (Err f)) zs ss m
        halted f h k =
            let s = S.halts e f (wanted passed) clear-below (halt_is ∙ h) (length ss) (omega (arith, ap length listed_below)) in
            record { gives = sym s.0; reads = k ∙ omega (arith, more-opened, ap length s.1); lists = refl; goes = not-halted }

        pub refused : length (opened q b (up_to κ)) ≤ 256 → (f : Fault) → Refuses q b (length b) c.page ss ys n m f → Turned q b ss (Some (Err f)) zs ss m
        refused few f (many h) = absurd (omega (arith, more-opened))
        refused few f (unnamed h) = absurd (omega (arith, in_book))
        refused few f (dies d k i) = subst (λ f. Turned q b ss (Some (Err f)) zs ss m) (sym i) (halted (fault DeadPage c.page 0) (open-dead c.page (up_to κ) d) k)
        refused few f (crowds l k i h) =
            let long : length (waiting q b (up_to κ)) ≡ length ys + count (passes q ss) (entries_on (slot b c.page)) = same_length (waiting q b (up_to κ)) _ comes ∙ kept-length in
            subst (λ f. Turned q b ss (Some (Err f)) zs ss m) (sym i) (halted (fault WaitingFull c.page 0) (open_crowded c.page (up_to κ) l (omega (arith, long))) k)
          where
            kept-length : length (filter (passes q ss) (entries_on (slot b c.page)) ++ entries_of ys) ≡ length ys + count (passes q ss) (entries_on (slot b c.page))
            kept-length = filled-count q ss (entries_on (slot b c.page)) ys

  -- the top is opened first
  module _ (xs : List Waiting) (ss : List stated.Station) (fresh : (length xs ≡ 0) × (length ss ≡ 0)) (zs : List Waiting) (m : ℕ) where
    none-waits : xs ≡ []
    none-waits = nil_from_length xs fresh.0

    none-listed : ss ≡ []
    none-listed = nil_from_length ss fresh.1

    top-same : Filled q ss (entries_on (slot b 0)) xs zs → Same (entries_of zs) (waiting q b (below top_key))
    top-same f t =
        f.same t
        ∙ ap (λ ys. Rattle.stations.specs.Counting.count t (filter (passes q ss) (entries_on (slot b 0)) ++ entries_of ys)) none-waits
        ∙ ap (Rattle.stations.specs.Counting.count t) (append-nil (filter (passes q ss) (entries_on (slot b 0))))
        ∙ ap (λ ss. Rattle.stations.specs.Counting.count t (filter (passes q ss) (entries_on (slot b 0)))) none-listed
        ∙ sym (T.top t)

    top-length : length (waiting q b (below top_key)) ≡ length xs + count (passes q ss) (entries_on (slot b 0))
    top-length =
        same_length _ _ T.top
        ∙ ap (λ ss. length (filter (passes q ss) (entries_on (slot b 0)))) (sym none-listed)
        ∙ length-kept (passes q ss) (entries_on (slot b 0))
        ∙ omega (arith, fresh.0)

    one-opened : (v : Bound) → ((c : Child) → c ∈ called_for q b → within v (page_key q c) ≡ false) → length (opened q b v) ≡ 1
    one-opened v h = ap (λ cs. length (0 ∷ map (λ c. c.page) cs)) (kept-none (λ c. within v (page_key q c)) (called_for q b) (all_from _ (called_for q b) h))

    -- no page called for is the top
    past_top : (c : Child) → c ∈ called_for q b → within (up_to top_key) (page_key q c) ≡ false
    past_top c i =
        ⊎_elim
        (λ h. not_from_true _ h)
        (λ h. absurd (let o = of_joined children_on b (of-kept _ (named b) i).0 in let k = before-total top_key (page_key q c) h (top-first (page_key q c)) in omega (arith, (all-at (λ c. (o.0 < c.page) × (c.page < length b)) (lawful.after o.0) o.1).0, ap (λ k. k.number) k)))
        (cases_Bool (before top_key (page_key q c)))

    pub begun : length zs ≤ 1024 → Opens q b (length b) 0 ss xs zs 0 m (Ok tt) → At q b (below top_key) zs ss m
    begun room o =
        let same = top-same o.2 in
        record {
          keys = o.2.keys (subst (Each (Keyed q)) (sym none-waits) tt);
          heap = o.2.heap (subst (Heaped by_key) (sym none-waits) (none_heaped by_key));
          waits = same;
          listed = none-listed ∙ sym (kept-none (λ s. before (station_key q s) top_key) (answer q b) (all_from _ (answer q b) (λ s _. top-first (station_key q s))));
          reads = o.1 ∙ sym (one-opened (below top_key) (λ c _. top-first (page_key q c)));
          clear = record {
            top = open_none 0 (below top_key) o.0 (omega (arith, same_length (entries_of zs) (waiting q b (below top_key)) same, entries-length zs));
            rest = λ f i h. absurd (both_ways _ (top-first (key_of q f)) h);
          };
        }

    top-halted : (f : Fault) → open_fault q b limits 0 (below top_key) ≡ Some f → m ≡ 0 + 1 → Gave q b ss (Err f) zs ss m
    top-halted f h k =
        let s = S.top_halts f h (length ss) in
        record { gives = sym s.0; reads = k ∙ sym (ap length s.1 ∙ one-opened (up_to top_key) past_top); lists = refl; goes = not-halted }

    pub top-refused : 1 ≤ length b → (f : Fault) → Refuses q b (length b) 0 ss xs 0 m f → Gave q b ss (Err f) zs ss m
    top-refused some f (many h) = absurd (omega arith)
    top-refused some f (unnamed h) = absurd (omega arith)
    top-refused some f (dies d k i) = subst (λ f. Gave q b ss (Err f) zs ss m) (sym i) (top-halted (fault DeadPage 0 0) (open-dead 0 (below top_key) d) k)
    top-refused some f (crowds l k i h) = subst (λ f. Gave q b ss (Err f) zs ss m) (sym i) (top-halted (fault WaitingFull 0 0) (open_crowded 0 (below top_key) l (omega (arith, top-length))) k)

  -- no page is opened twice, so they are no more than the book has
  pub few-opened : 1 ≤ length b → (u : Bound) → length (opened q b u) ≤ length b
  few-opened some u = omega (arith, count_into (λ _. true) (opened q b u) (numbers (length b)) apart inside, count-all (opened q b u), count-all (numbers (length b)), length-numbers (length b))
    where
      numbers : ℕ → List ℕ
      numbers zero = []
      numbers (suc n) = n ∷ numbers n

      length-numbers : (n : ℕ) → length (numbers n) ≡ n
      length-numbers zero = refl
      length-numbers (suc n) = ap suc (length-numbers n)

      in_numbers : (n p : ℕ) → p < n → p ∈ numbers n
      in_numbers zero p h = absurd (omega arith)
      in_numbers (suc n) p h = ⊎_elim (λ e. here e) (λ ne. there (in_numbers n p (omega arith))) (cases_eq p n)

      called : (c : Child) → c ∈ filter (λ c. within u (page_key q c)) (called_for q b) → (p : ℕ) × (p < c.page) × (c.page < length b)
      called c m =
          let o = of_joined children_on b (of-kept _ (named b) (of-kept (λ c. within u (page_key q c)) (called_for q b) m).0).0 in
          let l = all-at (λ c. (o.0 < c.page) × (c.page < length b)) (lawful.after o.0) o.1 in
          (o.0, l.0, l.1)

      inside : (p : ℕ) → p ∈ opened q b u → true ≡ true → p ∈ numbers (length b)
      inside p (here e) _ = in_numbers (length b) p (omega arith)
      inside p (there m) _ = let r = of_map (λ c. c.page) (filter (λ c. within u (page_key q c)) (called_for q b)) m in in_numbers (length b) p (omega (arith, r.2, (called r.0 r.1).2))

      apart : Pairwise (λ p r. p ≡ r → ⊥) (opened q b u)
      apart = (
        All-map (λ p. 0 ≡ p → ⊥) (λ c. c.page) (filter (λ c. within u (page_key q c)) (called_for q b)) (all_from _ _ (λ c m e. omega (arith, (called c m).1))),
        pairwise_mapped (λ p r. p ≡ r → ⊥) (λ c. c.page) _ (pairwise_kept _ (λ c. within u (page_key q c)) (called_for q b) (pairwise_kept _ _ (named b) (shape b lawful).pages)),
      )
