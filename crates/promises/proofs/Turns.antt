-- A turn of the search: what the entry with the least key tells of the book.
use Rattle.std.proofs.Common.{◌≡◌, ℕ, ◌+◌, Bool, true, false, not, ◌&&◌, ◌||◌, eqb, ltb, ◌⊎◌, List, [], ◌∷◌, map, filter, sym, refl, ap, ◌∙◌, subst, inl, inr, ⊎_elim, zero-add, arith}
use Rattle.std.proofs.lemmas.Bool.{cases_Bool, both_ways, and_parts, and_from, and_left, and_right, or_left, or_right, or_cases, not-true, not_from_true, not_from_false, eqb-true, eq-eqb, lt-ltb, ltb-true}
use Rattle.stations.specs.declared.measures.Measures.{Measures}
use Rattle.stations.specs.declared.station.Station as stated
use Rattle.stations.specs.declared.key.Key.{Key}
use Rattle.stations.specs.declared.key.Kind.TheVariants as kind
use Rattle.stations.specs.Keys.{before}
use Rattle.stations.specs.Counting.{bit, count}
use Rattle.books.specs.declared.Child.{Child}
use Rattle.books.specs.declared.Entry.{Entry}
use Rattle.books.specs.declared.Entry.TheVariants.{Page, Station}
use Rattle.books.specs.Lists.{Pairwise, ◌∈◌, here, there}
use Rattle.books.specs.Books.{Book, slot, children_on, entries_on, stations, named, Lawful}
use Rattle.promises.specs.Bounds.{Bound, below, up_to, within}
use Rattle.promises.specs.Queries.{Query, Laws, station_key, page_key, field, overs, few, chosen, answer}
use Rattle.promises.specs.Opening.{calls, called_for, opened, listed}
use Rattle.promises.specs.Waiting.{key_of, measures_of, counts, passes, Place, places, some, passed, waits, waiting}
use Rattle.promises.proofs.Lists.{all-at, of_map, in_kept, of-kept, in_sort, of-sort, count_kept_le, count-sort}
use Rattle.promises.proofs.Keys.{before_trans, before_same, before-total, within-before}
use Rattle.promises.proofs.Books.{of_joined, shape}
use Rattle.promises.proofs.Theory.{listed_tests, upward, standing, onward}
use Rattle.promises.proofs.Places.{pick, kept_same, count_kept, count_same, count_map, some-from, of_some, in_children, in_stations, at, in_places, of_places, count-one-less, Differ, differ}

pub same_bool : (s t : Bool) → (s ≡ true → t ≡ true) → (t ≡ true → s ≡ true) → s ≡ t
same_bool true t f g = sym (f refl)
same_bool false true f g = g refl
same_bool false false f g = refl

pub false-from : (t : Bool) → (t ≡ true → ⊥) → t ≡ false
false-from true f = absurd (f refl)
false-from false f = refl

module _ (q : Query) (laws : Laws q) (b : Book) (lawful : Lawful b) where
  abbrev pub W : Bound → List Place
  W u = filter (waits q b u) (places 0 b)

  -- called for, or of the answer
  abbrev pub Wanted : Entry → Type 0
  Wanted e = (counts q e ≡ true) × (few q (field q b) (measures_of q e) ≡ true)

  few-first : (u : Bound) (c : Measures) → few q (field q b) c ≡ true → few q (listed q b u) c ≡ true
  few-first u c h =
      lt-ltb _ _ (omega (arith, ltb-true _ _ h, count_kept_le (overs q c) (λ s. within u (station_key q s)) (answer q b), count-sort (λ s t. before (station_key q s) (station_key q t)) (overs q c) (chosen q (field q b)), count_kept_le (overs q c) (λ s. few q (field q b) s.at) (field q b)))

  passes-wanted : (u : Bound) (e : Entry) → Wanted e → passes q (listed q b u) e ≡ true
  passes-wanted u e w = and_from _ _ w.0 (few-first u (measures_of q e) w.1)

  passes-top : (e : Entry) → Wanted e → passes q [] e ≡ true
  passes-top e w = and_from _ _ w.0 (lt-ltb _ _ (omega (arith, ltb-true _ _ w.1)))

  passed-by : (u : Bound) (p : ℕ) (e : Entry) → p ∈ opened q b u → Wanted e → passed q b u (at p e) ≡ true
  passed-by u p e (here z) w = or_left _ _ (and_from _ _ (eq-eqb p 0 z) (passes-top e w))
  passed-by u p e (there m) w =
      let r = of_map (λ c. c.page) (filter (λ c. within u (page_key q c)) (called_for q b)) m in
      let k = of-kept (λ c. within u (page_key q c)) (called_for q b) r.1 in
      or_right _ _ (some-from _ k.0 (and_from _ _ (eq-eqb r.0.page p (sym r.2)) (and_from _ _ k.1 (passes-wanted (below (page_key q r.0)) e w))))

  pub stood : (p : ℕ) {e : Entry} → e ∈ entries_on (slot b p) → at p e ∈ places 0 b
  stood p {e} m = subst (λ n. at n e ∈ places 0 b) (zero-add p) (in_places 0 b p m)

  pub standing-at : {x : Place} → x ∈ places 0 b → x.entry ∈ entries_on (slot b x.page)
  standing-at {x} m = let r = of_places 0 b m in subst (λ n. x.entry ∈ entries_on (slot b n)) (sym (r.1 ∙ zero-add r.0)) r.2

  waits_in : (u : Bound) (p : ℕ) (e : Entry) → e ∈ entries_on (slot b p) → p ∈ opened q b u → Wanted e → within u (key_of q e) ≡ false → at p e ∈ W u
  waits_in u p e m o w n = in_kept (waits q b u) (stood p m) (and_from _ _ (passed-by u p e o w) (not_from_false _ n))

  pub called-wanted : {c : Child} → c ∈ called_for q b → Wanted (Page c)
  called-wanted m = and_parts _ _ (of-kept (calls q (field q b)) (named b) m).1

  pub answer-wanted : {s : stated.Station} → s ∈ answer q b → Wanted (Station s)
  answer-wanted m =
      let f = of-kept (λ s. few q (field q b) s.at) (field q b) (of-sort _ (chosen q (field q b)) m) in
      ((of-kept (λ s. q.in_play s.at) (stations b) f.0).1, f.1)

  pub wanted-called : {c : Child} → c ∈ named b → Wanted (Page c) → c ∈ called_for q b
  wanted-called m w = in_kept (calls q (field q b)) m (and_from _ _ w.0 w.1)

  pub wanted-answer : {s : stated.Station} → s ∈ stations b → Wanted (Station s) → s ∈ answer q b
  wanted-answer m w = in_sort _ (in_kept (λ s. few q (field q b) s.at) (in_kept (λ s. q.in_play s.at) m w.0) w.1)

  -- where nothing that waits lies within v, what lies within v is done
  module _ (u v : Bound) (ahead : (x : Place) → x ∈ W u → within v (key_of q x.entry) ≡ true → ⊥) where
    reached : (j : Key) → within v j ≡ true → (p : ℕ) → p ∈ opened q b (below j) → p ∈ opened q b u
    reached j h p m =
        ⊎_elim (λ k. k) (λ r. absurd (ahead (at r.0 (Page r.1)) (waits_in u r.0 (Page r.1) (in_children (slot b r.0) r.3) r.2 (called-wanted r.4) r.5) (within-before v (page_key q r.1) j r.6 h))) (all-at _ (onward q laws b lawful u (below j)) m)

    pub pages-done : (c : Child) → c ∈ called_for q b → within v (page_key q c) ≡ true → within u (page_key q c) ≡ true
    pages-done c m h = ⊎_elim (λ k. k) (λ k.
        let g = of_joined children_on b (of-kept (calls q (field q b)) (named b) m).0 in
        absurd (ahead (at g.0 (Page c)) (waits_in u g.0 (Page c) (in_children (slot b g.0) g.1) (reached (page_key q c) h g.0 (upward q laws b lawful g.0 c g.1 m)) (called-wanted m) k) h)) (cases_Bool (within u (page_key q c)))

    pub stations-done : (s : stated.Station) → s ∈ answer q b → within v (station_key q s) ≡ true → within u (station_key q s) ≡ true
    stations-done s m h = ⊎_elim (λ k. k) (λ k.
        let g = standing q laws b lawful s m in
        absurd (ahead (at g.0 (Station s)) (waits_in u g.0 (Station s) (in_stations (slot b g.0) g.1) (reached (station_key q s) h g.0 g.2) (answer-wanted m) k) h)) (cases_Bool (within u (station_key q s)))

  pub listed_same : (u v : Bound) → ((s : stated.Station) → s ∈ answer q b → within u (station_key q s) ≡ within v (station_key q s)) → listed q b u ≡ listed q b v
  listed_same u v f = kept_same _ _ (answer q b) f

  pub opened_same : (u v : Bound) → ((c : Child) → c ∈ called_for q b → within u (page_key q c) ≡ within v (page_key q c)) → opened q b u ≡ opened q b v
  opened_same u v f = ap (λ cs. 0 ∷ map (λ c. c.page) cs) (kept_same _ _ (called_for q b) f)

  pub apart : Pairwise (Differ q) (places 0 b)
  apart = differ q 0 b (shape b lawful).numbers (shape b lawful).pages

  pub one_place : (x y : Place) → x ∈ places 0 b → y ∈ places 0 b → key_of q x.entry ≡ key_of q y.entry → x ≡ y
  one_place x y m n e = ⊎_elim (λ h. h) (λ h. absurd (⊎_elim (λ f. f e) (λ f. f (sym e)) h)) (pick (Differ q) apart m n)

  pub one-child : (c d : Child) → c ∈ named b → d ∈ named b → c.page ≡ d.page → c ≡ d
  one-child c d m n e = ⊎_elim (λ h. h) (λ h. absurd (⊎_elim (λ f. f e) (λ f. f (sym e)) h)) (pick (λ c d. c.page ≡ d.page → ⊥) (shape b lawful).pages m n)

  second-test : (e : Entry) → few q (listed q b (below (key_of q e))) (measures_of q e) ≡ few q (field q b) (measures_of q e)
  second-test (Station s) = listed_tests q laws b s.at kind.Station s.number
  second-test (Page c) = listed_tests q laws b (q.corner c.bounds) kind.Page c.page

  abbrev pub saw : Bound → Place → Child → Bool
  saw u x c = eqb c.page x.page && (within u (page_key q c) && passes q (listed q b (below (page_key q c))) x.entry)

  pub saw-parts : (u : Bound) (x : Place) (c : Child) → saw u x c ≡ true → (c.page ≡ x.page) × (within u (page_key q c) ≡ true) × (passes q (listed q b (below (page_key q c))) x.entry ≡ true)
  saw-parts u x c h =
      let k = and_parts (eqb c.page x.page) (within u (page_key q c) && passes q (listed q b (below (page_key q c))) x.entry) h in
      let l = and_parts (within u (page_key q c)) (passes q (listed q b (below (page_key q c))) x.entry) k.1 in
      (eqb-true _ _ k.0, l.0, l.1)

  -- the top, or a page called for
  pub passed-parts : (u : Bound) (x : Place) → passed q b u x ≡ true → ((x.page ≡ 0) × (passes q [] x.entry ≡ true)) ⊎ ((c : Child) × (c ∈ called_for q b) × (c.page ≡ x.page) × (within u (page_key q c) ≡ true) × (passes q (listed q b (below (page_key q c))) x.entry ≡ true))
  passed-parts u x h = ⊎_elim top-case some-case (or_cases (eqb x.page 0 && passes q [] x.entry) (some (saw u x) (called_for q b)) h)
    where
      top-case : (eqb x.page 0 && passes q [] x.entry) ≡ true → ((x.page ≡ 0) × (passes q [] x.entry ≡ true)) ⊎ ((c : Child) × (c ∈ called_for q b) × (c.page ≡ x.page) × (within u (page_key q c) ≡ true) × (passes q (listed q b (below (page_key q c))) x.entry ≡ true))
      top-case k = let l = and_parts (eqb x.page 0) (passes q [] x.entry) k in inl (eqb-true _ _ l.0, l.1)

      some-case : some (saw u x) (called_for q b) ≡ true → ((x.page ≡ 0) × (passes q [] x.entry ≡ true)) ⊎ ((c : Child) × (c ∈ called_for q b) × (c.page ≡ x.page) × (within u (page_key q c) ≡ true) × (passes q (listed q b (below (page_key q c))) x.entry ≡ true))
      some-case k = let r = of_some (saw u x) (called_for q b) k in let l = saw-parts u x r.0 r.2 in inr (r.0, r.1, l.0, l.1, l.2)

  pub passes_in : (ss : List stated.Station) (e : Entry) → passes q ss e ≡ true → counts q e ≡ true
  passes_in ss e h = (and_parts (counts q e) (few q ss (measures_of q e)) h).0

  in_region : (u : Bound) (x : Place) → passed q b u x ≡ true → counts q x.entry ≡ true
  in_region u x h = ⊎_elim (λ k. passes_in [] x.entry k.1) (λ k. passes_in (listed q b (below (page_key q k.0))) x.entry k.4) (passed-parts u x h)

  -- pages that agree on the page of x agree on x
  pub passed-same : (u v : Bound) (x : Place) → ((c : Child) → c ∈ called_for q b → c.page ≡ x.page → within u (page_key q c) ≡ within v (page_key q c)) → passed q b u x ≡ passed q b v x
  passed-same u v x f = ap (λ n. (eqb x.page 0 && passes q [] x.entry) || ltb 0 n) (count_same _ _ (called_for q b) (λ c m. ⊎_elim (λ h. ap (λ t. eqb c.page x.page && (t && passes q (listed q b (below (page_key q c))) x.entry)) (f c m (eqb-true _ _ h))) (λ h. and_left _ _ h ∙ sym (and_left _ _ h)) (cases_Bool (eqb c.page x.page))))

  -- how often the test holds of what waits
  pub count-waiting : {A : Type 0} (f : Entry → A) (t : A → Bool) (u : Bound) → count t (map f (waiting q b u)) ≡ count (λ x. waits q b u x && t (f x.entry)) (places 0 b)
  count-waiting f t u = count_map t f (waiting q b u) ∙ count_map (λ e. t (f e)) (λ x. x.entry) (W u) ∙ count_kept (λ x. t (f x.entry)) (waits q b u) (places 0 b)

  -- a turn: x is the first of those that wait
  module _ (u : Bound) (x : Place) (member : x ∈ W u) (first : (y : Place) → y ∈ W u → before (key_of q y.entry) (key_of q x.entry) ≡ false) where
    abbrev pub κ : Key
    κ = key_of q x.entry

    pub on : x ∈ places 0 b
    on = (of-kept (waits q b u) (places 0 b) member).0

    pub was : (passed q b u x ≡ true) × (not (within u κ) ≡ true)
    was = and_parts _ _ (of-kept (waits q b u) (places 0 b) member).1

    pub outside : within u κ ≡ false
    outside = not-true _ was.1

    abbrev pub none_below : (y : Place) → y ∈ W u → within (below κ) (key_of q y.entry) ≡ true → ⊥
    none_below y m h = both_ways _ (first y m) h

    pub under : (k : Key) → within u k ≡ true → before k κ ≡ true
    under k h = ⊎_elim (λ e. e) (λ e. absurd (⊎_elim (λ f. both_ways _ outside (within-before u κ k f h)) (λ f. both_ways _ outside (subst (λ j. within u j ≡ true) (before-total k κ e f) h)) (cases_Bool (before κ k)))) (cases_Bool (before k κ))

    pub up_to_lem : (k : Key) → before k κ ≡ true → within (up_to κ) k ≡ true
    up_to_lem k h = not_from_false _ (false-from _ (λ f. both_ways _ (before_same κ) (before_trans κ k κ f h)))

    pub near : (k : Key) → within (up_to κ) k ≡ true → (before k κ ≡ true) ⊎ (k ≡ κ)
    near k h = ⊎_elim inl (λ e. inr (before-total k κ e (not-true _ h))) (cases_Bool (before k κ))

    pub pages-below : (c : Child) → c ∈ called_for q b → within u (page_key q c) ≡ within (below κ) (page_key q c)
    pages-below c m = same_bool _ _ (under (page_key q c)) (pages-done u (below κ) none_below c m)

    pub stations-below : (s : stated.Station) → s ∈ answer q b → within u (station_key q s) ≡ within (below κ) (station_key q s)
    stations-below s m = same_bool _ _ (under (station_key q s)) (stations-done u (below κ) none_below s m)

    pub listed_below : listed q b u ≡ listed q b (below κ)
    listed_below = listed_same u (below κ) stations-below

    pub pages_up : (c : Child) → c ∈ called_for q b → (page_key q c ≡ κ → ⊥) → within u (page_key q c) ≡ within (up_to κ) (page_key q c)
    pages_up c m ne = same_bool _ _ (λ h. up_to_lem (page_key q c) (under (page_key q c) h)) (λ h. ⊎_elim (pages-done u (below κ) none_below c m) (λ e. absurd (ne e)) (near (page_key q c) h))

    pub stations_up : (s : stated.Station) → s ∈ answer q b → (station_key q s ≡ κ → ⊥) → within u (station_key q s) ≡ within (up_to κ) (station_key q s)
    stations_up s m ne = same_bool _ _ (λ h. up_to_lem (station_key q s) (under (station_key q s) h)) (λ h. ⊎_elim (stations-done u (below κ) none_below s m) (λ e. absurd (ne e)) (near (station_key q s) h))

    -- the second test is the definition
    pub test : passes q (listed q b u) x.entry ≡ few q (field q b) (measures_of q x.entry)
    test = ap (λ ss. passes q ss x.entry) listed_below ∙ ap (λ t. t && few q (listed q b (below κ)) (measures_of q x.entry)) (in_region u x was.0) ∙ second-test x.entry

    pub wanted : passes q (listed q b u) x.entry ≡ true → Wanted x.entry
    wanted h = (in_region u x was.0, sym test ∙ h)

    pub unwanted : passes q (listed q b u) x.entry ≡ false → Wanted x.entry → ⊥
    unwanted h w = both_ways _ (sym test ∙ h) w.1

    child-there : {c : Child} → c ∈ called_for q b → (p : ℕ) × (at p (Page c) ∈ places 0 b)
    child-there m = let g = of_joined children_on b (of-kept (calls q (field q b)) (named b) m).0 in (g.0, stood g.0 (in_children (slot b g.0) g.1))

    station-there : {s : stated.Station} → s ∈ answer q b → (p : ℕ) × (at p (Station s) ∈ places 0 b)
    station-there m = let g = standing q laws b lawful _ m in (g.0, stood g.0 (in_stations (slot b g.0) g.1))

    pub is_child : (c : Child) → c ∈ called_for q b → page_key q c ≡ κ → Page c ≡ x.entry
    is_child c m e = let g = child-there m in ap (λ y. y.entry) (one_place (at g.0 (Page c)) x g.1 on e)

    pub is_station : (s : stated.Station) → s ∈ answer q b → station_key q s ≡ κ → Station s ≡ x.entry
    is_station s m e = let g = station-there m in ap (λ y. y.entry) (one_place (at g.0 (Station s)) x g.1 on e)

    pub out_of_up : within (up_to κ) κ ≡ true
    out_of_up = not_from_false _ (before_same κ)

    -- what waits is the same but for x, where its page's standing is the same
    pub waits_up : (y : Place) → y ∈ places 0 b → (key_of q y.entry ≡ κ → ⊥) → passed q b u y ≡ passed q b (up_to κ) y → waits q b u y ≡ waits q b (up_to κ) y
    waits_up y m ne e = ⊎_elim yes_passed (λ h. and_left _ _ h ∙ sym (and_left _ _ (sym e ∙ h))) (cases_Bool (passed q b u y))
      where
        yes_passed : passed q b u y ≡ true → waits q b u y ≡ waits q b (up_to κ) y
        yes_passed h = same_bool _ _ (λ w. and_from _ _ (sym e ∙ h) (not_from_false _ (false-from _ (λ k. ⊎_elim (λ l. both_ways _ (first y (in_kept (waits q b u) m w)) l) (λ l. ne l) (near (key_of q y.entry) k))))) (λ w. and_from _ _ h (not_from_false _ (false-from _ (λ k. both_ways (within (up_to κ) (key_of q y.entry)) (not-true (within (up_to κ) (key_of q y.entry)) (and_parts (passed q b (up_to κ) y) (not (within (up_to κ) (key_of q y.entry))) w).1) (up_to_lem (key_of q y.entry) (under (key_of q y.entry) k))))))

    -- x leaves, and nothing comes
    pub leaves : ((c : Child) → c ∈ called_for q b → page_key q c ≡ κ → ⊥) → (t : Place → Bool) → count (λ y. waits q b u y && t y) (places 0 b) ≡ bit (t x) + count (λ y. waits q b (up_to κ) y && t y) (places 0 b)
    leaves f t =
        count-one-less (Differ q) (waits q b u) (waits q b (up_to κ)) t apart on (of-kept (waits q b u) (places 0 b) member).1 (and_right _ _ (not_from_true _ out_of_up)) (λ y m d.
        waits_up y m (λ e. ⊎_elim (λ g. g (sym e)) (λ g. g e) d) (passed-same u (up_to κ) y (λ c n _. pages_up c n (f c n))))
