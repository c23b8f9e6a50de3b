-- Why the search is right, up to any bound on keys.
use Rattle.std.proofs.Common.{◌≡◌, ℕ, zero, suc, ◌<◌, ◌≤◌, Bool, true, false, ltb, ◌⊎◌, List, sym, refl, ap, subst, inl, inr, ⊎_elim, arith}
use Rattle.std.proofs.lemmas.Bool.Decides.{nat_tests}
use Rattle.std.specs.List.{AllByRecursion as Each}
use Rattle.std.proofs.lemmas.Bool.{cases_Bool, both_ways, ltb-true, ltb-false, lt-ltb, and_parts, and_from}
use Rattle.std.proofs.ByRecursion.{All-map}
use Rattle.stations.specs.declared.measures.Measures.{Measures}
use Rattle.stations.specs.declared.station.Station as stated
use Rattle.stations.specs.declared.key.Key.{Key}
use Rattle.stations.specs.declared.key.Kind.{Kind}
use Rattle.stations.specs.declared.key.Kind.TheVariants.{Page, Station}
use Rattle.stations.specs.Beating.{◌≼◌}
use Rattle.stations.specs.Keys.{before}
use Rattle.stations.specs.Counting.{count}
use Rattle.books.specs.declared.Child.{Child}
use Rattle.books.specs.Lists.{Pairwise, ◌∈◌, here, there}
use Rattle.books.specs.Books.{Book, slot, stations_on, children_on, stations, named, Inside, Nested}
use Rattle.promises.specs.Bounds.{Bound, below, within}
use Rattle.promises.specs.Queries.{Query, Laws, key_at, station_key, page_key, field, overs, few, chosen, sorted, answer}
use Rattle.promises.specs.Opening.{calls, called_for, opened, up_to_bound}
use Rattle.promises.specs.Foundations.{Agree, Counting, Listed, Upward, Standing, Onward, SameAnswers}
use Rattle.promises.proofs.Lists.{all-at, all_from, in_map, in_kept, of-kept, pairwise_kept, pairwise_weaker, count_le, count_less, Lost, kept_or_lost, count_kept_le, count_into, count-sort, in_sort, of-sort, rising-sort, rising-same}
use Rattle.promises.proofs.Keys.{before_trans, before_same, before_either, within-before}
use Rattle.promises.proofs.Books.{of_joined, in_joined, Shape, shape}

abbrev pub Numbered : List stated.Station → Type 0
Numbered = Pairwise (λ s t. s.number ≡ t.number → ⊥)

pub distinct : (xs : List stated.Station) → Numbered xs → Pairwise (λ s t. s ≡ t → ⊥) xs
distinct xs = pairwise_weaker _ _ (λ s t n e. n (ap (λ r. r.number) e)) xs

module _ (q : Query) (laws : Laws q) where
  few-down : (xs : List stated.Station) (a b : Measures) → a ≼ b → few q xs b ≡ true → few q xs a ≡ true
  few-down xs a b h f =
      lt-ltb _ _ (omega (arith, ltb-true _ _ f, count_le (overs q a) (overs q b) xs (λ s k. laws.over_down s.at a b k h)))

  over_self : (a : Measures) → q.over a a ≡ false
  over_self a =
      ⊎_elim (λ h. absurd (both_ways _ (before_same (key_at q a Page 0)) (laws.over_key a a h Page 0 Page 0))) (λ h. h) (cases_Bool (q.over a a))

  -- as many as k over a point, so as many of the chosen
  counting : (xs : List stated.Station) (n : ℕ) (c : Measures) → count (overs q c) xs < n → q.k ≤ count (overs q c) xs → q.k ≤ count (overs q c) (chosen q xs)
  counting xs zero c h e = omega arith
  counting xs (suc n) c h e = go (λ d l k. counting xs n d l k) (kept_or_lost (overs q c) (λ s. few q xs s.at) xs)
    where
      go : ((d : Measures) → count (overs q d) xs < n → q.k ≤ count (overs q d) xs → q.k ≤ count (overs q d) (chosen q xs)) → (count (overs q c) xs ≤ count (overs q c) (chosen q xs)) ⊎ Lost (overs q c) (λ s. few q xs s.at) xs → q.k ≤ count (overs q c) (chosen q xs)
      go f (inl l) = omega arith
      go f (inr l) =
          let y = l.0.at in
          let up : (s : stated.Station) → overs q y s ≡ true → overs q c s ≡ true = λ s k. laws.over_trans s.at y c k l.2 in
          let less = count_less (overs q y) (overs q c) up l.1 (over_self y) l.2 in
          let more = f y (omega arith) (ltb-false _ _ l.3) in
          omega (arith, count_le (overs q y) (overs q c) (chosen q xs) up)

  pub l1 : (xs : List stated.Station) (c : Measures) → q.k ≤ count (overs q c) xs → q.k ≤ count (overs q c) (chosen q xs)
  l1 xs c h = counting xs (suc (count (overs q c) xs)) c (omega arith) h

  abbrev Reaches : Bound → List stated.Station → List stated.Station → Type 0
  Reaches u xs ys = (s : stated.Station) → s ∈ chosen q xs → within u (station_key q s) ≡ true → s ∈ ys

  carry : (u : Bound) (xs ys : List stated.Station) → Numbered xs → Reaches u xs ys → (c : Measures) → ((s : stated.Station) → overs q c s ≡ true → within u (station_key q s) ≡ true) → few q ys c ≡ true → few q xs c ≡ true
  carry u xs ys apart f c near h = ⊎_elim (λ e. e) (λ e. absurd (no e)) (cases_Bool (few q xs c))
    where
      no : few q xs c ≡ false → ⊥
      no e =
          omega (arith, ltb-true _ _ h, l1 xs c (ltb-false _ _ e), count_into (overs q c) (chosen q xs) ys (distinct (chosen q xs) (pairwise_kept _ _ xs apart)) (λ s m k. f s m (near s k)))

  pub in_opened : (b : Book) (u : Bound) {c : Child} → c ∈ called_for q b → within u (page_key q c) ≡ true → c.page ∈ opened q b u
  in_opened b u m w = there (in_map (λ c. c.page) (in_kept (λ c. within u (page_key q c)) m w))

  -- what holds of the top and of each page called for within the bound holds of each page opened
  pub opened-all : (b : Book) (u : Bound) (P : ℕ → Type 0) → P 0 → ((c : Child) → c ∈ called_for q b → within u (page_key q c) ≡ true → P c.page) → Each P (opened q b u)
  opened-all b u P z f = (z, All-map P (λ c. c.page) _ (all_from _ _ (λ c m. let k = of-kept (λ c. within u (page_key q c)) (called_for q b) m in f c k.0 k.1)))

  pub opened-wider : (b : Book) (u v : Bound) → ((k : Key) → within u k ≡ true → within v k ≡ true) → {p : ℕ} → p ∈ opened q b u → p ∈ opened q b v
  opened-wider b u v f m = all-at (λ p. p ∈ opened q b v) (opened-all b u (λ p. p ∈ opened q b v) (here refl) (λ c n w. in_opened b v n (f (page_key q c) w))) m

  opened-by : (b : Book) (u : Bound) (k : Key) → within u k ≡ true → {p : ℕ} → p ∈ opened q b (below k) → p ∈ opened q b u
  opened-by b u k w m = opened-wider b (below k) u (λ j l. within-before u j k l w) m

  -- the page that names a page called for is opened before it
  pub l3 : (b : Book) → Shape b → (p : ℕ) (d : Child) → d ∈ children_on (slot b p) → calls q (field q b) d ≡ true → p ∈ opened q b (below (page_key q d))
  l3 b h p d m t = ⊎_elim here go (h.child_in p d m)
    where
      go : (c : Child) × (c ∈ named b) × (c.page ≡ p) × Nested d.bounds c.bounds → p ∈ opened q b (below (page_key q d))
      go r =
          let c = r.0 in
          let a = and_parts _ _ t in
          let k = laws.corner_nested d.bounds c.bounds r.3 a.0 in
          let f = few-down (field q b) (q.corner c.bounds) (q.corner d.bounds) k.1 a.1 in
          let less : c.page < d.page = rw r.2 (h.child-after p d m) in
          rw r.2 at (in_opened b (below (page_key q d)) (in_kept (calls q (field q b)) r.1 (and_from _ _ k.0 f)) (laws.page_down (q.corner c.bounds) (q.corner d.bounds) k.1 c.page d.page less))

  -- the page of a chosen station is opened before it
  pub l4 : (b : Book) → Shape b → (p : ℕ) (s : stated.Station) → s ∈ stations_on (slot b p) → q.in_play s.at ≡ true → few q (field q b) s.at ≡ true → p ∈ opened q b (below (station_key q s))
  l4 b h p s m i f = ⊎_elim here go (h.station_in p s m)
    where
      go : (c : Child) × (c ∈ named b) × (c.page ≡ p) × Inside s.at c.bounds → p ∈ opened q b (below (station_key q s))
      go r =
          let c = r.0 in
          let k = laws.corner_below s.at c.bounds r.3 i in
          rw r.2 at (in_opened b (below (station_key q s)) (in_kept (calls q (field q b)) r.1 (and_from _ _ k.0 (few-down (field q b) (q.corner c.bounds) s.at k.1 f))) (laws.page_first (q.corner c.bounds) s.at k.1 c.page s.number))

  -- induction along the opened pages, from the top down
  module _ (b : Book) (h : Shape b) (u : Bound) (P : ℕ → Type 0) (top : P 0) (step : (p : ℕ) (d : Child) → P p → d ∈ children_on (slot b p) → calls q (field q b) d ≡ true → within u (page_key q d) ≡ true → P d.page) where
    down : (n : ℕ) (d : Child) → d ∈ called_for q b → within u (page_key q d) ≡ true → d.page < n → P d.page
    down zero d m w l = absurd (omega arith)
    down (suc n) d m w l =
        let t = of-kept (calls q (field q b)) (named b) m in
        let o = of_joined children_on b t.0 in
        let less : o.0 < n = omega (arith, h.child-after o.0 d o.1) in
        let above = opened-all b (below (page_key q d)) (λ r. r < n → P r) (λ _. top) (λ c m' w' l'. down n c m' (within-before u (page_key q c) (page_key q d) w' w) l') in
        step o.0 d (all-at (λ r. r < n → P r) above (l3 b h o.0 d o.1 t.1) less) o.1 t.1 w

    pub opened_ind : Each P (opened q b u)
    opened_ind = opened-all b u P top (λ c m w. down (suc c.page) c m w (omega arith))

  -- a chosen station stands on a page
  pub placed : (b : Book) → Shape b → (s : stated.Station) → s ∈ chosen q (field q b) → (p : ℕ) × (s ∈ stations_on (slot b p)) × (q.in_play s.at ≡ true) × (p ∈ opened q b (below (station_key q s)))
  placed b h s m =
      let f = of-kept (λ s. few q (field q b) s.at) (field q b) m in
      let i = of-kept (λ s. q.in_play s.at) (stations b) f.0 in
      let o = of_joined stations_on b i.0 in
      (o.0, o.1, i.1, l4 b h o.0 s o.1 i.1 f.1)

  lands : (b b' : Book) (p : ℕ) (s : stated.Station) → slot b p ≡ slot b' p → s ∈ stations_on (slot b p) → q.in_play s.at ≡ true → s ∈ field q b'
  lands b b' p s e m i = in_kept (λ s. q.in_play s.at) (in_joined stations_on refl b' p (subst (λ x. s ∈ stations_on x) e m)) i

  over-within : (u : Bound) (c : Measures) (i : Kind) (n : ℕ) → within u (key_at q c i n) ≡ true → (s : stated.Station) → overs q c s ≡ true → within u (station_key q s) ≡ true
  over-within u c i n w s o = within-before u (station_key q s) (key_at q c i n) (laws.over_key s.at c o Station s.number i n) w

  pub numbered : (b : Book) → Shape b → Numbered (field q b)
  numbered b h = pairwise_kept _ _ (stations b) h.numbers

  module _ (u : Bound) (b b' : Book) (h : Shape b) (h' : Shape b') (agree : Agree (opened q b u) b b') where
    same-slot : (p : ℕ) → p ∈ opened q b u → slot b p ≡ slot b' p
    same-slot p m = all-at (λ p. slot b p ≡ slot b' p) agree m

    there_too : Reaches u (field q b) (field q b')
    there_too s m w =
        let o = placed b h s m in
        lands b b' o.0 s (same-slot o.0 (opened-by b u (station_key q s) w o.3)) o.1 o.2

    -- what is opened in the other book is opened in this one
    reach : Each (λ p. p ∈ opened q b u) (opened q b' u)
    reach = opened_ind b' h' u (λ p. p ∈ opened q b u) (here refl) (λ p d i m t w.
        let on : d ∈ named b = in_joined children_on refl b p (subst (λ x. d ∈ children_on x) (sym (same-slot p i)) m) in
        let a = and_parts _ _ t in
        let f = carry u (field q b) (field q b') (numbered b h) there_too (q.corner d.bounds) (over-within u (q.corner d.bounds) Page d.page w) a.1 in
        in_opened b u (in_kept (calls q (field q b)) on (and_from _ _ a.0 f)) w)

    here_too : Reaches u (field q b') (field q b)
    here_too s m w =
        let o = placed b' h' s m in
        lands b' b o.0 s (sym (same-slot o.0 (all-at (λ p. p ∈ opened q b u) reach (opened-by b' u (station_key q s) w o.3)))) o.1 o.2

  -- lists of stations that reach each other have the same stations in their answers, as far as the bound
  meet : (u : Bound) (xs ys : List stated.Station) → Numbered ys → Reaches u xs ys → Reaches u ys xs → (s : stated.Station) → s ∈ up_to_bound q u (sorted q (chosen q xs)) → s ∈ up_to_bound q u (sorted q (chosen q ys))
  meet u xs ys apart f g s m =
      let w = of-kept _ (sorted q (chosen q xs)) m in
      let c = of-sort _ (chosen q xs) w.0 in
      let k = of-kept (λ s. few q xs s.at) xs c in
      in_kept _ (in_sort _ (in_kept (λ s. few q ys s.at) (f s c w.1) (carry u ys xs apart g s.at (over-within u s.at Station s.number w.1) k.1))) w.1

  pub rising-sorted : (xs : List stated.Station) → Numbered xs → Pairwise (λ s t. before (station_key q s) (station_key q t) ≡ true) (sorted q (chosen q xs))
  rising-sorted xs apart =
      rising-sort _ (λ r s t. before_trans (station_key q r) (station_key q s) (station_key q t)) (chosen q xs) (pairwise_weaker _ _ (λ s t. before_either (station_key q s) (station_key q t)) (chosen q xs) (pairwise_kept _ _ xs apart))

  pub rising : (u : Bound) (xs : List stated.Station) → Numbered xs → Pairwise (λ s t. before (station_key q s) (station_key q t) ≡ true) (up_to_bound q u (sorted q (chosen q xs)))
  rising u xs apart = pairwise_kept _ _ (sorted q (chosen q xs)) (rising-sorted xs apart)

pub same_answers : SameAnswers
same_answers q laws u b b' lawful lawful' agree =
    let h = shape b lawful in
    let h' = shape b' lawful' in
    let n = numbered q laws b h in
    let n' = numbered q laws b' h' in
    let f = there_too q laws u b b' h h' agree in
    let g = here_too q laws u b b' h h' agree in
    rising-same _ (λ r s t. before_trans (station_key q r) (station_key q s) (station_key q t)) (λ s. before_same (station_key q s)) _ _ (rising q laws u (field q b) n) (rising q laws u (field q b') n') (meet q laws u (field q b) (field q b') n' f g) (meet q laws u (field q b') (field q b) n g f)

pub counting-stands : Counting
counting-stands q laws b c h = rw (count-sort _ (overs q c) (chosen q (field q b))) (l1 q laws (field q b) c h)

same_test : (m n k : ℕ) → m ≤ n → (k ≤ n → k ≤ m) → ltb m k ≡ ltb n k
same_test m n k h f = grind (arith, nat_tests)

pub listed_tests : Listed
listed_tests q laws b c i n =
    same_test _ _ _ (omega (arith, count_kept_le p w (answer q b), s, count_kept_le p (λ s. few q (field q b) s.at) (field q b))) (λ h. ⊎_elim (λ l. omega (arith, l, counting-stands q laws b c h)) (λ l. absurd (both_ways _ l.3 (laws.over_key l.0.at c l.2 Station l.0.number i n))) (kept_or_lost p w (answer q b)))
  where
    p : stated.Station → Bool
    p = overs q c

    w : stated.Station → Bool
    w s = within (below (key_at q c i n)) (station_key q s)

    s : count p (answer q b) ≡ count p (chosen q (field q b))
    s = count-sort _ p (chosen q (field q b))

pub upward : Upward
upward q laws b lawful p d m c = l3 q laws b (shape b lawful) p d m (of-kept (calls q (field q b)) (named b) c).1

pub standing : Standing
standing q laws b lawful s m =
    let o = placed q laws b (shape b lawful) s (of-sort _ (chosen q (field q b)) m) in
    (o.0, o.1, o.3)

pub onward : Onward
onward q laws b lawful u v = opened_ind q laws b (shape b lawful) v P (inl (here refl)) step
  where
    P : ℕ → Type 0
    P p = (p ∈ opened q b u) ⊎ ((n : ℕ) × (e : Child) × (n ∈ opened q b u) × (e ∈ children_on (slot b n)) × (e ∈ called_for q b) × (within u (page_key q e) ≡ false) × (within v (page_key q e) ≡ true))

    step : (p : ℕ) (d : Child) → P p → d ∈ children_on (slot b p) → calls q (field q b) d ≡ true → within v (page_key q d) ≡ true → P d.page
    step p d (inr r) m t w = inr r
    step p d (inl i) m t w =
        let c = in_kept (calls q (field q b)) (in_joined children_on refl b p m) t in
        ⊎_elim (λ k. inl (in_opened q laws b u c k)) (λ k. inr (p, d, i, m, c, k, w)) (cases_Bool (within u (page_key q d)))
