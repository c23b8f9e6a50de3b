-- Every settling set holds every page that is called for.
use Rattle.std.proofs.Common.{◌≡◌, ℕ, zero, suc, ◌<◌, ◌≤◌, Bool, true, ◌⊎◌, List, length, filter, refl, subst, inl, inr, ⊎_elim, arith}
use Rattle.std.specs.List.{AllByRecursion as Each}
use Rattle.std.proofs.ByRecursion.{All-map}
use Rattle.std.proofs.lemmas.Bool.{ltb-true, lt-ltb, and_parts, and_from}
use Rattle.stations.specs.declared.station.Station as stated
use Rattle.stations.specs.declared.key.Kind.TheVariants.{Page, Station}
use Rattle.stations.specs.Keys.{before}
use Rattle.stations.specs.Counting.{count}
use Rattle.books.specs.declared.Child.{Child}
use Rattle.books.specs.Lists.{Pairwise, ◌∈◌}
use Rattle.books.specs.Books.{Book, slot, stations_on, children_on, stations, named, Lawful}
use Rattle.promises.specs.Bounds.{Bound, all, within}
use Rattle.promises.specs.Queries.{Query, Laws, station_key, page_key, field, overs, few, chosen, answer}
use Rattle.promises.specs.Opening.{calls, called_for, opened}
use Rattle.promises.specs.Settling.{Settles}
use Rattle.promises.specs.Filling.{StandsOn, LiesBelow, Fills}
use Rattle.promises.proofs.Lists.{all-at, all_from, in_kept, of-kept, pairwise_kept, pairwise_mapped, count_le, count_less, count_into, count-all, in_sort, of-sort}
use Rattle.promises.proofs.Keys.{before_trans, before_same}
use Rattle.promises.proofs.Books.{of_joined, in_joined, shape}
use Rattle.promises.proofs.Theory.{distinct, numbered, opened_ind, opened-wider}
use Rattle.promises.proofs.Cutting.{holds_or_not}
use Rattle.promises.proofs.Filling.{fillable}

module _ (q : Query) (laws : Laws q) (b : Book) (lawful : Lawful b) (ps : List ℕ) (settles : Settles q b ps) where
  -- a page called for, named on the set and not in it
  abbrev Edge : Child → Type 0
  Edge g = (p : ℕ) × (p ∈ ps) × (g ∈ children_on (slot b p)) × (calls q (field q b) g ≡ true) × (g.page ∈ ps → ⊥)

  abbrev earlier : Child → Child → Bool
  earlier g h = before (page_key q h) (page_key q g)

  on_edge : {g : Child} → Edge g → g ∈ called_for q b
  on_edge e = in_kept (calls q (field q b)) (in_joined children_on refl b e.0 e.2) e.3

  module _ (g : Child) (e : Edge g) (first : (h : Child) → Edge h → before (page_key q h) (page_key q g) ≡ true → ⊥) where
    -- in a filled book, what is in play and stands over the corner of the first edge stands in b
    old : (b' : Book) → Fills b ps b' → (s : stated.Station) → s ∈ field q b' → overs q (q.corner g.bounds) s ≡ true → s ∈ field q b
    old b' f s m o = go (f.origin s i.0)
      where
        i : (s ∈ stations b') × (q.in_play s.at ≡ true)
        i = of-kept (λ s. q.in_play s.at) (stations b') m

        go : StandsOn b ps s ⊎ LiesBelow b ps s → s ∈ field q b
        go (inl r) = in_kept (λ s. q.in_play s.at) (in_joined stations_on refl b r.0 r.2) i.1
        go (inr r) =
            let h = r.1 in
            let c = q.corner g.bounds in
            let a = q.corner h.bounds in
            let k = laws.corner_below s.at h.bounds r.5 i.1 in
            let less = count_le (overs q a) (overs q c) (field q b) (λ y w. laws.over_trans y.at s.at c (laws.over_down y.at a s.at w k.1) o) in
            let under : few q (field q b) c ≡ true = (and_parts (q.cornered g.bounds) _ e.3).1 in
            let f : few q (field q b) a ≡ true = lt-ltb _ _ (omega (arith, ltb-true _ _ under)) in
            absurd (first h (r.0, r.2, r.3, and_from _ _ k.0 f, r.4) (before_trans (page_key q h) (station_key q s) (page_key q g) (laws.page_first a s.at k.1 h.page s.number) (laws.over_key s.at c o Station s.number Page g.page)))

    no-first : ⊥
    no-first =
        let c = q.corner g.bounds in
        let a = and_parts _ _ e.3 in
        let k = laws.corner_inside g.bounds a.0 in
        let f = fillable b lawful ps settles.rooted e.0 g e.1 e.2 e.4 c k.0 in
        let b₁ = f.0 in
        let b₂ = f.1 in
        let t = f.2 in
        let less = count_into (overs q c) (field q b₁) (field q b) (distinct (field q b₁) (numbered q laws b₁ (shape b₁ f.3.keeps.lawful))) (old b₁ f.3) in
        let new : few q (field q b₁) c ≡ true = lt-ltb _ _ (omega (arith, ltb-true _ _ a.1)) in
        let m : t ∈ field q b₁ = in_kept (λ s. q.in_play s.at) f.5 (rw f.6 k.1) in
        let n : t ∈ answer q b₁ = in_sort _ (in_kept (λ s. few q (field q b₁) s.at) m (rw f.6 new)) in
        let same = settles.same b₁ b₂ f.3.keeps f.4.keeps in
        let n₂ = of-sort _ (chosen q (field q b₂)) (subst (λ xs. t ∈ xs) same n) in
        f.7 (of-kept (λ s. q.in_play s.at) (stations b₂) (of-kept (λ s. few q (field q b₂) s.at) (field q b₂) n₂).0).0

  no_edge : (n : ℕ) (g : Child) → count (earlier g) (called_for q b) < n → Edge g → ⊥
  no_edge zero g l e = omega arith
  no_edge (suc n) g l e = no-first g e (λ h d k. no_edge n h (fewer h d k) d)
    where
      fewer : (h : Child) → Edge h → before (page_key q h) (page_key q g) ≡ true → count (earlier h) (called_for q b) < n
      fewer h d k =
          let less = count_less (earlier h) (earlier g) (λ x j. before_trans (page_key q x) (page_key q h) (page_key q g) j k) (on_edge d) (before_same (page_key q h)) k in
          omega arith

  pub holds : Each (λ p. p ∈ ps) (opened q b all)
  holds = opened_ind q laws b (shape b lawful) all (λ p. p ∈ ps) settles.rooted.top (λ p d i m t _.
      ⊎_elim (λ k. k) (λ ne. absurd (no_edge (suc (count (earlier d) (called_for q b))) d (omega arith) (p, i, m, t, ne))) (holds_or_not d.page ps))

-- the pages opened as far as a bound stand there once
opened-once : (q : Query) (b : Book) → Lawful b → (u : Bound) → Pairwise (λ x y. x ≡ y → ⊥) (opened q b u)
opened-once q b lawful u = (
  All-map (λ y. 0 ≡ y → ⊥) (λ c. c.page) called (all_from _ called after),
  pairwise_mapped (λ x y. x ≡ y → ⊥) (λ c. c.page) called (pairwise_kept _ (λ c. within u (page_key q c)) (called_for q b) (pairwise_kept _ (calls q (field q b)) (named b) (shape b lawful).pages)),
)
  where
    called : List Child
    called = filter (λ c. within u (page_key q c)) (called_for q b)

    after : (c : Child) → c ∈ called → 0 ≡ c.page → ⊥
    after c m e =
        let o = of_joined children_on b (of-kept (calls q (field q b)) (named b) (of-kept (λ c. within u (page_key q c)) (called_for q b) m).0).0 in
        omega (arith, (shape b lawful).child-after o.0 c o.1)

-- and so they are no more than a settling set has
pub holds-many : (q : Query) → Laws q → (b : Book) → Lawful b → (ps : List ℕ) → Settles q b ps → (u : Bound) → Each (λ p. p ∈ ps) (opened q b u) × (length (opened q b u) ≤ length ps)
holds-many q laws b lawful ps s u = (all_from _ (opened q b u) inside, omega (arith, count_into (λ _. true) (opened q b u) ps (opened-once q b lawful u) (λ p m _. inside p m), count-all (opened q b u), count-all ps))
  where
    inside : (p : ℕ) → p ∈ opened q b u → p ∈ ps
    inside p m = all-at (λ p. p ∈ ps) (holds q laws b lawful ps s) (opened-wider q laws b u all (λ k _. refl) m)
