-- The pages that a set names and does not hold can be filled, in two ways that differ.
use Rattle.std.proofs.Common.{◌≡◌, ℕ, suc, ◌+◌, ◌<◌, ◌≤◌, cond, List, [], ◌∷◌, length, sym, refl, ap, ◌∙◌, subst, inl, inr, ⊎_elim, arith}
use Rattle.std.proofs.lemmas.Bool.{eq-eqb, cond-true, cond_both}
use Rattle.stations.specs.declared.measures.Measures.{Measures}
use Rattle.stations.specs.declared.station.Station.{Station}
use Rattle.books.specs.declared.Child.{Child}
use Rattle.books.specs.Lists.{◌∈◌, here, there}
use Rattle.books.specs.Books.{Book, slot, children_on, stations_on, named, stations, names, IsLive, Inside, Lawful}
use Rattle.promises.specs.Settling.{Rooted}
use Rattle.promises.specs.Filling.{LiesBelow, Fills, Fillable}
use Rattle.promises.proofs.Lists.{all-at, all_from, nothing_in, only}
use Rattle.promises.proofs.Books.{of_joined, in_joined}
use Rattle.promises.proofs.Cutting.{has, has_in, cut, of-keep, slot_in, slot_out, cut-lawful, of_cut, dead_out}
use Rattle.promises.proofs.Placing.{Home, home, homes_on, houses, at_home, home-ok}
use Rattle.promises.proofs.Completing.{gaps, of-gaps, in_gaps, fills, Completes, completion}

-- at least every number of the stations
abbrev total : List Station → ℕ
total [] = 0
total (s ∷ ss) = s.number + total ss

at_most_total : {s : Station} {ss : List Station} → s ∈ ss → s.number ≤ total ss
at_most_total (here e) = omega (arith, ap (λ x. x.number) e)
at_most_total (there m) = omega (arith, at_most_total m)

-- a station that fills a place is numbered from the base on
fills_mem : (pick : Home → Measures) (n : ℕ) (hs : List Home) {s : Station} → s ∈ fills pick n hs → (h : Home) × (h ∈ hs) × (s.at ≡ pick h) × (n ≤ s.number) × (s.number < n + length hs)
fills_mem pick n [] m = nothing_in m
fills_mem pick n (h ∷ hs) (here e) = (h, here refl, ap (λ x. x.at) e, omega (arith, ap (λ x. x.number) e), omega (arith, ap (λ x. x.number) e))
fills_mem pick n (h ∷ hs) (there m) = let r = fills_mem pick (suc n) hs m in (r.0, there r.1, r.2, omega arith, omega arith)

mem_fills : (pick : Home → Measures) (n : ℕ) (hs : List Home) {h : Home} → h ∈ hs → (t : Station) × (t ∈ fills pick n hs) × (t.at ≡ pick h)
mem_fills pick n [] m = nothing_in m
mem_fills pick n (x ∷ hs) (here e) = (record { number = n; at = pick x }, here refl, ap pick (sym e))
mem_fills pick n (x ∷ hs) (there m) = let r = mem_fills pick (suc n) hs m in (r.0, there r.1, r.2)

module _ (b : Book) (lawful : Lawful b) (ps : List ℕ) (rooted : Rooted b ps) (p : ℕ) (g : Child) (on : p ∈ ps) (named-on : g ∈ children_on (slot b p)) (off : g.page ∈ ps → ⊥) (c : Measures) (at : Inside c g.bounds) where
  abbrev small : Book
  small = cut ps b

  small-lawful : Lawful (cut ps b)
  small-lawful = cut-lawful b lawful ps rooted

  -- the measures asked for at g, and the box's low elsewhere
  abbrev pick : Home → Measures
  pick h = cond (houses g.page h) c h.child.bounds.low

  g_on_small : g ∈ children_on (slot (cut ps b) p)
  g_on_small = subst (λ s. g ∈ children_on s) (sym (slot_in b lawful ps rooted on)) named-on

  g_named : g ∈ named (cut ps b)
  g_named = in_joined children_on refl (cut ps b) p g_on_small

  picked : (h : Home) → h ∈ gaps (cut ps b) → Inside (pick h) h.child.bounds
  picked h m =
      let ok = home-ok (cut ps b) small-lawful h (of-gaps (cut ps b) h m).named in
      cond_both (houses g.page h) c h.child.bounds.low (λ x. Inside x h.child.bounds)
      (λ e. subst (λ (d : Child). Inside c d.bounds) (only (names g.page) (named (cut ps b)) (small-lawful.named_once g.page) g_named (eq-eqb _ _ refl) ok.named e) at)
      (λ e. record { above = omega arith; below = ok.ordered })

  base : ℕ
  base = suc (total (stations (cut ps b)))

  filled : (n : ℕ) → base ≤ n → (w : Book) × Completes (cut ps b) (fills pick n (gaps (cut ps b))) w
  unfolding base
  filled n l = completion (cut ps b) pick n small-lawful (all_from _ _ picked) (omega arith) (λ x m. omega (arith, at_most_total m))

  live_small : {r : ℕ} → r ∈ ps → IsLive (slot (cut ps b) r)
  live_small m = subst IsLive (sym (slot_in b lawful ps rooted m)) (all-at (λ p. IsLive (slot b p)) rooted.live m)

  fills_it : (n : ℕ) (w : Book) → Completes (cut ps b) (fills pick n (gaps (cut ps b))) w → Fills b ps w
  fills_it n w f = record {
    keeps = record {
      lawful = f.lawful;
      whole = record {
        top = subst IsLive (sym (f.keeps 0 (live_small rooted.top))) (live_small rooted.top);
        rest = all_from _ (named w) (λ d m. let r = of_joined children_on w m in let a = at_home (slot w r.0) r.1 in f.live (home a.0 d) (in_joined homes_on refl w r.0 a.2));
      };
      same = all_from _ ps (λ r m _. f.keeps r (live_small m) ∙ slot_in b lawful ps rooted m);
    };
    origin = λ s m. ⊎_elim
        (λ (k : s ∈ stations (cut ps b)). inl (let r = of-keep stations_on refl (has ps) b k in (r.0, has_in ps r.0 r.1, r.2)))
        (λ (k : s ∈ fills pick n (gaps (cut ps b))). inr (below s k))
        (f.from s m);
  }
    where
      below : (s : Station) → s ∈ fills pick n (gaps (cut ps b)) → LiesBelow b ps s
      below s k =
          let r = fills_mem pick n (gaps (cut ps b)) k in
          let h = r.0 in
          let o = of-gaps (cut ps b) h r.1 in
          let d = of_cut b lawful ps rooted (home-ok (cut ps b) small-lawful h o.named).named in
          (d.0, h.child, d.1, d.2, dead_out b lawful ps rooted h.child.page o.dead, subst (λ x. Inside x h.child.bounds) (sym r.2) (picked h r.1))

  two : (v : Book) × (w : Book) × (t : Station) × Fills b ps v × Fills b ps w × (t ∈ stations v) × (t.at ≡ c) × (t ∈ stations w → ⊥)
  unfolding base
  two =
      let a = at_home (slot (cut ps b) p) g_on_small in
      let gap = in_gaps (cut ps b) (home a.0 g) (in_joined homes_on refl (cut ps b) p a.2) (slot_out b lawful ps rooted off) in
      let v = filled base (omega arith) in
      let w = filled (base + length (gaps (cut ps b))) (omega arith) in
      let t = mem_fills pick base (gaps (cut ps b)) gap in
      let r = fills_mem pick base (gaps (cut ps b)) t.1 in
      let not-old : t.0 ∈ stations (cut ps b) → ⊥ = λ m. omega (arith, at_most_total m) in
      let not_new : t.0 ∈ fills pick (base + length (gaps (cut ps b))) (gaps (cut ps b)) → ⊥ = λ m. omega (arith, (fills_mem pick (base + length (gaps (cut ps b))) (gaps (cut ps b)) m).3) in
      (v.0, w.0, t.0, fills_it base v.0 v.1, fills_it (base + length (gaps (cut ps b))) w.0 w.1, v.1.put t.0 t.1, t.2 ∙ cond-true (houses g.page (home a.0 g)) c g.bounds.low (eq-eqb g.page g.page refl), λ m. ⊎_elim not-old not_new (w.1.from t.0 m))

pub fillable : Fillable
fillable b lawful ps rooted p g on named-on off c at = two b lawful ps rooted p g on named-on off c at
