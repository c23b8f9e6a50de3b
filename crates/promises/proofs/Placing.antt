-- A page put into a dead named slot keeps a book lawful.
use Rattle.std.proofs.Common.{◌≡◌, ℕ, zero, suc, ◌+◌, ◌<◌, ◌≤◌, Bool, true, false, eqb, ◌⊎◌, List, [], ◌∷◌, ◌++◌, map, length, set, sym, refl, ap, ◌∙◌, subst, inl, inr, ⊎_elim, arith}
use Rattle.std.specs.List.{flat_map, AllByRecursion as Each}
use Rattle.std.proofs.lemmas.List.{length-set, get_or-set_same, get_or-set_other, length-append, get_or_at}
use Rattle.std.proofs.ByRecursion.{All-weaker}
use Rattle.std.proofs.lemmas.Bool.{cases_eq, eq-eqb, eqb-true, ne_eqb}
use Rattle.stations.specs.declared.station.Station.{Station}
use Rattle.stations.specs.Beating.{Ordinary, ◌≼◌}
use Rattle.stations.specs.Counting.{bit, count}
use Rattle.books.specs.declared.Child.{Child}
use Rattle.books.specs.Lists.{◌∈◌}
use Rattle.books.specs.Books.{Book, Slot, dead, leaf, node, slot, level, size, children_on, stations_on, named, stations, names, numbered, IsLive, Inside, Fits, Filled, Lawful}
use Rattle.promises.proofs.Lists.{all-at, all_from, in_map, of_map, nothing_in, only, count_append, count_mem, count_none}
use Rattle.promises.proofs.Books.{of_joined, in_joined}

-- a place where a page is named, with the level that the page must have
pub record Home : Type 0 where
  pub level : ℕ
  pub child : Child

abbrev pub home : ℕ → Child → Home
home l c = record { level = l; child = c }

abbrev pub homes_on : Slot → List Home
homes_on dead = []
homes_on (leaf ss) = []
homes_on (node l cs) = map (home l) cs

abbrev pub homes : Book → List Home
homes b = flat_map homes_on b

-- the home is one of the page p
abbrev pub houses : ℕ → Home → Bool
houses p h = names p h.child

count-houses : (p : ℕ) (l : ℕ) (cs : List Child) → count (houses p) (map (home l) cs) ≡ count (names p) cs
count-houses p l [] = refl
count-houses p l (c ∷ cs) = omega (arith, count-houses p l cs)

count-on : (p : ℕ) (s : Slot) → count (houses p) (homes_on s) ≡ count (names p) (children_on s)
count-on p dead = refl
count-on p (leaf ss) = refl
count-on p (node l cs) = count-houses p l cs

pub count-homes : (p : ℕ) (b : Book) → count (houses p) (homes b) ≡ count (names p) (named b)
count-homes p [] = refl
count-homes p (s ∷ b) = omega (arith, count-on p s, count-homes p b, count_append (houses p) (homes_on s) (homes b), count_append (names p) (children_on s) (named b))

on-slot : (s : Slot) {h : Home} → h ∈ homes_on s → (h.child ∈ children_on s) × (level s ≡ suc h.level)
on-slot dead m = nothing_in m
on-slot (leaf ss) m = nothing_in m
on-slot (node l cs) m = let r = of_map (home l) cs m in (subst (λ c. c ∈ cs) (ap (λ h. h.child) (sym r.2)) r.1, ap (λ h. suc h.level) (sym r.2))

pub at_home : (s : Slot) {c : Child} → c ∈ children_on s → (l : ℕ) × (level s ≡ suc l) × (home l c ∈ homes_on s)
at_home dead m = nothing_in m
at_home (leaf ss) m = nothing_in m
at_home (node l cs) m = (l, refl, in_map (home l) m)

-- what a home of a lawful book has
pub record Home-ok (b : Book) (h : Home) : Type 0 where
  pub level : h.level ≤ 6
  pub inside : h.child.page < length b
  pub named : h.child ∈ named b
  pub ordered : h.child.bounds.low ≼ h.child.bounds.high
  pub box : Ordinary h.child.bounds.high

pub home-ok : (b : Book) → Lawful b → (h : Home) → h ∈ homes b → Home-ok b h
home-ok b lawful h m =
    let r = of_joined homes_on b m in
    let o = on-slot (slot b r.0) r.1 in
    let n = in_joined children_on refl b r.0 o.0 in
    record {
      level = omega (arith, lawful.levels r.0, o.1);
      inside = (all-at (λ c. (r.0 < c.page) × (c.page < length b)) (lawful.after r.0) o.0).1;
      named = n;
      ordered = all-at (λ c. c.bounds.low ≼ c.bounds.high) lawful.ordered n;
      box = all-at (λ c. Ordinary c.bounds.high) lawful.boxes n;
    }

-- a named page that is dead
pub record Open (b : Book) (h : Home) : Type 0 where
  pub named : h ∈ homes b
  pub dead : slot b h.child.page ≡ dead

-- what holds of the new slot at its place, and of each other at its own, holds of every slot after a write
pub written : (P : ℕ → Slot → Type 0) (b : Book) (h : ℕ) (s : Slot) → h < length b → P h s → ((p : ℕ) → (p ≡ h → ⊥) → P p (slot b p)) → (p : ℕ) → P p (slot (set b h s) p)
written P b h s l new old p = ⊎_elim
    (λ (e : p ≡ h). subst (λ q. P q (slot (set b h s) q)) (sym e) (subst (P h) (sym (get_or-set_same b h s dead l)) new))
    (λ (n : p ≡ h → ⊥). subst (P p) (sym (get_or-set_other b h p s dead n)) (old p n))
    (cases_eq p h)

module _ {A : Type 0} (f : Slot → List A) (none : f dead ≡ []) where
  pub of-written : (b : Book) (h : ℕ) (s : Slot) → h < length b → {x : A} → x ∈ flat_map f (set b h s) → (x ∈ f s) ⊎ (x ∈ flat_map f b)
  of-written b h s inside {x} m =
      let r = of_joined f (set b h s) m in
      written (λ p t. x ∈ f t → (x ∈ f s) ⊎ (x ∈ flat_map f b)) b h s inside (λ k. inl k) (λ p n k. inr (in_joined f none b p k)) r.0 r.1

  all-written : (P : A → Type 0) (b : Book) (h : ℕ) (s : Slot) → h < length b → Each P (f s) → Each P (flat_map f b) → Each P (flat_map f (set b h s))
  all-written P b h s inside new old = all_from P _ (λ x m. ⊎_elim (λ k. all-at P new k) (λ k. all-at P old k) (of-written b h s inside m))

  -- a write into a dead slot adds counts
  pub count_set : (t : A → Bool) (b : Book) (h : ℕ) (s : Slot) → h < length b → slot b h ≡ dead → count t (flat_map f (set b h s)) ≡ count t (flat_map f b) + count t (f s)
  count_set t [] h s l e = absurd (omega arith)
  count_set t (x ∷ b) zero s l e =
      let z : count t (f x) ≡ 0 = ap (λ y. count t (f y)) e ∙ ap (count t) none in
      omega (arith, count_append t (f s) (flat_map f b), count_append t (f x) (flat_map f b))
  count_set t (x ∷ b) (suc h) s l e =
      omega (arith, count_append t (f x) (flat_map f (set b h s)), count_append t (f x) (flat_map f b), count_set t b h s (omega arith) e)

-- what a slot must be to go into the open place h
pub record Goes (b : Book) (h : Home) (s : Slot) : Type 0 where
  pub fits : Fits (suc h.level) h.child.bounds s
  pub level : level s ≤ 7
  pub size : size s ≤ 12
  pub filled : Filled h.child.page s
  pub after : Each (λ c. (h.child.page < c.page) × (c.page < length b)) (children_on s)
  pub unread : Each (λ c. (slot b c.page ≡ dead) × (c.page ≡ h.child.page → ⊥)) (children_on s)
  pub ordered : Each (λ c. c.bounds.low ≼ c.bounds.high) (children_on s)
  pub boxes : Each (λ c. Ordinary c.bounds.high) (children_on s)
  pub measures : Each (λ t. Ordinary t.at) (stations_on s)
  pub numbers : Each (λ t. 1 ≤ t.number) (stations_on s)
  pub names_fresh : (p : ℕ) → count (names p) (named b) + count (names p) (children_on s) ≤ 1
  pub numbers-fresh : (n : ℕ) → count (numbered n) (stations b) + count (numbered n) (stations_on s) ≤ 1

module _ (b : Book) (h : Home) (s : Slot) (lawful : Lawful b) (o : Open b h) (go : Goes b h s) where
  inside : h.child.page < length b
  inside = (home-ok b lawful h o.named).inside

  more : (p : ℕ) → count (names p) (named (set b h.child.page s)) ≡ count (names p) (named b) + count (names p) (children_on s)
  more p = count_set children_on refl (names p) b h.child.page s inside o.dead

  -- a page named elsewhere fits as before; the new one fits at its one home
  old-fits : (p : ℕ) (c : Child) → c ∈ children_on (slot b p) → Fits (level (slot b p)) c.bounds (slot (set b h.child.page s) c.page)
  old-fits p c m =
      written (λ r t. c.page ≡ r → Fits (level (slot b p)) c.bounds t) b h.child.page s inside
      (λ e.
      let a = at_home (slot b p) m in
      let same : h ≡ home a.0 c = only (houses h.child.page) (homes b) (omega (arith, count-homes h.child.page b, lawful.named_once h.child.page)) o.named (eq-eqb _ _ refl) (in_joined homes_on refl b p a.2) (eq-eqb _ _ e) in
      subst (λ l. Fits l c.bounds s) (sym a.1) (subst (λ (y : Home). Fits (suc y.level) y.child.bounds s) same go.fits))
      (λ r n e. subst (λ i. Fits (level (slot b p)) c.bounds (slot b i)) e (all-at (λ c. Fits (level (slot b p)) c.bounds (slot b c.page)) (lawful.fits p) m))
      c.page refl

  new-fits : (c : Child) → c ∈ children_on s → Fits (level s) c.bounds (slot (set b h.child.page s) c.page)
  new-fits c m =
      let r = all-at (λ c. (slot b c.page ≡ dead) × (c.page ≡ h.child.page → ⊥)) go.unread m in
      subst (Fits (level s) c.bounds) (sym (get_or-set_other b h.child.page c.page s dead r.1 ∙ r.0)) tt

  pub placed : Lawful (set b h.child.page s)
  placed = record {
    levels = written (λ p t. level t ≤ 7) b h.child.page s inside go.level (λ p n. lawful.levels p);
    sizes = written (λ p t. size t ≤ 12) b h.child.page s inside go.size (λ p n. lawful.sizes p);
    filled = written Filled b h.child.page s inside go.filled (λ p n. lawful.filled p);
    after = λ p. subst (λ n. Each (λ c. (p < c.page) × (c.page < n)) (children_on (slot (set b h.child.page s) p))) (sym (length-set b h.child.page s))
        (written (λ p t. Each (λ c. (p < c.page) × (c.page < length b)) (children_on t)) b h.child.page s inside go.after (λ p n. lawful.after p) p);
    fits = written (λ p t. Each (λ c. Fits (level t) c.bounds (slot (set b h.child.page s) c.page)) (children_on t)) b h.child.page s inside
        (all_from _ (children_on s) new-fits) (λ p n. all_from _ (children_on (slot b p)) (old-fits p));
    reached = written (λ p t. IsLive t → (p ≡ 0 → ⊥) → 1 ≤ count (names p) (named (set b h.child.page s))) b h.child.page s inside
        (λ l n. omega (arith, more h.child.page, count_mem (names h.child.page) (home-ok b lawful h o.named).named (eq-eqb _ _ refl)))
        (λ p ne l n. omega (arith, more p, lawful.reached p l n));
    named_once = λ p. omega (arith, more p, go.names_fresh p);
    ordered = all-written children_on refl _ b h.child.page s inside go.ordered lawful.ordered;
    boxes = all-written children_on refl _ b h.child.page s inside go.boxes lawful.boxes;
    measures = all-written stations_on refl _ b h.child.page s inside go.measures lawful.measures;
    numbers = all-written stations_on refl _ b h.child.page s inside go.numbers lawful.numbers;
    numbered_once = λ n. omega (arith, count_set stations_on refl (numbered n) b h.child.page s inside o.dead, go.numbers-fresh n);
  }

pub slot-grown : (b : Book) (p : ℕ) → slot (b ++ dead ∷ []) p ≡ slot b p
slot-grown [] zero = refl
slot-grown [] (suc p) = refl
slot-grown (s ∷ b) zero = refl
slot-grown (s ∷ b) (suc p) = slot-grown b p

pub joined_grown : {A : Type 0} (f : Slot → List A) → f dead ≡ [] → (b : Book) → flat_map f (b ++ dead ∷ []) ≡ flat_map f b
joined_grown f none [] = ap (λ x. x ++ []) none
joined_grown f none (s ∷ b) = ap (λ x. f s ++ x) (joined_grown f none b)

-- a dead slot more at the end
module _ (b : Book) (lawful : Lawful b) where
  abbrev more-dead : Book
  more-dead = b ++ dead ∷ []

  grown-slot : (P : Slot → Type 0) (p : ℕ) → P (slot b p) → P (slot more-dead p)
  grown-slot P p = subst P (sym (slot-grown b p))

  grown-children : (P : List Child → Type 0) → P (named b) → P (named more-dead)
  grown-children P = subst P (sym (joined_grown children_on refl b))

  grown-stations : (P : List Station → Type 0) → P (stations b) → P (stations more-dead)
  grown-stations P = subst P (sym (joined_grown stations_on refl b))

  pub grown : Lawful (b ++ dead ∷ [])
  grown = record {
    levels = λ p. grown-slot (λ s. level s ≤ 7) p (lawful.levels p);
    sizes = λ p. grown-slot (λ s. size s ≤ 12) p (lawful.sizes p);
    filled = λ p. grown-slot (Filled p) p (lawful.filled p);
    after = λ p. grown-slot (λ s. Each (λ c. (p < c.page) × (c.page < length more-dead)) (children_on s)) p (All-weaker _ (λ c. (p < c.page) × (c.page < length more-dead)) (λ c h. (h.0, omega (arith, length-append b (dead ∷ [])))) _ (lawful.after p));
    fits = λ p. grown-slot (λ s. Each (λ c. Fits (level s) c.bounds (slot more-dead c.page)) (children_on s)) p (All-weaker _ (λ c. Fits (level (slot b p)) c.bounds (slot more-dead c.page)) (λ c f. grown-slot (Fits (level (slot b p)) c.bounds) c.page f) _ (lawful.fits p));
    reached = λ p l n. grown-children (λ x. 1 ≤ count (names p) x) (lawful.reached p (subst IsLive (slot-grown b p) l) n);
    named_once = λ p. grown-children (λ x. count (names p) x ≤ 1) (lawful.named_once p);
    ordered = grown-children (Each (λ c. c.bounds.low ≼ c.bounds.high)) lawful.ordered;
    boxes = grown-children (Each (λ c. Ordinary c.bounds.high)) lawful.boxes;
    measures = grown-stations (Each (λ s. Ordinary s.at)) lawful.measures;
    numbers = grown-stations (Each (λ s. 1 ≤ s.number)) lawful.numbers;
    numbered_once = λ n. grown-stations (λ x. count (numbered n) x ≤ 1) (lawful.numbered_once n);
  }

-- an element that nothing passes like, put in front, is counted once
fresh-one : {A : Type 0} (f : A → ℕ) (x : A) (xs : List A) → count (λ y. eqb (f y) (f x)) xs ≡ 0 → (n : ℕ) → count (λ y. eqb (f y) n) xs ≤ 1 → count (λ y. eqb (f y) n) xs + count (λ y. eqb (f y) n) (x ∷ []) ≤ 1
fresh-one f x xs none n once = go (eqb (f x) n) refl
  where
    go : (v : Bool) → eqb (f x) n ≡ v → count (λ y. eqb (f y) n) xs + count (λ y. eqb (f y) n) (x ∷ []) ≤ 1
    go true e = let k : count (λ y. eqb (f y) n) xs ≡ 0 = subst (λ m. count (λ y. eqb (f y) m) xs ≡ 0) (eqb-true (f x) n e) none in omega (arith, ap bit e)
    go false e = omega (arith, ap bit e)

-- a leaf with one station in an open place of level 0
pub leaf-lawful : (b : Book) (h : Home) (s : Station) → Lawful b → Open b h → h.level ≡ 0 → Inside s.at h.child.bounds → 1 ≤ s.number → count (numbered s.number) (stations b) ≡ 0 → Lawful (set b h.child.page (leaf (s ∷ [])))
leaf-lawful b h s lawful o zero-level at one fresh =
    let ok = home-ok b lawful h o.named in
    placed b h (leaf (s ∷ [])) lawful o record {
      fits = (ap suc zero-level, (at, tt));
      level = omega arith;
      size = omega arith;
      filled = λ e. absurd (omega arith);
      after = tt;
      unread = tt;
      ordered = tt;
      boxes = tt;
      measures = (omega arith, tt);
      numbers = (one, tt);
      names_fresh = λ p. omega (arith, lawful.named_once p);
      numbers-fresh = λ n. fresh-one (λ x. x.number) s (stations b) fresh n (lawful.numbered_once n);
    }

abbrev pub last-child : Book → Home → Child
last-child b h = record { page = length b; bounds = h.child.bounds }

-- no page is named past the end
unnamed : (b : Book) → Lawful b → (p : ℕ) → length b ≤ p → count (names p) (named b) ≡ 0
unnamed b lawful p l = count_none (names p) (named b) (λ c m. ne_eqb c.page p (λ e. let r = of_joined children_on b m in omega (arith, (all-at (λ c. (r.0 < c.page) × (c.page < length b)) (lawful.after r.0) r.1).1)))

-- a node with one dead page in an open place of a higher level
pub node-lawful : (b : Book) (h : Home) (l : ℕ) → Lawful b → Open b h → h.level ≡ suc l → Lawful (set (b ++ dead ∷ []) h.child.page (node l (last-child b h ∷ [])))
node-lawful b h l lawful o lvl =
    let ok = home-ok b lawful h o.named in
    placed (b ++ dead ∷ []) h (node l (last-child b h ∷ [])) (grown b lawful)
    record { named = subst (λ x. h ∈ x) (sym (joined_grown homes_on refl b)) o.named; dead = slot-grown b h.child.page ∙ o.dead }
    record {
      fits = (ap suc lvl, (record { above = omega arith; below = omega arith }, tt));
      level = omega arith;
      size = omega arith;
      filled = omega arith;
      after = ((ok.inside, omega (arith, length-append b (dead ∷ []))), tt);
      unread = ((get_or_at b dead [] dead (length b) refl, λ e. omega (arith, ok.inside)), tt);
      ordered = (ok.ordered, tt);
      boxes = (ok.box, tt);
      measures = tt;
      numbers = tt;
      names_fresh = λ p. fresh-one (λ x. x.page) (last-child b h) (named (b ++ dead ∷ [])) (subst (λ x. count (names (length b)) x ≡ 0) (sym (joined_grown children_on refl b)) (unnamed b lawful (length b) (omega arith))) p ((grown b lawful).named_once p);
      numbers-fresh = λ n. omega (arith, (grown b lawful).numbered_once n);
    }
