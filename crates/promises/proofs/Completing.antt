-- Every lawful book with a live top can be made whole: below each dead named page a station is put, at measures of choice.
use Rattle.std.proofs.Common.{◌≡◌, ℕ, zero, suc, ◌+◌, ◌<◌, ◌≤◌, ◌⊎◌, List, [], ◌∷◌, ◌++◌, length, set, filter, sym, refl, ap, ◌∙◌, subst, inl, inr, ⊎_elim, arith}
use Rattle.std.specs.List.{flat_map, AllByRecursion as Each}
use Rattle.std.proofs.lemmas.List.{length-set, get_or-set_same, get_or-set_other, length-append, get_or_past}
use Rattle.std.proofs.lemmas.Bool.{cases_lt, eq-eqb, ne_eqb}
use Rattle.stations.specs.declared.measures.Measures.{Measures}
use Rattle.stations.specs.declared.station.Station.{Station}
use Rattle.stations.specs.Counting.{bit, count}
use Rattle.books.specs.Lists.{◌∈◌, here, there}
use Rattle.books.specs.Books.{Book, Slot, dead, leaf, node, slot, stations_on, stations, numbered, IsLive, is_dead, Inside, Lawful}
use Rattle.promises.proofs.Lists.{in_kept, of-kept, count_kept_le, nothing_in, count_mem, count_none}
use Rattle.promises.proofs.Books.{dead-true, dead_or_live, of_joined, in_joined}
use Rattle.promises.proofs.Placing.{Home, home, homes_on, homes, houses, count-homes, home-ok, Open, of-written, slot-grown, joined_grown, leaf-lawful, last-child, node-lawful}

-- the places where a dead page is named
abbrev pub gaps : Book → List Home
gaps b = filter (λ h. is_dead (slot b h.child.page)) (homes b)

live_inside : (b : Book) (p : ℕ) → IsLive (slot b p) → p < length b
live_inside b p l = ⊎_elim (λ (k : p < length b). k) (λ (k : length b ≤ p). absurd (subst IsLive (get_or_past b p dead k) l)) (cases_lt p (length b))

-- what stands on live slots stays where they stay
pub stays : {A : Type 0} (f : Slot → List A) → f dead ≡ [] → (b w : Book) → ((p : ℕ) → IsLive (slot b p) → slot w p ≡ slot b p) → {x : A} → x ∈ flat_map f b → x ∈ flat_map f w
stays f none b w keeps {x} m =
    let r = of_joined f b m in
    ⊎_elim (λ d. nothing_in (subst (λ l. x ∈ l) (ap f d ∙ none) r.1)) (λ l. in_joined f none w r.0 (subst (λ s. x ∈ f s) (sym (keeps r.0 l)) r.1)) (dead_or_live (slot b r.0))

-- w is b with the open place h filled, the station s somewhere below it
record Filled (b : Book) (h : Home) (s : Station) (w : Book) : Type 0 where
  lawful : Lawful w
  live : IsLive (slot w h.child.page)
  longer : length b ≤ length w
  keeps : (p : ℕ) → p < length b → (p ≡ h.child.page → ⊥) → slot w p ≡ slot b p
  new : (x : Home) → x ∈ homes w → (x ∈ homes b) ⊎ IsLive (slot w x.child.page)
  from : (x : Station) → x ∈ stations w → (x ∈ stations b) ⊎ (x ≡ s)
  put : s ∈ stations w

only_one : {A : Type 0} {x y : A} → x ∈ (y ∷ []) → x ≡ y
only_one (here e) = e
only_one (there m) = nothing_in m

-- below an open place of level l + 1: a node there, with one dead page, which is an open place of level l
module _ (b : Book) (h : Home) (l : ℕ) (lawful : Lawful b) (o : Open b h) where
  one-child : Slot
  one-child = node l (last-child b h ∷ [])

  abbrev with_node : Book
  with_node = set (b ++ dead ∷ []) h.child.page (node l (last-child b h ∷ []))

  below : Home
  below = home l (last-child b h)

  small : h.child.page < length b
  small = (home-ok b lawful h o.named).inside

  inside : h.child.page < length (b ++ dead ∷ [])
  inside = omega (arith, small, length-append b (dead ∷ []))

  long : length with_node ≡ length b + 1
  unfolding one-child
  long = length-set (b ++ dead ∷ []) h.child.page one-child ∙ length-append b (dead ∷ [])

  at-h : slot with_node h.child.page ≡ one-child
  unfolding one-child
  at-h = get_or-set_same (b ++ dead ∷ []) h.child.page one-child dead inside

  at_others : (p : ℕ) → (p ≡ h.child.page → ⊥) → slot with_node p ≡ slot b p
  unfolding one-child
  at_others p n = get_or-set_other (b ++ dead ∷ []) h.child.page p one-child dead n ∙ slot-grown b p

  open-below : Open with_node below
  unfolding one-child below
  open-below = record {
    named = in_joined homes_on refl with_node h.child.page (subst (λ t. below ∈ homes_on t) (sym at-h) (here refl));
    dead = at_others (length b) (λ e. omega (arith, small)) ∙ get_or_past b (length b) dead (omega arith);
  }

  homes-below : (x : Home) → x ∈ homes with_node → (x ∈ homes b) ⊎ (x ≡ below)
  unfolding one-child below
  homes-below x m = ⊎_elim
      (λ (k : x ∈ (below ∷ [])). inr (only_one k))
      (λ (k : x ∈ homes (b ++ dead ∷ [])). inl (subst (λ l. x ∈ l) (joined_grown homes_on refl b) k))
      (of-written homes_on refl (b ++ dead ∷ []) h.child.page one-child inside m)

  stations-below : (x : Station) → x ∈ stations with_node → x ∈ stations b
  unfolding one-child
  stations-below x m = ⊎_elim
      (λ (k : x ∈ []). nothing_in k)
      (λ (k : x ∈ stations (b ++ dead ∷ [])). subst (λ l. x ∈ l) (joined_grown stations_on refl b) k)
      (of-written stations_on refl (b ++ dead ∷ []) h.child.page one-child inside m)

  deeper : (s : Station) (w : Book) → Filled with_node below s w → Filled b h s w
  unfolding one-child below
  deeper s w f = record {
    lawful = f.lawful;
    live = subst IsLive (sym (f.keeps h.child.page (omega (arith, small, long)) (λ e. omega (arith, small)) ∙ at-h)) tt;
    longer = omega (arith, f.longer, long);
    keeps = λ p k n. f.keeps p (omega (arith, long)) (λ e. omega arith) ∙ at_others p n;
    new = λ x m. ⊎_elim
        (λ (k : x ∈ homes with_node). ⊎_elim
        (λ (j : x ∈ homes b). inl j)
        (λ (e : x ≡ below). inr (subst (λ (y : Home). IsLive (slot w y.child.page)) (sym e) f.live))
        (homes-below x k))
        (λ (k : IsLive (slot w x.child.page)). inr k)
        (f.new x m);
    from = λ x m. ⊎_elim (λ (k : x ∈ stations with_node). inl (stations-below x k)) (λ (e : x ≡ s). inr e) (f.from x m);
    put = f.put;
  }

-- no station has the number
abbrev Fresh : ℕ → Book → Type 0
Fresh n b = (x : Station) → x ∈ stations b → x.number < n

unnumbered : (n : ℕ) (b : Book) → Fresh n b → count (numbered n) (stations b) ≡ 0
unnumbered n b f = count_none (numbered n) (stations b) (λ x m. ne_eqb x.number n (λ e. omega (arith, f x m)))

fill_one : (l : ℕ) (b : Book) (h : Home) (s : Station) → Lawful b → Open b h → h.level ≡ l → Inside s.at h.child.bounds → 1 ≤ s.number → Fresh s.number b → (w : Book) × Filled b h s w
unfolding below
fill_one zero b h s lawful o level at one fresh = (
  set b h.child.page (leaf (s ∷ [])),
  record {
    lawful = leaf-lawful b h s lawful o level at one (unnumbered s.number b fresh);
    live = subst IsLive (sym here_now) tt;
    longer = omega (arith, length-set b h.child.page (leaf (s ∷ [])));
    keeps = λ p l n. get_or-set_other b h.child.page p (leaf (s ∷ [])) dead n;
    new = λ x m. ⊎_elim (λ (k : x ∈ []). nothing_in k) (λ (k : x ∈ homes b). inl k) (of-written homes_on refl b h.child.page (leaf (s ∷ [])) (small b h 0 lawful o) m);
    from = λ x m. ⊎_elim (λ (k : x ∈ (s ∷ [])). inr (only_one k)) (λ (k : x ∈ stations b). inl k) (of-written stations_on refl b h.child.page (leaf (s ∷ [])) (small b h 0 lawful o) m);
    put = in_joined stations_on refl (set b h.child.page (leaf (s ∷ []))) h.child.page (subst (λ t. s ∈ stations_on t) (sym here_now) (here refl));
  },
)
  where
    here_now : slot (set b h.child.page (leaf (s ∷ []))) h.child.page ≡ leaf (s ∷ [])
    here_now = get_or-set_same b h.child.page (leaf (s ∷ [])) dead (small b h 0 lawful o)
fill_one (suc l) b h s lawful o level at one fresh =
    let f = fill_one l (with_node b h l lawful o) (below b h l lawful o) s (node-lawful b h l lawful o level) (open-below b h l lawful o) refl at one (λ x m. fresh x (stations-below b h l lawful o x m)) in
    (f.0, deeper b h l lawful o s f.0 f.1)

-- the open places of b are those of the list, each once
record Left (b : Book) (os : List Home) : Type 0 where
  opens : (h : Home) → h ∈ os → Open b h
  apart : (p : ℕ) → count (houses p) os ≤ 1
  covers : (h : Home) → h ∈ homes b → IsLive (slot b h.child.page) ⊎ (h ∈ os)

not_dead : (b : Book) (p q : ℕ) → slot b q ≡ dead → IsLive (slot b p) → p ≡ q → ⊥
not_dead b p q d l e = subst IsLive (ap (slot b) e ∙ d) l

live-kept : (b : Book) (h : Home) (s : Station) (w : Book) → Open b h → Filled b h s w → (p : ℕ) → IsLive (slot b p) → slot w p ≡ slot b p
live-kept b h s w o f p l = f.keeps p (live_inside b p l) (not_dead b p h.child.page o.dead l)

left : (b : Book) (h : Home) (os : List Home) (s : Station) (w : Book) → Lawful b → Left b (h ∷ os) → Filled b h s w → Left w os
left b h os s w lawful r f = record {
  opens = λ x m. let ox = r.opens x (there m) in record {
    named = stays homes_on refl b w (live-kept b h s w o f) ox.named;
    dead = f.keeps x.child.page (home-ok b lawful x ox.named).inside
        (λ e. omega (arith, r.apart h.child.page, ap bit (eq-eqb h.child.page h.child.page refl), count_mem (houses h.child.page) m (eq-eqb _ _ e))) ∙ ox.dead;
  };
  apart = λ p. omega (arith, r.apart p);
  covers = λ x m. ⊎_elim
      (λ (k : x ∈ homes b). ⊎_elim
      (λ (l : IsLive (slot b x.child.page)). inl (subst IsLive (sym (live-kept b h s w o f x.child.page l)) l))
      (λ (j : x ∈ (h ∷ os)). in_front x j)
      (r.covers x k))
      (λ (l : IsLive (slot w x.child.page)). inl l)
      (f.new x m);
}
  where
    o : Open b h
    o = r.opens h (here refl)

    in_front : (x : Home) → x ∈ (h ∷ os) → IsLive (slot w x.child.page) ⊎ (x ∈ os)
    in_front x (here e) = inl (subst (λ (y : Home). IsLive (slot w y.child.page)) (sym e) f.live)
    in_front x (there i) = inr i

-- a station for each of the places, numbered from n on
abbrev pub fills : (Home → Measures) → ℕ → List Home → List Station
fills pick n [] = []
fills pick n (h ∷ hs) = record { number = n; at = pick h } ∷ fills pick (suc n) hs

-- w is whole and lawful, keeps what is live, and has the book's stations and the new ones
pub record Completes (b : Book) (new : List Station) (w : Book) : Type 0 where
  pub lawful : Lawful w
  pub live : (h : Home) → h ∈ homes w → IsLive (slot w h.child.page)
  pub keeps : (p : ℕ) → IsLive (slot b p) → slot w p ≡ slot b p
  pub from : (x : Station) → x ∈ stations w → (x ∈ stations b) ⊎ (x ∈ new)
  pub put : (x : Station) → x ∈ new → x ∈ stations w

-- one place filled, and then the others
and_one : (b : Book) (h : Home) (s : Station) (v : Book) (new : List Station) (w : Book) → Open b h → Filled b h s v → Completes v new w → Completes b (s ∷ new) w
and_one b h s v new w o f g = record {
  lawful = g.lawful;
  live = g.live;
  keeps = λ p l. let e = live-kept b h s v o f p l in g.keeps p (subst IsLive (sym e) l) ∙ e;
  from = λ x m. ⊎_elim
      (λ (k : x ∈ stations v). ⊎_elim (λ (i : x ∈ stations b). inl i) (λ (e : x ≡ s). inr (here e)) (f.from x k))
      (λ (k : x ∈ new). inr (there k))
      (g.from x m);
  put = puts;
}
  where
    puts : (x : Station) → x ∈ (s ∷ new) → x ∈ stations w
    puts x (here e) = stays stations_on refl v w g.keeps (subst (λ y. y ∈ stations v) (sym e) f.put)
    puts x (there m) = g.put x m

fill-all : (pick : Home → Measures) (os : List Home) (b : Book) (n : ℕ) → Lawful b → Left b os → Each (λ h. Inside (pick h) h.child.bounds) os → 1 ≤ n → Fresh n b → (w : Book) × Completes b (fills pick n os) w
fill-all pick [] b n lawful r at one fresh = (
  b,
  record {
    lawful = lawful;
    live = λ h m. ⊎_elim (λ (l : IsLive (slot b h.child.page)). l) (λ (k : h ∈ []). nothing_in k) (r.covers h m);
    keeps = λ p l. refl;
    from = λ x m. inl m;
    put = λ x m. nothing_in m;
  },
)
fill-all pick (h ∷ os) b n lawful r at one fresh =
    let s : Station = record { number = n; at = pick h } in
    let o = r.opens h (here refl) in
    let f = fill_one h.level b h s lawful o refl at.0 one fresh in
    let g = fill-all pick os f.0 (suc n) f.1.lawful (left b h os s f.0 lawful r f.1) at.1 (omega arith)
    (λ x m. ⊎_elim (λ (k : x ∈ stations b). omega (arith, fresh x k)) (λ (e : x ≡ s). omega (arith, ap (λ (y : Station). y.number) e)) (f.1.from x m)) in
    (g.0, and_one b h s f.0 (fills pick (suc n) os) g.0 o f.1 g.1)

pub of-gaps : (b : Book) (h : Home) → h ∈ gaps b → Open b h
of-gaps b h m = let r = of-kept (λ h. is_dead (slot b h.child.page)) (homes b) m in record { named = r.0; dead = dead-true (slot b h.child.page) r.1 }

pub in_gaps : (b : Book) (h : Home) → h ∈ homes b → slot b h.child.page ≡ dead → h ∈ gaps b
in_gaps b h m e = in_kept (λ h. is_dead (slot b h.child.page)) m (ap is_dead e)

all_left : (b : Book) → Lawful b → Left b (gaps b)
all_left b lawful = record {
  opens = of-gaps b;
  apart = λ p. omega (arith, lawful.named_once p, count-homes p b, count_kept_le (houses p) (λ h. is_dead (slot b h.child.page)) (homes b));
  covers = λ h m. ⊎_elim (λ e. inr (in_gaps b h m e)) (λ l. inl l) (dead_or_live (slot b h.child.page));
}

pub completion : (b : Book) (pick : Home → Measures) (base : ℕ) → Lawful b → Each (λ h. Inside (pick h) h.child.bounds) (gaps b) → 1 ≤ base → Fresh base b → (w : Book) × Completes b (fills pick base (gaps b)) w
completion b pick base lawful at one fresh = fill-all pick (gaps b) b base lawful (all_left b lawful) at one fresh
