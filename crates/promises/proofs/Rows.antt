-- The row of what a search meets, and the first halt along it.
use Rattle.std.proofs.Common.{◌≡◌, ℕ, zero, suc, ◌≤◌, Bool, true, false, cond, not, ltb, ◌⊎◌, List, [], ◌∷◌, ◌++◌, map, length, take, Some, None, Ok, Option, sym, refl, ap, ◌∙◌, subst, inl, inr, ⊎_elim, arith}
use Rattle.std.specs.List.{AllByRecursion as Each}
use Rattle.std.proofs.lemmas.Bool.Decides.{nat_tests}
use Rattle.std.proofs.lemmas.Bool.{cases_Bool, both_ways, not_from_true, not_from_false}
use Rattle.std.proofs.ByRecursion.{All-weaker}
use Rattle.stations.specs.declared.station.Station as stated
use Rattle.stations.specs.declared.key.Key.{Key}
use Rattle.stations.specs.declared.fault.Fault.{Fault}
use Rattle.stations.specs.Faults.{refuse_if, or_else}
use Rattle.stations.specs.Keys.{kind_number, lex, before}
use Rattle.books.specs.declared.Child.{Child}
use Rattle.books.specs.declared.Entry.{Entry}
use Rattle.books.specs.declared.Entry.TheVariants.{Page, Station}
use Rattle.books.specs.Lists.{Pairwise, ◌∈◌, here, there}
use Rattle.books.specs.Books.{Book, slot, named, IsLive, Lawful}
use Rattle.promises.specs.Bounds.{Bound, below, up_to, within}
use Rattle.promises.specs.Queries.{Query, Laws, station_key, page_key, field, answer}
use Rattle.promises.specs.Opening.{calls, called_for, opened, up_to_bound}
use Rattle.promises.specs.Waiting.{key_of}
use Rattle.promises.specs.Searching.{Limits, top_key, Ending, done, halted, halt_or, listed_bound, opened_bound, last_reply, reply_at, bound_at, row, open_fault, halt_at, first_halt, ending}
use Rattle.promises.proofs.Lists.{all-at, in_map, of_map, nothing_in, pairwise_kept, pairwise_weaker, pairwise_mapped, pairwise_append, kept-none, in_sort, of-sort, rising-sort}
use Rattle.promises.proofs.Keys.{before_trans, before_same, before_either, kinds_either}
use Rattle.promises.proofs.Books.{live-false, in_left, in_right, of_append, shape}
use Rattle.promises.proofs.Theory.{numbered, rising-sorted, opened-all}

-- what comes before something does not come after it
pub not_after : (j k : Key) → before j k ≡ true → before k j ≡ false
not_after j k h = ⊎_elim (λ e. absurd (both_ways (before j j) (before_same j) (before_trans j k j h e))) (λ e. e) (cases_Bool (before k j))

lex-least : (a : ℕ) (t : Bool) → t ≡ false → lex a 0 t ≡ false
lex-least a t h = grind (arith, nat_tests)

ltb-least : (a : ℕ) → ltb a 0 ≡ false
ltb-least a = grind (arith, nat_tests)

-- nothing comes before the top
pub top-first : (k : Key) → before k top_key ≡ false
top-first k = lex-least k.rank _ (lex-least k.sum _ (lex-least (kind_number k.kind) _ (ltb-least k.number)))

abbrev is_none : {A : Type 0} → Option A → Bool
is_none None = true
is_none (Some x) = false

pub some-none : {A P : Type 0} {x : A} → Some x ≡ None → P
some-none h = absurd (both_ways false refl (ap is_none h))

pub same_some : {A : Type 0} {x y : A} → Some x ≡ Some y → x ≡ y
same_some e = cc

-- two checks pass where both do
pub both-pass : (x y : Bool) (f g : Fault) → or_else (refuse_if x f) (refuse_if y g) ≡ None → (x ≡ false) × (y ≡ false)
both-pass true y f g h = some-none h
both-pass false true f g h = some-none h
both-pass false false f g h = (refl, refl)

-- and otherwise one of them says why not
pub one_fails : (x y : Bool) (f g r : Fault) → or_else (refuse_if x f) (refuse_if y g) ≡ Some r → ((x ≡ true) × (r ≡ f)) ⊎ ((y ≡ true) × (r ≡ g))
one_fails true y f g r h = inl (refl, sym (same_some h))
one_fails false true f g r h = inr (refl, sym (same_some h))
one_fails false false f g r h = some-none (sym h)

module _ (q : Query) (laws : Laws q) (b : Book) (lawful : Lawful b) where
  abbrev pub Rising : List Entry → Type 0
  Rising = Pairwise (λ e f. before (key_of q e) (key_of q f) ≡ true)

  pub rising-answer : Pairwise (λ s t. before (station_key q s) (station_key q t) ≡ true) (answer q b)
  rising-answer = rising-sorted q laws (field q b) (numbered q laws b (shape b lawful))

  abbrev met : List Entry
  met = map Page (called_for q b) ++ map Station (answer q b)

  cross : (e : Entry) → e ∈ map Page (called_for q b) → (f : Entry) → f ∈ map Station (answer q b) → (before (key_of q e) (key_of q f) ≡ true) ⊎ (before (key_of q f) (key_of q e) ≡ true)
  cross e m f n =
      let c = of_map Page (called_for q b) m in
      let s = of_map Station (answer q b) n in
      subst (λ e. (before (key_of q e) (key_of q f) ≡ true) ⊎ (before (key_of q f) (key_of q e) ≡ true)) (sym c.2) (subst (λ f. (before (page_key q c.0) (key_of q f) ≡ true) ⊎ (before (key_of q f) (page_key q c.0) ≡ true)) (sym s.2) (kinds_either (page_key q c.0) (station_key q s.0) (λ e. omega arith)))

  pub rising-row : Rising (row q b)
  rising-row =
      rising-sort _ (λ d e f. before_trans (key_of q d) (key_of q e) (key_of q f)) met (pairwise_append _ (map Page (called_for q b)) (map Station (answer q b))
      (pairwise_mapped _ Page (called_for q b) (pairwise_weaker _ _ (λ c d ne. before_either (page_key q c) (page_key q d) ne) (called_for q b) (pairwise_kept _ (calls q (field q b)) (named b) (shape b lawful).pages)))
      (pairwise_mapped _ Station (answer q b) (pairwise_weaker _ _ (λ s t h. inl h) (answer q b) rising-answer))
      cross)

  pub page_in_row : {c : Child} → c ∈ called_for q b → Page c ∈ row q b
  page_in_row m = in_sort _ (in_left (map Station (answer q b)) (in_map Page m))

  pub station_in_row : {s : stated.Station} → s ∈ answer q b → Station s ∈ row q b
  station_in_row m = in_sort _ (in_right (map Page (called_for q b)) (in_map Station m))

  -- what the search meets is a page called for or a station of the answer
  pub of_row : {e : Entry} → e ∈ row q b → ((c : Child) × (c ∈ called_for q b) × (e ≡ Page c)) ⊎ ((s : stated.Station) × (s ∈ answer q b) × (e ≡ Station s))
  of_row m = ⊎_elim (λ k. inl (of_map Page (called_for q b) k)) (λ k. inr (of_map Station (answer q b) k)) (of_append (map Page (called_for q b)) (of-sort _ met m))

  module _ (limits : Limits) where
    -- what lies before the first halt does not halt the search
    pub clear-before : (es : List Entry) → Rising es → (x : Entry) → x ∈ es → within (listed_bound (first_halt q b limits es)) (key_of q x) ≡ true → halt_at q b limits x ≡ None
    clear-before [] r x m = nothing_in m
    clear-before (e ∷ es) r x m = go (halt_at q b limits e) refl m (clear-before es r.1)
      where
        go : (o : Option Fault) → halt_at q b limits e ≡ o → x ∈ (e ∷ es) → ((x : Entry) → x ∈ es → within (listed_bound (first_halt q b limits es)) (key_of q x) ≡ true → halt_at q b limits x ≡ None) → within (listed_bound (halt_or o (key_of q e) (first_halt q b limits es))) (key_of q x) ≡ true → halt_at q b limits x ≡ None
        go (Some f) h (here d) k w = absurd (both_ways (before (key_of q e) (key_of q e)) (before_same (key_of q e)) (subst (λ y. before (key_of q y) (key_of q e) ≡ true) d w))
        go (Some f) h (there n) k w = absurd (both_ways (before (key_of q x) (key_of q e)) (not_after (key_of q e) (key_of q x) (all-at (λ y. before (key_of q e) (key_of q y) ≡ true) r.0 n)) w)
        go None h (here d) k w = subst (λ y. halt_at q b limits y ≡ None) (sym d) h
        go None h (there n) k w = k x n w

    -- the first halt is at an entry, or there is none
    abbrev pub HaltsAt : List Entry → Ending → Type 0
    HaltsAt es end = (e : Entry) × (f : Fault) × (e ∈ es) × (halt_at q b limits e ≡ Some f) × (end ≡ halted f (key_of q e))

    pub first_cases : (es : List Entry) → (first_halt q b limits es ≡ done) ⊎ HaltsAt es (first_halt q b limits es)
    first_cases [] = inl refl
    first_cases (e ∷ es) = go (halt_at q b limits e) refl (first_cases es)
      where
        go : (o : Option Fault) → halt_at q b limits e ≡ o → (first_halt q b limits es ≡ done) ⊎ HaltsAt es (first_halt q b limits es) → (halt_or o (key_of q e) (first_halt q b limits es) ≡ done) ⊎ HaltsAt (e ∷ es) (halt_or o (key_of q e) (first_halt q b limits es))
        go (Some f) h k = inr (e, f, here refl, h, refl)
        go None h (inl k) = inl k
        go None h (inr k) = inr (k.0, k.1, there k.2, k.3, k.4)

    -- an entry that halts, with none before it that does, is the first halt
    pub first_halt_lem : (es : List Entry) → Rising es → (e : Entry) (f : Fault) → e ∈ es → halt_at q b limits e ≡ Some f → ((x : Entry) → x ∈ es → before (key_of q x) (key_of q e) ≡ true → halt_at q b limits x ≡ None) → first_halt q b limits es ≡ halted f (key_of q e)
    first_halt_lem [] r e f m h k = nothing_in m
    first_halt_lem (y ∷ es) r e f (here d) h k = ap (λ o. halt_or o (key_of q y) (first_halt q b limits es)) (ap (halt_at q b limits) (sym d) ∙ h) ∙ ap (λ z. halted f (key_of q z)) (sym d)
    first_halt_lem (y ∷ es) r e f (there m) h k =
        ap (λ o. halt_or o (key_of q y) (first_halt q b limits es)) (k y (here refl) (all-at (λ z. before (key_of q y) (key_of q z) ≡ true) r.0 m)) ∙ first_halt_lem es r.1 e f m h (λ x n. k x (there n))

    pub no_halt : (es : List Entry) → ((x : Entry) → x ∈ es → halt_at q b limits x ≡ None) → first_halt q b limits es ≡ done
    no_halt [] k = refl
    no_halt (y ∷ es) k = ap (λ o. halt_or o (key_of q y) (first_halt q b limits es)) (k y (here refl)) ∙ no_halt es (λ x n. k x (there n))

    -- where the top opens, the search goes on along the row
    pub past_top : open_fault q b limits 0 (below top_key) ≡ None → ending q b limits ≡ first_halt q b limits (row q b)
    past_top e = ap (λ o. halt_or o top_key (first_halt q b limits (row q b))) e

    pub at_top : (f : Fault) → open_fault q b limits 0 (below top_key) ≡ Some f → ending q b limits ≡ halted f top_key
    at_top f e = ap (λ o. halt_or o top_key (first_halt q b limits (row q b))) e

    pub opens-live : (p : ℕ) (u : Bound) → open_fault q b limits p u ≡ None → IsLive (slot b p)
    opens-live p u h = live-false (slot b p) (both-pass _ _ _ _ h).0

    -- as far as nothing halts the search, what it opens is live
    pub live-opened : (u : Bound) → open_fault q b limits 0 (below top_key) ≡ None → ((k : Key) → within u k ≡ true → within (listed_bound (ending q b limits)) k ≡ true) → Each (λ p. IsLive (slot b p)) (opened q b u)
    live-opened u top f =
        opened-all q laws b u (λ p. IsLive (slot b p)) (opens-live 0 (below top_key) top) (λ c m w. opens-live c.page (up_to (page_key q c)) (clear-before (row q b) rising-row (Page c) (page_in_row m) (subst (λ e. within (listed_bound e) (page_key q c) ≡ true) (past_top top) (f (page_key q c) w))))

-- what a call gives, and how far it opens pages: a station, or the end
module _ (q : Query) (end : Ending) where
  abbrev pub Hands : List stated.Station → ℕ → Type 0
  Hands xs n = (s : stated.Station) × (s ∈ xs) × (reply_at xs end n ≡ Ok (Some s)) × (bound_at q xs end n ≡ below (station_key q s)) × (take (suc n) xs ≡ up_to_bound q (up_to (station_key q s)) xs)

  abbrev pub Ends : List stated.Station → ℕ → Type 0
  Ends xs n = (length xs ≤ n) × (reply_at xs end n ≡ last_reply end) × (bound_at q xs end n ≡ opened_bound end)

  pub call_cases : (xs : List stated.Station) → Pairwise (λ s t. before (station_key q s) (station_key q t) ≡ true) xs → (n : ℕ) → Hands xs n ⊎ Ends xs n
  call_cases [] r n = inr (omega arith, refl, refl)
  call_cases (s ∷ xs) r zero = inl (s, here refl, refl, refl, sym (ap (λ v. kept_cons v) (not_from_false _ (before_same (station_key q s))) ∙ ap (λ ys. s ∷ ys) (kept-none _ xs (All-weaker (λ t. before (station_key q s) (station_key q t) ≡ true) (λ t. not (before (station_key q s) (station_key q t)) ≡ false) (λ t h. not_from_true _ h) xs r.0))))
    where
      kept_cons : Bool → List stated.Station
      kept_cons v = cond v (s ∷ up_to_bound q (up_to (station_key q s)) xs) (up_to_bound q (up_to (station_key q s)) xs)
  call_cases (s ∷ xs) r (suc n) = go (call_cases xs r.1 n)
    where
      go : Hands xs n ⊎ Ends xs n → Hands (s ∷ xs) (suc n) ⊎ Ends (s ∷ xs) (suc n)
      go (inr h) = inr (omega (arith, h.0), h.1, h.2)
      go (inl h) =
          let t = h.0 in
          let w : not (before (station_key q t) (station_key q s)) ≡ true = not_from_false _ (not_after (station_key q s) (station_key q t) (all-at (λ y. before (station_key q s) (station_key q y) ≡ true) r.0 h.1)) in
          inl (t, there h.1, h.2, h.3, ap (λ ys. s ∷ ys) h.4 ∙ sym (ap (λ v. cond v (s ∷ up_to_bound q (up_to (station_key q t)) xs) (up_to_bound q (up_to (station_key q t)) xs)) w))
