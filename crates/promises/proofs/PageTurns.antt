-- A turn at a page called for: what its opening adds.
use Rattle.std.proofs.Common.{◌≡◌, ℕ, ◌+◌, ◌<◌, Bool, true, false, not, ◌&&◌, eqb, ◌⊎◌, List, [], ◌∷◌, length, filter, sym, refl, ap, ◌∙◌, subst, ⊎_elim, zero-add, arith}
use lib.ListN.{length-map}
use Rattle.std.proofs.lemmas.Bool.{cases_Bool, both_ways, and_parts, and_from, and_left, and_right, or_right, not_from_true, not_from_false, eqb-true, eqb-false, eq-eqb}
use Rattle.stations.specs.Keys.{before}
use Rattle.stations.specs.Counting.{bit, count}
use Rattle.books.specs.declared.Child.{Child}
use Rattle.books.specs.declared.Entry.{Entry}
use Rattle.books.specs.declared.Entry.TheVariants.{Page, Station}
use Rattle.books.specs.Lists.{◌∈◌}
use Rattle.books.specs.Books.{Book, slot, level, children_on, entries_on, named, Fits, Lawful}
use Rattle.promises.specs.Bounds.{Bound, below, up_to, within}
use Rattle.promises.specs.Queries.{Query, Laws, page_key, field}
use Rattle.promises.specs.Opening.{calls, called_for, opened, listed}
use Rattle.promises.specs.Waiting.{key_of, counts, passes, Place, places, some, passed, waits}
use Rattle.promises.proofs.Lists.{all-at, of-kept, pairwise_kept, length-kept}
use Rattle.promises.proofs.Keys.{before_same}
use Rattle.promises.proofs.Books.{shape, fits-station, fits-child}
use Rattle.promises.proofs.Places.{count_same, some-from, of-children, of-stations, count_at, count-one-less, Differ}
use Rattle.promises.proofs.Turns.{same_bool, false-from, W, apart, standing-at, one-child, saw, passed-parts, passes_in, passed-same, on, outside, pages_up, is_child, listed_below, waits_up, out_of_up}

count-split : {A : Type 0} (a e t : A → Bool) (xs : List A) → count (λ y. a y && t y) xs ≡ count (λ y. (a y && not (e y)) && t y) xs + count (λ y. e y && (a y && t y)) xs
count-split a e t [] = refl
count-split a e t (x ∷ xs) = omega (arith, parts (a x) (e x) (t x), count-split a e t xs)
  where
    parts : (a e t : Bool) → bit (a && t) ≡ bit ((a && not e) && t) + bit (e && (a && t))
    parts true true true = refl
    parts true true false = refl
    parts true false true = refl
    parts true false false = refl
    parts false true t = refl
    parts false false t = refl

module _ (q : Query) (laws : Laws q) (b : Book) (lawful : Lawful b) where
  fitted : (p : ℕ) (c : Child) → c ∈ children_on (slot b p) → Fits (level (slot b p)) c.bounds (slot b c.page)
  fitted p c m = all-at (λ c. Fits (level (slot b p)) c.bounds (slot b c.page)) (lawful.fits p) m

  -- what stands on a page called for has a later key
  pub later : (p : ℕ) (c : Child) → c ∈ children_on (slot b p) → (e : Entry) → e ∈ entries_on (slot b c.page) → counts q e ≡ true → before (page_key q c) (key_of q e) ≡ true
  later p c m (Station s) n h =
      let i = fits-station (level (slot b p)) c.bounds (slot b c.page) (fitted p c m) (of-stations (slot b c.page) n) in
      laws.page_first (q.corner c.bounds) s.at (laws.corner_below s.at c.bounds i h).1 c.page s.number
  later p c m (Page d) n h =
      let i = fits-child (level (slot b p)) c.bounds (slot b c.page) (fitted p c m) (of-children (slot b c.page) n) in
      laws.page_down (q.corner c.bounds) (q.corner d.bounds) (laws.corner_nested d.bounds c.bounds i h).1 c.page d.page ((shape b lawful).child-after c.page d (of-children (slot b c.page) n))

  module _ (u : Bound) (x : Place) (member : x ∈ W q laws b lawful u) (first : (y : Place) → y ∈ W q laws b lawful u → before (key_of q y.entry) (key_of q x.entry) ≡ false) (c : Child) (is : x.entry ≡ Page c) (called : c ∈ called_for q b) where
    abbrev pub v : Bound
    v = up_to (page_key q c)

    same-v : up_to (key_of q x.entry) ≡ v
    same-v = ap (λ e. up_to (key_of q e)) is

    on-page : c ∈ children_on (slot b x.page)
    on-page = of-children (slot b x.page) (subst (λ e. e ∈ entries_on (slot b x.page)) is (standing-at q laws b lawful (on q laws b lawful u x member first)))

    above : x.page < c.page
    above = (shape b lawful).child-after x.page c on-page

    shut : within u (page_key q c) ≡ false
    shut = ap (λ e. within u (key_of q e)) (sym is) ∙ outside q laws b lawful u x member first

    opens : within v (page_key q c) ≡ true
    opens = not_from_false _ (before_same (page_key q c))

    same-child : (d : Child) → d ∈ called_for q b → d.page ≡ c.page → d ≡ c
    same-child d m e = one-child q laws b lawful d c (of-kept (calls q (field q b)) (named b) m).0 (of-kept (calls q (field q b)) (named b) called).0 e

    -- the other pages called for stand as they did
    pub others : (d : Child) → d ∈ called_for q b → (d.page ≡ c.page → ⊥) → within u (page_key q d) ≡ within v (page_key q d)
    others d m ne = subst (λ w. within u (page_key q d) ≡ within w (page_key q d)) same-v (pages_up q laws b lawful u x member first d m (λ e. let z = is_child q laws b lawful u x member first d m e ∙ is in let l : d ≡ c = cc in ne (ap (λ d. d.page) l)))

    pub more-opened : length (opened q b v) ≡ length (opened q b u) + 1
    more-opened =
        let one = count-one-less (λ c d. c.page ≡ d.page → ⊥) (λ d. within v (page_key q d)) (λ d. within u (page_key q d)) (λ _. true) (pairwise_kept _ (calls q (field q b)) (named b) (shape b lawful).pages) called opens shut (λ d m f. sym (others d m (λ e. ⊎_elim (λ g. g (sym e)) (λ g. g e) f))) in
        omega (arith, one, plain v, plain u)
      where
        and_true : (t : Bool) → (t && true) ≡ t
        and_true true = refl
        and_true false = refl

        plain : (w : Bound) → length (opened q b w) ≡ 1 + count (λ d. within w (page_key q d) && true) (called_for q b)
        plain w = omega (arith, length-map (filter (λ d. within w (page_key q d)) (called_for q b)) (λ c. c.page), length-kept (λ d. within w (page_key q d)) (called_for q b), count_same (λ d. within w (page_key q d)) (λ d. within w (page_key q d) && true) (called_for q b) (λ d _. sym (and_true (within w (page_key q d)))))

    -- at the page itself
    none-there : (y : Place) → y.page ≡ c.page → waits q b u y ≡ false
    none-there y e = and_left _ _ (false-from (passed q b u y) (λ h. ⊎_elim (λ k. omega (arith, k.0, above, e)) (λ k. both_ways (within u (page_key q c)) shut (subst (λ d. within u (page_key q d) ≡ true) (same-child k.0 k.1 (k.2 ∙ e)) k.3)) (passed-parts q laws b lawful u y h)))

    new-there : (y : Place) → y ∈ places 0 b → y.page ≡ c.page → waits q b v y ≡ passes q (listed q b u) y.entry
    new-there y m e = same_bool (waits q b v y) (passes q (listed q b u) y.entry) to from
      where
        lists : listed q b u ≡ listed q b (below (page_key q c))
        lists = listed_below q laws b lawful u x member first ∙ ap (λ e. listed q b (below (key_of q e))) is

        to : waits q b v y ≡ true → passes q (listed q b u) y.entry ≡ true
        to h =
            ⊎_elim (λ k. absurd (omega (arith, k.0, above, e))) (λ k. subst (λ ss. passes q ss y.entry ≡ true) (sym lists) (subst (λ d. passes q (listed q b (below (page_key q d))) y.entry ≡ true) (same-child k.0 k.1 (k.2 ∙ e)) k.4)) (passed-parts q laws b lawful v y (and_parts (passed q b v y) (not (within v (key_of q y.entry))) h).0)

        from : passes q (listed q b u) y.entry ≡ true → waits q b v y ≡ true
        from h =
            and_from (passed q b v y) (not (within v (key_of q y.entry))) (or_right (eqb y.page 0 && passes q [] y.entry) (some (saw q laws b lawful v y) (called_for q b)) (some-from (saw q laws b lawful v y) called (and_from (eqb c.page y.page) _ (eq-eqb c.page y.page (sym e)) (and_from (within v (page_key q c)) _ opens (subst (λ ss. passes q ss y.entry ≡ true) lists h)))))
            (not_from_false (within v (key_of q y.entry)) (not_from_true (before (page_key q c) (key_of q y.entry)) (later x.page c on-page y.entry (subst (λ p. y.entry ∈ entries_on (slot b p)) e (standing-at q laws b lawful m)) (passes_in q laws b lawful (listed q b u) y.entry h))))

    -- x leaves, and what passes on its page comes
    pub comes : (t : Entry → Bool) → count (λ y. waits q b v y && t y.entry) (places 0 b) + bit (t x.entry) ≡ count (λ e. passes q (listed q b u) e && t e) (entries_on (slot b c.page)) + count (λ y. waits q b u y && t y.entry) (places 0 b)
    comes t =
        omega (arith, count-split (waits q b v) (λ y. eqb y.page c.page) (λ y. t y.entry) (places 0 b), old, new)
      where
        still : (y : Place) → y ∈ places 0 b → Differ q x y ⊎ Differ q y x → waits q b u y ≡ (waits q b v y && not (eqb y.page c.page))
        still y m f = ⊎_elim
            (λ h. none-there y (eqb-true _ _ h) ∙ sym (and_right (waits q b v y) _ (not_from_true _ h)))
            (λ h. subst (λ w. waits q b u y ≡ waits q b w y) same-v (waits_up q laws b lawful u x member first y m (λ e. ⊎_elim (λ g. g (sym e)) (λ g. g e) f) (passed-same q laws b lawful u (up_to (key_of q x.entry)) y (λ d n e. subst (λ w. within u (page_key q d) ≡ within w (page_key q d)) (sym same-v) (others d n (λ l. eqb-false _ _ h (sym e ∙ l)))))) ∙ sym (keep (waits q b v y) (eqb y.page c.page) h))
            (cases_Bool (eqb y.page c.page))
          where
            keep : (a e : Bool) → e ≡ false → (a && not e) ≡ a
            keep true e h = not_from_false e h
            keep false e h = refl

        old : count (λ y. waits q b u y && t y.entry) (places 0 b) ≡ bit (t x.entry) + count (λ y. (waits q b v y && not (eqb y.page c.page)) && t y.entry) (places 0 b)
        old = count-one-less (Differ q) (waits q b u) (λ y. waits q b v y && not (eqb y.page c.page)) (λ y. t y.entry) (apart q laws b lawful) (on q laws b lawful u x member first) (of-kept (waits q b u) (places 0 b) member).1 (and_left _ _ (subst (λ w. waits q b w x ≡ false) same-v (and_right _ _ (not_from_true _ (out_of_up q laws b lawful u x member first))))) still

        new : count (λ y. eqb y.page c.page && (waits q b v y && t y.entry)) (places 0 b) ≡ count (λ e. passes q (listed q b u) e && t e) (entries_on (slot b c.page))
        new =
            count_same _ (λ y. eqb y.page c.page && (passes q (listed q b u) y.entry && t y.entry)) (places 0 b) (λ y m. ⊎_elim (λ h. ap (λ s. eqb y.page c.page && (s && t y.entry)) (new-there y m (eqb-true _ _ h))) (λ h. and_left _ _ h ∙ sym (and_left _ _ h)) (cases_Bool (eqb y.page c.page)))
            ∙ ap (λ p. count (λ y. eqb y.page p && (passes q (listed q b u) y.entry && t y.entry)) (places 0 b)) (sym (zero-add c.page))
            ∙ count_at 0 c.page (λ e. passes q (listed q b u) e && t e) b
