-- The promises, from what is opened as far as a bound and from the row.
use Rattle.std.proofs.Common.{◌≡◌, ℕ, zero, suc, ◌≤◌, Bool, true, false, ◌⊎◌, [], ◌++◌, length, take, Some, None, Ok, Err, Option, Result, sym, refl, ap, ◌∙◌, subst, inl, inr, ⊎_elim, arith}
use Rattle.std.specs.List.{AllByRecursion as Each}
use Rattle.std.proofs.lemmas.List.{take_all}
use Rattle.std.proofs.lemmas.Bool.{both_ways, not-true, not_from_false}
use Rattle.stations.specs.declared.station.Station as stated
use Rattle.stations.specs.declared.key.Key.{Key}
use Rattle.stations.specs.declared.fault.Fault.{Fault}
use Rattle.stations.specs.declared.fault.Code.TheVariants.{DeadPage}
use Rattle.stations.specs.Faults.{fault, refuse_if}
use Rattle.stations.specs.Keys.{before}
use Rattle.books.specs.declared.Child.{Child}
use Rattle.books.specs.Lists.{Pairwise, ◌∈◌, here}
use Rattle.books.specs.Books.{Book, dead, slot, named, children_on, IsLive, Lawful}
use Rattle.promises.specs.Bounds.{Bound, all, below, up_to, within}
use Rattle.promises.specs.Queries.{Query, Laws, station_key, page_key, field, answer}
use Rattle.promises.specs.Opening.{calls, called_for, opened, listed}
use Rattle.promises.specs.Foundations.{Agree}
use Rattle.promises.specs.Settling.{Keeps, NamedFrom, Settles}
use Rattle.promises.specs.Waiting.{key_of}
use Rattle.promises.specs.Searching.{Limits, top_key, Ending, done, halted, listed_bound, opened_bound, last_reply, bound_at, row, open_fault, halt_at, first_halt, ending, handed, next, handed_after, opened_after, Unhindered, Within}
use Rattle.promises.specs.Promises.{Begins, Sound, SoundDone, Frugal, Decisive, Exact}
use Rattle.promises.proofs.Lists.{all-at, all_from, of-kept, pairwise_kept, begins-kept, kept-none, kept-all, kept-kept}
use Rattle.promises.proofs.Keys.{within-before, within-up_to, kinds_either}
use Rattle.promises.proofs.Books.{dead-true, of_joined, shape}
use Rattle.promises.proofs.Theory.{same_answers, in_opened, opened-all, opened-wider, l3}
use Rattle.promises.proofs.Frugal.{holds, holds-many}
use Rattle.promises.proofs.Rows.{not_after, top-first, some-none, same_some, one_fails, rising-answer, of_row, first_cases, HaltsAt, past_top, at_top, live-opened, Hands, Ends, call_cases}

-- what lies before the end was opened by then
listed-opened : (e : Ending) (k : Key) → within (listed_bound e) k ≡ true → within (opened_bound e) k ≡ true
listed-opened done k h = refl
listed-opened (halted f κ) k h = not_from_false (before κ k) (not_after k κ h)

abbrev is_done : Ending → Bool
is_done done = true
is_done (halted f κ) = false

abbrev is_handed : Result (Option stated.Station) Fault → Bool
is_handed (Ok (Some s)) = true
is_handed (Ok None) = false
is_handed (Err f) = false

abbrev is_err : Result (Option stated.Station) Fault → Bool
is_err (Ok o) = false
is_err (Err f) = true

pub not_done : {P : Type 0} {f : Fault} {κ : Key} → halted f κ ≡ done → P
not_done h = absurd (both_ways false refl (ap is_done h))

done-reply : (e : Ending) → last_reply e ≡ Ok None → e ≡ done
done-reply done h = refl
done-reply (halted f κ) h = absurd (both_ways false refl (sym (ap is_err h)))

-- a check that refuses gives its own fault
refused_as : (t : Bool) (g f : Fault) → refuse_if t g ≡ Some f → f ≡ g
refused_as true g f h = sym (same_some h)
refused_as false g f h = some-none (sym h)

module _ (q : Query) (laws : Laws q) (b : Book) (lawful : Lawful b) where
  -- a lawful book that keeps what is live of the pages opened as far as v agrees as far as u
  agree : (u v : Bound) (w : Book) → Each (λ p. IsLive (slot b p)) (opened q b u) → ((p : ℕ) → p ∈ opened q b u → p ∈ opened q b v) → Keeps b (opened q b v) w → Agree (opened q b u) b w
  agree u v w live f k = all_from _ (opened q b u) (λ p m. sym (all-at (λ p. IsLive (slot b p) → slot w p ≡ slot b p) k.same (f p m) (all-at (λ p. IsLive (slot b p)) live m)))

  begins-listed : (u : Bound) (w : Book) → Lawful w → Agree (opened q b u) b w → Begins (listed q b u) (answer q w)
  begins-listed u w lw a =
      let r = begins-kept (λ s t. before (station_key q s) (station_key q t)) (λ s. within u (station_key q s)) (λ s t h k. within-before u (station_key q s) (station_key q t) h k) (answer q w) (rising-answer q laws w lw) in
      (r.0, subst (λ xs. answer q w ≡ xs ++ r.0) (sym (same_answers q laws u b w lawful lw a)) r.1)

  listed-all : (w : Book) → listed q w all ≡ answer q w
  listed-all w = kept-all (λ _. true) (answer q w) (all_from _ (answer q w) (λ s m. refl))

  same_whole : (w : Book) → Lawful w → Agree (opened q b all) b w → answer q b ≡ answer q w
  same_whole w lw a = sym (listed-all b) ∙ same_answers q laws all b w lawful lw a ∙ listed-all w

  -- a page comes before a station or after it
  pages-before : (s : stated.Station) (p : ℕ) → p ∈ opened q b (up_to (station_key q s)) → p ∈ opened q b (below (station_key q s))
  pages-before s p m = all-at (λ p. p ∈ opened q b (below (station_key q s))) (opened-all q laws b (up_to (station_key q s)) (λ p. p ∈ opened q b (below (station_key q s))) (here refl) (λ c n w.
      in_opened q laws b (below (station_key q s)) n (⊎_elim (λ h. h) (λ h. absurd (both_ways (before (station_key q s) (page_key q c)) (not-true _ w) h)) (kinds_either (page_key q c) (station_key q s) (λ e. omega arith))))) m

  module _ (limits : Limits) where
    abbrev end : Ending
    end = ending q b limits

    pub rising-handed : Pairwise (λ s t. before (station_key q s) (station_key q t) ≡ true) (handed q b limits)
    rising-handed = pairwise_kept _ (λ s. within (listed_bound end) (station_key q s)) (answer q b) (rising-answer q laws b lawful)

    -- a search that halts at the top hands out nothing
    none-handed : (f : Fault) → open_fault q b limits 0 (below top_key) ≡ Some f → handed q b limits ≡ []
    none-handed f e = ap (λ e. listed q b (listed_bound e)) (at_top q laws b lawful limits f e) ∙ kept-none (λ s. before (station_key q s) top_key) (answer q b) (all_from _ (answer q b) (λ s m. top-first (station_key q s)))

    -- a search that is done was not halted at the top
    top-opens : end ≡ done → open_fault q b limits 0 (below top_key) ≡ None
    top-opens d = go (open_fault q b limits 0 (below top_key)) refl
      where
        go : (o : Option Fault) → open_fault q b limits 0 (below top_key) ≡ o → open_fault q b limits 0 (below top_key) ≡ None
        go None e = e
        go (Some f) e = not_done (sym (at_top q laws b lawful limits f e) ∙ d)

    begins-handed : (u v : Bound) (w : Book) → open_fault q b limits 0 (below top_key) ≡ None → ((k : Key) → within u k ≡ true → within (listed_bound end) k ≡ true) → ((p : ℕ) → p ∈ opened q b u → p ∈ opened q b v) → Keeps b (opened q b v) w → Begins (listed q b u) (answer q w)
    begins-handed u v w top f g k = begins-listed u w k.lawful (agree u v w (live-opened q laws b lawful limits u top f) g k)

    sound_call : (n : ℕ) (w : Book) → Keeps b (opened_after q b limits (suc n)) w → Begins (handed_after q b limits (suc n)) (answer q w)
    sound_call n w k = go (open_fault q b limits 0 (below top_key)) refl
      where
        handing : open_fault q b limits 0 (below top_key) ≡ None → Hands q end (handed q b limits) n → Begins (handed_after q b limits (suc n)) (answer q w)
        handing e h =
            let κ = station_key q h.0 in
            let in_end = (of-kept (λ s. within (listed_bound end) (station_key q s)) (answer q b) h.1).1 in
            let near : (j : Key) → within (up_to κ) j ≡ true → within (listed_bound end) j ≡ true = λ j l. within-up_to (listed_bound end) κ j in_end l in
            let same : handed_after q b limits (suc n) ≡ listed q b (up_to κ) = h.4 ∙ kept-kept (λ s. within (up_to κ) (station_key q s)) (λ s. within (listed_bound end) (station_key q s)) (λ s. near (station_key q s)) (answer q b) in
            subst (λ xs. Begins xs (answer q w)) (sym same) (begins-handed (up_to κ) (below κ) w e near (pages-before h.0) (subst (λ u. Keeps b (opened q b u) w) h.3 k))

        ended : open_fault q b limits 0 (below top_key) ≡ None → Ends q end (handed q b limits) n → Begins (handed_after q b limits (suc n)) (answer q w)
        ended e h =
            subst (λ xs. Begins xs (answer q w)) (sym (take_all (suc n) (handed q b limits) (omega (arith, h.0)))) (begins-handed (listed_bound end) (opened_bound end) w e (λ j l. l) (λ p m. opened-wider q laws b (listed_bound end) (opened_bound end) (listed-opened end) m) (subst (λ u. Keeps b (opened q b u) w) h.2 k))

        go : (o : Option Fault) → open_fault q b limits 0 (below top_key) ≡ o → Begins (handed_after q b limits (suc n)) (answer q w)
        go (Some f) e = (answer q w, ap (λ xs. take (suc n) xs ++ answer q w) (sym (none-handed f e)))
        go None e = ⊎_elim (handing e) (ended e) (call_cases q end (handed q b limits) rising-handed n)

    handed-all : end ≡ done → handed q b limits ≡ answer q b
    handed-all d = ap (λ e. listed q b (listed_bound e)) d ∙ listed-all b

    done-live : end ≡ done → Each (λ p. IsLive (slot b p)) (opened q b all)
    done-live d = live-opened q laws b lawful limits all (top-opens d) (λ k _. subst (λ e. within (listed_bound e) k ≡ true) (sym d) refl)

    pub done_call : (n : ℕ) → next q b limits n ≡ Ok None → (end ≡ done) × (length (handed q b limits) ≤ n) × (bound_at q (handed q b limits) end n ≡ opened_bound end)
    done_call n h = ⊎_elim (λ r. absurd (both_ways true (ap is_handed (sym r.2 ∙ h)) refl)) (λ r. (done-reply end (sym r.1 ∙ h), r.0, r.2)) (call_cases q end (handed q b limits) rising-handed n)

    sound_done_call : (n : ℕ) → next q b limits n ≡ Ok None → (w : Book) → Keeps b (opened_after q b limits (suc n)) w → answer q w ≡ handed_after q b limits n
    sound_done_call n h w k =
        let d = done_call n h in
        let kept : Keeps b (opened q b all) w = subst (λ e. Keeps b (opened q b (opened_bound e)) w) d.0 (subst (λ u. Keeps b (opened q b u) w) d.2 k) in
        sym (same_whole w k.lawful (agree all all w (done-live d.0) (λ p m. m) kept)) ∙ sym (handed-all d.0) ∙ sym (take_all n (handed q b limits) d.1)

    -- done, so what was opened settles
    pub done_settles : end ≡ done → Settles q b (opened q b all)
    done_settles d = record {
      rooted = record { top = here refl; live = done-live d; hangs = opened-all q laws b all (NamedFrom b (opened q b all)) (inl refl) (λ c m _. hung c m) };
      same = λ v w kv kw. sym (same_whole v kv.lawful (agree all all v (done-live d) (λ p m. m) kv)) ∙ same_whole w kw.lawful (agree all all w (done-live d) (λ p m. m) kw);
    }
      where
        hung : (c : Child) → c ∈ called_for q b → NamedFrom b (opened q b all) c.page
        hung c m =
            let t = of-kept (calls q (field q b)) (named b) m in
            let o = of_joined children_on b t.0 in
            inr (o.0, c, opened-wider q laws b (below (page_key q c)) all (λ k _. refl) (l3 q laws b (shape b lawful) o.0 c o.1 t.1), o.1, refl)

    module _ (room : Within q b limits) where
      -- a dead page that was opened halts the search
      abbrev DeadEnd : Type 0
      DeadEnd = (p : ℕ) × (κ : Key) × (end ≡ halted (fault DeadPage p 0) κ) × (slot b p ≡ dead) × (p ∈ opened q b all)

      unhindered : (f : Fault) (κ : Key) → end ≡ halted f κ → Unhindered (halted f κ)
      unhindered f κ e = subst Unhindered e room

      -- within the limits only a dead page halts
      dead_end : (p : ℕ) (u : Bound) (f : Fault) (κ : Key) → p ∈ opened q b all → open_fault q b limits p u ≡ Some f → end ≡ halted f κ → DeadEnd
      dead_end p u f κ m h e = ⊎_elim
          (λ k. (p, κ, e ∙ ap (λ g. halted g κ) k.1, dead-true (slot b p) k.0, m))
          (λ k. absurd ((unhindered f κ e).0 (ap (λ g. g.code) k.1)))
          (one_fails _ _ _ _ f h)

      row-end : HaltsAt q laws b lawful limits (row q b) (first_halt q b limits (row q b)) → open_fault q b limits 0 (below top_key) ≡ None → DeadEnd
      row-end h top =
          let e = past_top q laws b lawful limits top ∙ h.4 in
          ⊎_elim
          (λ r. dead_end r.0.page (up_to (page_key q r.0)) h.1 (key_of q h.0) (in_opened q laws b all r.1 refl) (subst (λ x. halt_at q b limits x ≡ Some h.1) r.2 h.3) e)
          (λ r. absurd ((unhindered h.1 (key_of q h.0) e).1 (ap (λ g. g.code) (refused_as _ _ h.1 (subst (λ x. halt_at q b limits x ≡ Some h.1) r.2 h.3)))))
          (of_row q laws b lawful h.2)

      done_or_dead : (end ≡ done) ⊎ DeadEnd
      done_or_dead = go (open_fault q b limits 0 (below top_key)) refl
        where
          go : (o : Option Fault) → open_fault q b limits 0 (below top_key) ≡ o → (end ≡ done) ⊎ DeadEnd
          go (Some f) e = inr (dead_end 0 (below top_key) f top_key (here refl) e (at_top q laws b lawful limits f e))
          go None e = ⊎_elim (λ h. inl (past_top q laws b lawful limits e ∙ h)) (λ h. inr (row-end h e)) (first_cases q laws b lawful limits (row q b))

      live-done : Each (λ p. IsLive (slot b p)) (opened q b all) → end ≡ done
      live-done live = ⊎_elim (λ d. d) (λ d. absurd (subst IsLive d.3 (all-at (λ p. IsLive (slot b p)) live d.4))) done_or_dead

      names_dead : (end ≡ done → ⊥) → (p : ℕ) × (κ : Key) × (end ≡ halted (fault DeadPage p 0) κ) × (slot b p ≡ dead)
      names_dead ne = ⊎_elim (λ d. absurd (ne d)) (λ d. (d.0, d.1, d.2, d.3)) done_or_dead

pub sound : Sound
sound q laws b lawful limits zero w k = (answer q w, refl)
sound q laws b lawful limits (suc n) w k = sound_call q laws b lawful limits n w k

pub sound_done : SoundDone
sound_done q laws b lawful limits n h w k = sound_done_call q laws b lawful limits n h w k

pub frugal : Frugal
frugal q laws b lawful limits zero ps s = (tt, omega arith)
frugal q laws b lawful limits (suc n) ps s = holds-many q laws b lawful ps s (bound_at q (handed q b limits) (ending q b limits) n)

pub decisive : Decisive
decisive q laws b lawful limits room = record {
  done_settles = done_settles q laws b lawful limits;
  settled_done = λ ps s. live-done q laws b lawful limits room (all_from _ (opened q b all) (λ p m. all-at (λ p. IsLive (slot b p)) s.rooted.live (all-at (λ p. p ∈ ps) (holds q laws b lawful ps s) m)));
  names_dead = names_dead q laws b lawful limits room;
}

pub exact : Exact
exact q laws b lawful whole limits room =
    let d = live-done q laws b lawful limits room (opened-all q laws b all (λ p. IsLive (slot b p)) whole.top (λ c m _. all-at (λ c. IsLive (slot b c.page)) whole.rest (of-kept (calls q (field q b)) (named b) m).0)) in
    (d, handed-all q laws b lawful limits d)
