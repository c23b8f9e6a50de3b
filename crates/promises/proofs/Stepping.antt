-- The place that a search has come to says what the next call gives.
use Rattle.std.proofs.Common.{◌≡◌, ℕ, zero, suc, ◌≤◌, true, false, cond, List, [], ◌∷◌, length, Some, Ok, sym, refl, ap, ◌∙◌, subst, ⊎_elim, arith}
use Rattle.std.proofs.lemmas.Bool.{cases_Bool, not_from_false}
use Rattle.std.proofs.ByRecursion.{All-weaker}
use Rattle.stations.specs.declared.station.Station as stated
use Rattle.stations.specs.declared.key.Key.{Key}
use Rattle.stations.specs.Keys.{before}
use Rattle.books.specs.Lists.{Pairwise, ◌∈◌, here, there}
use Rattle.books.specs.Books.{Book, Lawful}
use Rattle.promises.specs.Bounds.{below, up_to, within}
use Rattle.promises.specs.Queries.{Query, Laws, station_key, answer}
use Rattle.promises.specs.Opening.{opened, up_to_bound, listed}
use Rattle.promises.specs.Waiting.{key_of}
use Rattle.promises.specs.Searching.{Limits, top_key, Ending, done, halted, listed_bound, opened_bound, last_reply, reply_at, bound_at, row, first_halt, ending, handed, next, opened_after}
use Rattle.promises.specs.Stepping.{Clear, Stepping}
use Rattle.promises.proofs.Lists.{all-at, all_from, in_kept, pairwise_kept, nothing_in, kept-none, kept-all, kept-kept}
use Rattle.promises.proofs.Keys.{before_same, within-before}
use Rattle.promises.proofs.Rows.{not_after, top-first, some-none, rising-answer, rising-row, first_cases, HaltsAt, first_halt_lem, no_halt, past_top, at_top}

-- what a call gives, and how far pages are opened then
abbrev Call : Query → List stated.Station → Ending → ℕ → Type 0
Call q xs end n = (reply_at xs end n ≡ last_reply end) × (bound_at q xs end n ≡ opened_bound end)

pub past_end : (q : Query) (end : Ending) (xs : List stated.Station) (n : ℕ) → length xs ≤ n → Call q xs end n
past_end q end [] n h = (refl, refl)
past_end q end (s ∷ xs) zero h = absurd (omega arith)
past_end q end (s ∷ xs) (suc n) h = past_end q end xs n (omega arith)

-- a station of a rising list is handed out after as many calls as there are stations before it
at_place : (q : Query) (end : Ending) (s : stated.Station) (xs : List stated.Station) → Pairwise (λ s t. before (station_key q s) (station_key q t) ≡ true) xs → s ∈ xs → (reply_at xs end (length (up_to_bound q (below (station_key q s)) xs)) ≡ Ok (Some s)) × (bound_at q xs end (length (up_to_bound q (below (station_key q s)) xs)) ≡ below (station_key q s))
at_place q end s [] r m = nothing_in m
at_place q end s (x ∷ xs) r (here e) =
    let none : up_to_bound q (below (station_key q s)) (x ∷ xs) ≡ [] = kept-none _ (x ∷ xs) (
      ap (λ y. before (station_key q y) (station_key q s)) (sym e) ∙ before_same (station_key q s),
      All-weaker (λ t. before (station_key q x) (station_key q t) ≡ true) (λ t. before (station_key q t) (station_key q s) ≡ false) (λ t h. ap (λ y. before (station_key q t) (station_key q y)) e ∙ not_after (station_key q x) (station_key q t) h) xs r.0,
    ) in
    (ap (λ ys. reply_at (x ∷ xs) end (length ys)) none ∙ ap (λ y. Ok (Some y)) (sym e), ap (λ ys. bound_at q (x ∷ xs) end (length ys)) none ∙ ap (λ y. below (station_key q y)) (sym e))
at_place q end s (x ∷ xs) r (there m) =
    let more : up_to_bound q (below (station_key q s)) (x ∷ xs) ≡ x ∷ up_to_bound q (below (station_key q s)) xs = ap (λ v. cond v (x ∷ up_to_bound q (below (station_key q s)) xs) (up_to_bound q (below (station_key q s)) xs)) (all-at (λ t. before (station_key q x) (station_key q t) ≡ true) r.0 m) in
    let h = at_place q end s xs r.1 m in
    (ap (λ ys. reply_at (x ∷ xs) end (length ys)) more ∙ h.0, ap (λ ys. bound_at q (x ∷ xs) end (length ys)) more ∙ h.1)

module _ (q : Query) (laws : Laws q) (b : Book) (lawful : Lawful b) (limits : Limits) where
  abbrev end : Ending
  end = ending q b limits

  -- where the end is known, the calls after all that lies before it are
  ended : (e : Ending) → end ≡ e → (n : ℕ) → length (listed q b (listed_bound e)) ≤ n → (next q b limits n ≡ last_reply e) × (opened_after q b limits (suc n) ≡ opened q b (opened_bound e))
  ended e d n l =
      let c = past_end q end (handed q b limits) n (subst (λ x. length (listed q b (listed_bound x)) ≤ n) (sym d) l) in
      (c.0 ∙ ap last_reply d, ap (opened q b) (c.1 ∙ ap opened_bound d))

  -- what is clear lies before the end
  reaches : (κ : Key) → Clear q b limits (up_to κ) → within (listed_bound end) κ ≡ true
  reaches κ clear = subst (λ e. within (listed_bound e) κ ≡ true) (sym (past_top q laws b lawful limits clear.top)) (⊎_elim finished stopped (first_cases q laws b lawful limits (row q b)))
    where
      finished : first_halt q b limits (row q b) ≡ done → within (listed_bound (first_halt q b limits (row q b))) κ ≡ true
      finished d = subst (λ e. within (listed_bound e) κ ≡ true) (sym d) refl

      stopped : HaltsAt q laws b lawful limits (row q b) (first_halt q b limits (row q b)) → within (listed_bound (first_halt q b limits (row q b))) κ ≡ true
      stopped h = subst (λ e. within (listed_bound e) κ ≡ true) (sym h.4) (⊎_elim (λ k. k) (λ k. some-none (sym h.3 ∙ clear.rest h.0 h.2 (not_from_false _ k))) (cases_Bool (before κ (key_of q h.0))))

  hands : (s : stated.Station) → s ∈ answer q b → Clear q b limits (up_to (station_key q s)) → (n : ℕ) → length (listed q b (below (station_key q s))) ≡ n → (next q b limits n ≡ Ok (Some s)) × (opened_after q b limits (suc n) ≡ opened q b (below (station_key q s)))
  hands s m clear n l =
      let κ = station_key q s in
      let w = reaches κ clear in
      let on : s ∈ handed q b limits = in_kept (λ t. within (listed_bound end) (station_key q t)) m w in
      let rising : Pairwise (λ s t. before (station_key q s) (station_key q t) ≡ true) (handed q b limits) = pairwise_kept _ (λ t. within (listed_bound end) (station_key q t)) (answer q b) (rising-answer q laws b lawful) in
      let h = at_place q end s (handed q b limits) rising on in
      let k : length (up_to_bound q (below κ) (handed q b limits)) ≡ n = ap length (kept-kept (λ t. within (below κ) (station_key q t)) (λ t. within (listed_bound end) (station_key q t)) (λ t j. within-before (listed_bound end) (station_key q t) κ j w) (answer q b)) ∙ l in
      (subst (λ n. reply_at (handed q b limits) end n ≡ Ok (Some s)) k h.0, ap (opened q b) (subst (λ n. bound_at q (handed q b limits) end n ≡ below κ) k h.1))

pub stepping : Stepping
stepping q laws b lawful limits = record {
  hands = hands q laws b lawful limits;
  halts = λ e f m clear h n l. ended q laws b lawful limits (halted f (key_of q e)) (past_top q laws b lawful limits clear.top ∙ first_halt_lem q laws b lawful limits (row q b) (rising-row q laws b lawful) e f m h (λ x k w. clear.rest x k w)) n l;
  top_halts = λ f h n. ended q laws b lawful limits (halted f top_key) (at_top q laws b lawful limits f h) n (subst (λ xs. length xs ≤ n) (sym (kept-none (λ s. before (station_key q s) top_key) (answer q b) (all_from _ (answer q b) (λ s _. top-first (station_key q s))))) (omega arith));
  ends = λ clear n l. ended q laws b lawful limits done (past_top q laws b lawful limits clear.top ∙ no_halt q laws b lawful limits (row q b) (λ e m. clear.rest e m refl)) n (subst (λ xs. length xs ≤ n) (sym (kept-all (λ _. true) (answer q b) (all_from _ (answer q b) (λ s _. refl)))) l);
}
