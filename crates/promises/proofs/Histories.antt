-- The promises hold of what stands after any history.
use Rattle.std.proofs.Common.{◌≡◌, ℕ, zero, suc, Bool, true, false, List, [], ◌∷◌, ◌++◌, take, Some, None, Ok, Err, Option, Result, sym, refl, ap, ◌∙◌, subst, ⊎_elim, arith}
use Rattle.std.proofs.lemmas.List.{take_all}
use Rattle.std.proofs.lemmas.Bool.{both_ways}
use Rattle.stations.specs.declared.measures.Measures.{Measures}
use Rattle.stations.specs.declared.station.Station.{Station}
use Rattle.stations.specs.declared.question.Question.{Question}
use Rattle.stations.specs.declared.fault.Fault.{Fault}
use Rattle.stations.specs.declared.fault.Code.TheVariants.{DeadPage}
use Rattle.stations.specs.Faults.{fault, verdict}
use Rattle.stations.specs.Questions.{question_fault}
use Rattle.books.specs.Books.{Book, dead, slot, Lawful, Whole}
use Rattle.promises.specs.Bounds.{all}
use Rattle.promises.specs.Queries.{Query, Laws, answer}
use Rattle.promises.specs.Bands.{bands}
use Rattle.promises.specs.Opening.{opened}
use Rattle.promises.specs.Settling.{Keeps, Settles}
use Rattle.promises.specs.Searching as search
use Rattle.promises.specs.Searching.{Limits, Ending, opened_bound, last_reply, reply_at, ending, handed, next, handed_after, opened_after, Within}
use Rattle.promises.specs.Histories.{Event, started, nexted, stopped, Standing, nothing, asked, after_start, Takes, History, new, then, handing, handed_in, Phase, searching, done, halted, phase_by, phase, Promised, EveryHistory}
use Rattle.promises.proofs.Bands.{bands-keep-laws}
use Rattle.promises.proofs.Rows.{call_cases}
use Rattle.promises.proofs.Promises.{rising-handed, done_call, done_settles, sound, sound_done, frugal, decisive, exact}
use Rattle.promises.proofs.Stepping.{past_end}

-- a reply to `next` at the end of what was handed out
handing_cons : (s : Station) (ss : List Station) (r : Result (Option Station) Fault) → handing (s ∷ ss) (nexted r) ≡ s ∷ handing ss (nexted r)
handing_cons s ss (Ok (Some t)) = refl
handing_cons s ss (Ok None) = refl
handing_cons s ss (Err f) = refl

handing-end : (end : Ending) → handing [] (nexted (last_reply end)) ≡ []
handing-end search.done = refl
handing-end (search.halted f κ) = refl

-- each call of `next` adds what it hands out
handing-next : (end : Ending) (xs : List Station) (n : ℕ) → handing (take n xs) (nexted (reply_at xs end n)) ≡ take (suc n) xs
handing-next end [] zero = handing-end end
handing-next end [] (suc n) = handing-end end
handing-next end (s ∷ xs) zero = refl
handing-next end (s ∷ xs) (suc n) = handing_cons s (take n xs) (reply_at xs end n) ∙ ap (λ ys. s ∷ ys) (handing-next end xs n)

handed-more : (ss : List Station) (h : List Event) (e : Event) → handed_in ss (h ++ e ∷ []) ≡ handing (handed_in ss h) e
handed-more ss [] e = refl
handed-more ss (x ∷ h) e = handed-more (handing ss x) h e

module _ (rank : Measures → ℕ) (b : Book) (limits : Limits) where
  -- what was handed out for what stands
  abbrev list_of : Standing → List Station
  list_of nothing = []
  list_of (asked question n) = handed_after (bands rank question) b limits n

  start-hands : (question : Question) (o : Option Fault) (stood : Standing) → handing (list_of stood) (started question (verdict o)) ≡ list_of (after_start question o stood)
  start-hands question (Some f) stood = refl
  start-hands question None stood = refl

  takes_hands : (stood : Standing) (e : Event) (stands : Standing) → Takes rank b limits stood e stands → handing (list_of stood) e ≡ list_of stands
  takes_hands stood (started question r) stands t = ap (λ r. handing (list_of stood) (started question r)) t.0 ∙ start-hands question (question_fault question) stood ∙ ap list_of (sym t.1)
  takes_hands nothing (nexted r) stands t = ap (λ r. handing [] (nexted r)) t.0 ∙ ap list_of (sym t.1)
  takes_hands (asked question n) (nexted r) stands t = ap (λ r. handing (list_of (asked question n)) (nexted r)) t.0 ∙ handing-next (ending (bands rank question) b limits) (handed (bands rank question) b limits) n ∙ ap list_of (sym t.1)
  takes_hands nothing (stopped r) stands t = ap (λ r. handing [] (stopped r)) t.0 ∙ ap list_of (sym t.1)
  takes_hands (asked question n) (stopped r) stands t = ap (λ r. handing (list_of (asked question n)) (stopped r)) t.0 ∙ ap list_of (sym t.1)

  history-hands : {h : List Event} {stands : Standing} → History rank b limits h stands → handed_in [] h ≡ list_of stands
  history-hands new = refl
  history-hands (then {h} {stood} {stands} e past t) = handed-more [] h e ∙ ap (λ ss. handing ss e) (history-hands past) ∙ takes_hands stood e stands t

-- a question that stands was not refused
abbrev Accepted : Standing → Type 0
Accepted nothing = Unit {0}
Accepted (asked question n) = question_fault question ≡ None

start-accepted : (question : Question) (o : Option Fault) → question_fault question ≡ o → (stood : Standing) → Accepted stood → Accepted (after_start question o stood)
start-accepted question (Some f) e stood h = h
start-accepted question None e stood h = e

takes_accepted : (rank : Measures → ℕ) (b : Book) (limits : Limits) (stood : Standing) (e : Event) (stands : Standing) → Accepted stood → Takes rank b limits stood e stands → Accepted stands
takes_accepted rank b limits stood (started question r) stands h t = subst Accepted (sym t.1) (start-accepted question (question_fault question) refl stood h)
takes_accepted rank b limits nothing (nexted r) stands h t = subst Accepted (sym t.1) tt
takes_accepted rank b limits (asked question n) (nexted r) stands h t = subst Accepted (sym t.1) h
takes_accepted rank b limits nothing (stopped r) stands h t = subst Accepted (sym t.1) tt
takes_accepted rank b limits (asked question n) (stopped r) stands h t = subst Accepted (sym t.1) tt

history-accepted : {rank : Measures → ℕ} {b : Book} {limits : Limits} {h : List Event} {stands : Standing} → History rank b limits h stands → Accepted stands
history-accepted new = tt
history-accepted {rank} {b} {limits} (then {h} {stood} {stands} e past t) = takes_accepted rank b limits stood e stands (history-accepted past) t

abbrev is_searching : Phase → Bool
is_searching searching = true
is_searching done = false
is_searching (halted f) = false

abbrev is_halted : Phase → Bool
is_halted searching = false
is_halted done = false
is_halted (halted f) = true

reply-done : (r : Result (Option Station) Fault) → phase_by r ≡ done → r ≡ Ok None
reply-done (Ok (Some s)) h = absurd (both_ways true (ap is_searching h) refl)
reply-done (Ok None) h = refl
reply-done (Err f) h = absurd (both_ways true (ap is_halted h) refl)

reply-halted : (r : Result (Option Station) Fault) (f : Fault) → phase_by r ≡ halted f → r ≡ Err f
reply-halted (Ok (Some s)) f h = absurd (both_ways true (ap is_searching h) refl)
reply-halted (Ok None) f h = absurd (both_ways true (sym (ap is_halted h)) refl)
reply-halted (Err g) f h = cc

same-err : {f g : Fault} → ◌≡◌ {A = Result (Option Station) Fault} (Err f) (Err g) → f ≡ g
same-err e = cc

module _ (q : Query) (laws : Laws q) (b : Book) (lawful : Lawful b) (limits : Limits) where
  abbrev end : Ending
  end = ending q b limits

  -- done at the last call of n + 1
  ends-done : (n : ℕ) → phase q b limits (suc n) ≡ done → (end ≡ search.done) × (opened_after q b limits (suc n) ≡ opened q b all) × (handed_after q b limits (suc n) ≡ handed_after q b limits n) × (next q b limits n ≡ Ok None)
  ends-done n h =
      let r = reply-done (next q b limits n) h in
      let d = done_call q laws b lawful limits n r in
      (d.0, ap (opened q b) (d.2 ∙ ap opened_bound d.0), take_all (suc n) (handed q b limits) (omega (arith, d.1)) ∙ sym (take_all n (handed q b limits) d.1), r)

  ends-halted : (n : ℕ) (f : Fault) → phase q b limits (suc n) ≡ halted f → last_reply end ≡ Err f
  ends-halted n f h =
      let r = reply-halted (next q b limits n) f h in
      ⊎_elim (λ c. absurd (both_ways true (ap is_searching (ap phase_by (sym c.2) ∙ h)) refl)) (λ c. sym c.1 ∙ r) (call_cases q end (handed q b limits) (rising-handed q laws b lawful limits) n)

  sound-done-at : (n : ℕ) → phase q b limits n ≡ done → (w : Book) → Keeps b (opened_after q b limits n) w → answer q w ≡ handed_after q b limits n
  sound-done-at zero h w k = absurd (both_ways true (ap is_searching h) refl)
  sound-done-at (suc n) h w k = let d = ends-done n h in sound_done q laws b lawful limits n d.3 w k ∙ sym d.2

  settled_at : (n : ℕ) → phase q b limits n ≡ done → Settles q b (opened_after q b limits n)
  settled_at zero h = absurd (both_ways true (ap is_searching h) refl)
  settled_at (suc n) h = let d = ends-done n h in subst (Settles q b) (sym d.1) (done_settles q laws b lawful limits d.0)

  unsettled-at : Within q b limits → (n : ℕ) (f : Fault) → phase q b limits n ≡ halted f → (p : ℕ) × (f ≡ fault DeadPage p 0) × (slot b p ≡ dead) × ((ps : List ℕ) → Settles q b ps → ⊥)
  unsettled-at room zero f h = absurd (both_ways true (ap is_searching h) refl)
  unsettled-at room (suc n) f h =
      let d = decisive q laws b lawful limits room in
      let e = ends-halted n f h in
      let ne : end ≡ search.done → ⊥ = λ k. both_ways true (ap is_halted (ap phase_by (sym e ∙ ap last_reply k))) refl in
      let p = d.names_dead ne in
      (p.0, same-err (sym e ∙ ap last_reply p.2), p.3, λ ps s. ne (d.settled_done ps s))

  exact-at : Whole b → Within q b limits → (n : ℕ) → ((f : Fault) → phase q b limits n ≡ halted f → ⊥) × (phase q b limits n ≡ done → handed_after q b limits n ≡ answer q b)
  exact-at whole room zero = (λ f h. both_ways true (ap is_searching h) refl, λ h. absurd (both_ways true (ap is_searching h) refl))
  exact-at whole room (suc n) =
      let d = exact q laws b lawful whole limits room in
      (λ f h. both_ways true (ap is_halted (ap phase_by (sym (ends-halted n f h) ∙ ap last_reply d.0))) refl, λ h. take_all (suc n) (handed q b limits) (omega (arith, (done_call q laws b lawful limits n (ends-done n h).3).1)) ∙ d.1)

  stays_at : (n : ℕ) → (phase q b limits n ≡ searching → ⊥) → (phase q b limits (suc n) ≡ phase q b limits n) × (opened_after q b limits (suc n) ≡ opened_after q b limits n)
  stays_at zero f = absurd (f refl)
  stays_at (suc n) f = ⊎_elim
      (λ c. absurd (f (ap phase_by c.2)))
      (λ c. let e = past_end q end (handed q b limits) (suc n) (omega (arith, c.0)) in (ap phase_by (e.0 ∙ sym c.1), ap (opened q b) (e.1 ∙ sym c.2)))
      (call_cases q end (handed q b limits) (rising-handed q laws b lawful limits) n)

  ended_at : (n : ℕ) → (phase q b limits n ≡ searching → ⊥) → (phase q b limits n ≡ phase_by (last_reply end)) × (handed_after q b limits n ≡ handed q b limits) × (opened_after q b limits n ≡ opened q b (opened_bound end))
  ended_at zero f = absurd (f refl)
  ended_at (suc n) f = ⊎_elim
      (λ c. absurd (f (ap phase_by c.2)))
      (λ c. (ap phase_by c.1, take_all (suc n) (handed q b limits) (omega (arith, c.0)), ap (opened q b) c.2))
      (call_cases q end (handed q b limits) (rising-handed q laws b lawful limits) n)

  -- all of it, of what was handed out in n calls
  pub promised-at : (n : ℕ) → Promised q b limits n (handed_after q b limits n)
  promised-at n = record {
    sound = sound q laws b lawful limits n;
    sound_done = sound-done-at n;
    frugal = frugal q laws b lawful limits n;
    settled = settled_at n;
    unsettled = λ room. unsettled-at room n;
    decides = decisive q laws b lawful limits;
    exact = λ whole room. exact-at whole room n;
    stays = stays_at n;
    ended = ended_at n;
  }

pub every-history : EveryHistory
every-history rank mono b lawful limits h question n past = (
  history-accepted past,
  subst (Promised (bands rank question) b limits n) (sym (history-hands rank b limits past)) (promised-at (bands rank question) (bands-keep-laws rank question mono) b lawful limits n),
)
