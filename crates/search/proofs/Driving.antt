-- Call after call of `next`.
use Rattle.std.proofs.Common.{◌≡◌, ℕ, suc, ◌≤◌, List, [], ◌∷◌, ◌++◌, length, None, Ok, Err, Result, sym, refl, ap, ◌∙◌, subst, arith}
use Rattle.std.specs.List.{AllByRecursion as Each}
use Rattle.std.proofs.lemmas.List.{append_assoc, append-nil, same_from_push, length_push}
use Rattle.std.proofs.ByRecursion.{All-append}
use Rattle.stations.specs.declared.measures.Measures.{Measures}
use Rattle.stations.specs.declared.question.Question.{Question}
use Rattle.stations.specs.declared.fault.Fault.{Fault}
use Rattle.stations.specs.declared.fault.Code.TheVariants.{NoSearch}
use Rattle.stations.specs.Faults.{placeless}
use Rattle.stations.specs.Beating.{◌≼◌}
use Rattle.rankings.specs.declared.Ranking.{Ghosts as Ranking}
use Rattle.books.specs.Books.{Book, Lawful}
use Rattle.sources.specs.declared.PageSource.{Ghosts as PageSource}
use Rattle.promises.specs.Bands.{bands, Monotone}
use Rattle.promises.specs.Histories.{Event, nexted, Standing, nothing, asked, Takes, History, new, then, phase_by, phase, Promised}
use Rattle.promises.proofs.Histories.{every-history}
use Rattle.search.specs.declared.run.Run.{Run}
use Rattle.search.specs.declared.call.Call.TheVariants.{Next}
use Rattle.waiting.specs.States.{limits, Reply}
use Rattle.search.specs.Relation.{after_next, Produces, Told, Adds}
use Rattle.search.specs.Playing.{call_of, question_of, Ends, Drives}

module _ (rank : Measures → ℕ) (b : Book) where
  none-push : {A P : Type 0} (xs : List A) (x : A) → [] ≡ xs ++ x ∷ [] → P
  none-push xs x h = absurd (omega (arith, ap length h, length_push xs x))

  pub last_call : (l : List Event) (stands : Standing) → History rank b limits l stands → (h : List Event) (e : Event) → l ≡ h ++ e ∷ [] → (stood : Standing) × Takes rank b limits stood e stands
  last_call l stands new h e i = none-push h e i
  last_call l stands (then {h = h'} {stood = stood} e' past t) h e i = (stood, subst (λ x. Takes rank b limits stood x stands) (same_from_push h' h e' e i).1 t)

  same_asked : {P : Type 0} {question : Question} {n : ℕ} → asked question n ≡ nothing → P
  same_asked h = cc

  taken-asked : (stood : Standing) (r : Reply) (question : Question) (n : ℕ) → Takes rank b limits stood (nexted r) (asked question n) → phase (bands rank question) b limits n ≡ phase_by r
  taken-asked nothing r question n t = same_asked t.1
  taken-asked (asked question' n') r question n t =
      let e : question ≡ question' = cc t.1 in
      let k : n ≡ suc n' = cc t.1 in
      ap (λ x. phase (bands rank x) b limits n) e ∙ ap (phase (bands rank question') b limits) k ∙ ap phase_by (sym t.0)

  taken-nothing : (stood : Standing) (r : Reply) → Takes rank b limits stood (nexted r) nothing → r ≡ Err (placeless NoSearch)
  taken-nothing nothing r t = t.0
  taken-nothing (asked question n) r t = same_asked (sym t.1)

  -- the last reply says how a search has ended
  ends-err : (h : List Event) (f : Fault) (stands : Standing) → History rank b limits (h ++ nexted (Err f) ∷ []) stands → Ends rank b stands (Err f)
  ends-err h f nothing p = let l = last_call _ nothing p h (nexted (Err f)) refl in let i = taken-nothing l.0 (Err f) l.1 in let e : f ≡ placeless NoSearch = cc in ap Err e
  ends-err h f (asked question n) p = let l = last_call _ (asked question n) p h (nexted (Err f)) refl in taken-asked l.0 (Err f) question n l.1

  ends-done : (h : List Event) (stands : Standing) → History rank b limits (h ++ nexted (Ok None) ∷ []) stands → Ends rank b stands (Ok tt)
  ends-done h nothing p = let l = last_call _ nothing p h (nexted (Ok None)) refl in let i = taken-nothing l.0 (Ok None) l.1 in cc
  ends-done h (asked question n) p = let l = last_call _ (asked question n) p h (nexted (Ok None)) refl in taken-asked l.0 (Ok None) question n l.1

-- a call of `next` leaves the question
pub same_next : (stands : Standing) → question_of (after_next stands) ≡ question_of stands
same_next nothing = refl
same_next (asked question n) = refl

module _ {S R : Type 0} (source : PageSource S) (ranking : Ranking R) where
  -- calls of `next`, each of which handed out a station
  pub record Handing (rank : Measures → ℕ) (b : Book) (h : List Event) (stood : Standing) (m : ℕ) (r : Run S R) : Type 0 where
    pub events : List Event
    pub stands : Standing
    pub only_next : Each (λ x. call_of x ≡ Next) events
    pub same : question_of stands ≡ question_of stood
    pub produces : Produces source.book source.meter ranking.score rank b (h ++ events) stands m r

  -- so after any calls on the run r
  abbrev pub Hands : Run S R → Run S R → Type 0
  Hands r r' = Told source ranking r (λ rank b h stood m. Handing rank b h stood m r')

  pub hands-none : (r : Run S R) → Hands r r
  hands-none r rank b h stood m p = record { events = []; stands = stood; only_next = tt; same = refl; produces = subst (λ l. Produces source.book source.meter ranking.score rank b l stood m r) (sym (append-nil h)) p }

  -- one call of `next` more
  abbrev pub hands-more : (r r' r'' : Run S R) (reply : Reply) → Hands r r' → Adds source ranking (nexted reply) r' r'' → Hands r r''
  hands-more r r' r'' reply hands adds rank b h stood m p =
      let g = hands rank b h stood m p in
      record {
        events = g.events ++ nexted reply ∷ [];
        stands = after_next g.stands;
        only_next = All-append (λ x. call_of x ≡ Next) g.events (nexted reply ∷ []) g.only_next (refl, tt);
        same = same_next g.stands ∙ g.same;
        produces = subst (λ l. Produces source.book source.meter ranking.score rank b l (after_next g.stands) m r'') (append_assoc h g.events (nexted reply ∷ [])) (adds rank b (h ++ g.events) g.stands m g.produces);
      }

  module _ (mono : (s : R) (p q : Measures) → p ≼ q → ranking.score s p ≤ ranking.score s q) (r r' r'' : Run S R) (hands : Hands r r') where
    driven : (reply : Reply) (e : Result (Unit {0}) Fault) → Adds source ranking (nexted reply) r' r'' → ((rank : Measures → ℕ) (b : Book) (h : List Event) (stands : Standing) → History rank b limits (h ++ nexted reply ∷ []) stands → Ends rank b stands e) → Drives source ranking r e r''
    driven reply e adds ends rank b h stood m p =
        let g = hands rank b h stood m p in
        let k = hands-more r r' r'' reply hands adds rank b h stood m p in
        record {
          events = k.events;
          stands = k.stands;
          only_next = k.only_next;
          same = k.same;
          produces = k.produces;
          ends = ends rank b (h ++ g.events) k.stands (adds rank b (h ++ g.events) g.stands m g.produces).history;
          promised = λ question n is.
              let o = every-history rank (subst Monotone p.ranking_is (mono r.query.ranking)) b (subst Lawful p.source_is (source.laws.lawful r.source)) limits (h ++ k.events) question n (subst (History rank b limits (h ++ k.events)) is k.produces.history) in
              (o.0, subst (Promised (bands rank question) b limits n) (sym k.produces.listed_is) o.1);
        }

    pub driven-err : (f : Fault) → Adds source ranking (nexted (Err f)) r' r'' → Drives source ranking r (Err f) r''
    driven-err f adds = driven (Err f) (Err f) adds (λ rank b h. ends-err rank b h f)

    pub driven-done : Adds source ranking (nexted (Ok None)) r' r'' → Drives source ranking r (Ok tt) r''
    driven-done adds = driven (Ok None) (Ok tt) adds ends-done
