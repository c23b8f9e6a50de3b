-- Each call keeps the relation between a run and its history.
use Rattle.std.proofs.Common.{◌≡◌, ℕ, suc, ◌≤◌, List, [], ◌∷◌, ◌++◌, length, Some, None, Ok, Err, Option, Result, sym, refl, ap, ◌∙◌, subst, inl, inr, arith}
use Rattle.std.proofs.lemmas.List.{nil_from_length, length_push}
use Rattle.stations.specs.declared.measures.Measures.{Measures}
use Rattle.stations.specs.declared.station.Station.{Station}
use Rattle.stations.specs.declared.question.Question.{Question}
use Rattle.stations.specs.declared.fault.Fault.{Fault}
use Rattle.stations.specs.declared.fault.Code.TheVariants.{NoSearch}
use Rattle.stations.specs.Faults.{placeless, verdict}
use Rattle.stations.specs.Questions.{question_fault}
use Rattle.stations.specs.Beating.{◌≼◌}
use Rattle.rankings.specs.declared.Ranking.{Ghosts as Ranking}
use Rattle.books.specs.Books.{Book, Lawful}
use Rattle.sources.specs.declared.PageSource.{Ghosts as PageSource}
use Rattle.promises.specs.Bands.{bands, Monotone}
use Rattle.promises.specs.Searching.{next, opened_after}
use Rattle.promises.specs.Histories as histories
use Rattle.promises.specs.Histories.{Event, started, nexted, stopped, Standing, nothing, asked, after_start, Takes, History, new, then, handing, handed_in, phase_by, phase, Promised}
use Rattle.promises.proofs.Histories.{every-history}
use Rattle.search.specs.declared.run.Phase.TheVariants as phases
use Rattle.search.specs.declared.run.Run.{Run}
use Rattle.waiting.specs.Held.{held, listing}
use Rattle.waiting.specs.States.{limits, Reply, Goes, Gave}
use Rattle.search.specs.Runs.{Kept, query_of, GoesOn, RepliesWith}
use Rattle.search.specs.Relation.{phase_of, meter_from, pages_opened, Asked, Stands, Produces, Told, Adds}

pub handed-more : (ss : List Station) (h : List Event) (e : Event) → handed_in ss (h ++ e ∷ []) ≡ handing (handed_in ss h) e
handed-more ss [] e = refl
handed-more ss (x ∷ h) e = handed-more (handing ss x) h e

-- phases are apart
nothing-stands : {P : Type 0} (x : histories.Phase) → phase_of x ≡ phases.None → P
nothing-stands histories.searching h = cc
nothing-stands histories.done h = cc
nothing-stands (histories.halted f) h = cc

is_searching_lem : (x : histories.Phase) → phase_of x ≡ phases.Searching → x ≡ histories.searching
is_searching_lem histories.searching h = refl
is_searching_lem histories.done h = cc
is_searching_lem (histories.halted f) h = cc

is_done_lem : (x : histories.Phase) → phase_of x ≡ phases.Done → x ≡ histories.done
is_done_lem histories.searching h = cc
is_done_lem histories.done h = refl
is_done_lem (histories.halted f) h = cc

is_halted_lem : (x : histories.Phase) (f : Fault) → phase_of x ≡ phases.Halted f → x ≡ histories.halted f
is_halted_lem histories.searching f h = cc
is_halted_lem histories.done f h = cc
is_halted_lem (histories.halted g) f h = let e : g ≡ f = cc in ap histories.halted e

-- a reply by the phase it leaves
said-done : (r : Reply) → phase_by r ≡ histories.done → r ≡ Ok None
said-done (Ok (Some s)) h = cc
said-done (Ok None) h = refl
said-done (Err f) h = cc

said-halted : (r : Reply) (f : Fault) → phase_by r ≡ histories.halted f → r ≡ Err f
said-halted (Ok (Some s)) f h = cc
said-halted (Ok None) f h = cc
said-halted (Err g) f h = let e : g ≡ f = cc in ap Err e

-- a reply that goes on hands out one station
handed-one : (ss : List Station) (r : Reply) → phase_by r ≡ histories.searching → length (handing ss (nexted r)) ≡ suc (length ss)
handed-one ss (Ok (Some s)) h = length_push ss s ∙ omega arith
handed-one ss (Ok None) h = cc
handed-one ss (Err f) h = cc

-- a question that is refused leaves what stood, and another stands
refused_so : (stood : Standing) (m k : ℕ) (question : Question) (f : Fault) (o : Option Fault) → ◌≡◌ {A = Result (Unit {0}) Fault} (Err f) (verdict o) → (after_start question o stood ≡ stood) × (meter_from o m k ≡ m)
refused_so stood m k question f (Some g) h = (refl, refl)
refused_so stood m k question f None h = cc

accepted_so : (stood : Standing) (m k : ℕ) (question : Question) (o : Option Fault) → ◌≡◌ {A = Result (Unit {0}) Fault} (Ok tt) (verdict o) → (after_start question o stood ≡ asked question 0) × (meter_from o m k ≡ k)
accepted_so stood m k question (Some g) h = cc
accepted_so stood m k question None h = (refl, refl)

module _ {S R : Type 0} (source : PageSource S) (ranking : Ranking R) where
  abbrev Has : (Measures → ℕ) → Book → List Event → Standing → ℕ → Run S R → Type 0
  Has = Produces source.book source.meter ranking.score

  -- the list with one event more
  more-listed : (rank : Measures → ℕ) (b : Book) (h : List Event) (stood : Standing) (m : ℕ) (r r' : Run S R) (e : Event) → Has rank b h stood m r → listing r'.listed ≡ handing (listing r.listed) e → listing r'.listed ≡ handed_in [] (h ++ e ∷ [])
  more-listed rank b h stood m r r' e p l = l ∙ ap (λ ss. handing ss e) p.listed_is ∙ sym (handed-more [] h e)

  -- a question that is refused
  pub start-refused : (r : Run S R) (question : Question) (f : Fault) → Err f ≡ verdict (question_fault question) → Adds source ranking (started question (Err f)) r r
  start-refused r question f e rank b h stood m p =
      let s = refused_so stood m (source.meter r.source) question f (question_fault question) e in
      record {
        source_is = p.source_is;
        ranking_is = p.ranking_is;
        history = then (started question (Err f)) p.history (e, refl);
        listed_is = more-listed rank b h stood m r r (started question (Err f)) p refl;
        state = subst (λ x. Stands source.book source.meter ranking.score rank b x (meter_from (question_fault question) m (source.meter r.source)) r) (sym s.0) (subst (λ k. Stands source.book source.meter ranking.score rank b stood k r) (sym s.1) p.state);
      }

  -- another begins a search
  pub start-accepted : (r r' : Run S R) (question : Question) → Ok tt ≡ verdict (question_fault question) → r'.source ≡ r.source → r'.query.ranking ≡ r.query.ranking → r'.query.question ≡ question → r'.phase ≡ phases.Searching → (r'.opened ≡ 0) × (length (held r'.waiting) ≡ 0) × (length (listing r'.listed) ≡ 0) → Adds source ranking (started question (Ok tt)) r r'
  start-accepted r r' question e same ranks is phase_is none rank b h stood m p =
      let s = accepted_so stood m (source.meter r.source) question (question_fault question) e in
      let small = source.laws.metered r.source in
      let state : Asked source.book source.meter ranking.score rank b question 0 (source.meter r.source) r' = record {
        question_is = is;
        phase_is = phase_is;
        opened_is = none.0;
        metered = ap source.meter same ∙ omega (arith, none.0);
        goes = λ _. (none.2, inl none);
      } in
      record {
        source_is = ap source.book same ∙ p.source_is;
        ranking_is = ap ranking.score ranks ∙ p.ranking_is;
        history = then (started question (Ok tt)) p.history (e, refl);
        listed_is = more-listed rank b h stood m r r' (started question (Ok tt)) p (nil_from_length (listing r'.listed) none.2);
        state = subst (λ x. Stands source.book source.meter ranking.score rank b x (meter_from (question_fault question) m (source.meter r.source)) r') (sym s.0) (subst (λ k. Asked source.book source.meter ranking.score rank b question 0 k r') (sym s.1) state);
      }

  -- with no search standing
  pub next-none : (r : Run S R) → r.phase ≡ phases.None → Adds source ranking (nexted (Err (placeless NoSearch))) r r
  next-none r e rank b h nothing m p = record {
    source_is = p.source_is;
    ranking_is = p.ranking_is;
    history = then (nexted (Err (placeless NoSearch))) p.history (refl, refl);
    listed_is = more-listed rank b h nothing m r r (nexted (Err (placeless NoSearch))) p refl;
    state = p.state;
  }
  next-none r e rank b h (asked question n) m p = nothing-stands (phase (bands rank question) b limits n) (sym p.state.phase_is ∙ e)

  pub stop-none : (r : Run S R) → r.phase ≡ phases.None → Adds source ranking (stopped (Err (placeless NoSearch))) r r
  stop-none r e rank b h nothing m p = record {
    source_is = p.source_is;
    ranking_is = p.ranking_is;
    history = then (stopped (Err (placeless NoSearch))) p.history (refl, refl);
    listed_is = more-listed rank b h nothing m r r (stopped (Err (placeless NoSearch))) p refl;
    state = p.state;
  }
  stop-none r e rank b h (asked question n) m p = nothing-stands (phase (bands rank question) b limits n) (sym p.state.phase_is ∙ e)

  -- a search that stands is stopped
  pub stop-some : (r r' : Run S R) → (r.phase ≡ phases.None → ⊥) → r'.source ≡ r.source → r'.query.ranking ≡ r.query.ranking → r'.phase ≡ phases.None → (r'.opened ≡ 0) × (length (held r'.waiting) ≡ 0) × (length (listing r'.listed) ≡ 0) → Adds source ranking (stopped (Ok tt)) r r'
  stop-some r r' ne same ranks phase_is none rank b h nothing m p = absurd (ne p.state.0)
  stop-some r r' ne same ranks phase_is none rank b h (asked question n) m p = record {
    source_is = ap source.book same ∙ p.source_is;
    ranking_is = ap ranking.score ranks ∙ p.ranking_is;
    history = then (stopped (Ok tt)) p.history (refl, refl);
    listed_is = more-listed rank b h (asked question n) m r r' (stopped (Ok tt)) p (nil_from_length (listing r'.listed) none.2);
    state = (phase_is, none.0, none.2);
  }

  pub tallied : (r : Run S R) → Told source ranking r (λ rank b h stands m. (r.opened ≡ length (pages_opened rank b stands)) × (length (listing r.listed) ≡ length (handed_in [] h)))
  tallied r rank b h nothing m p = (p.state.1, ap length p.listed_is)
  tallied r rank b h (asked question n) m p = (p.state.opened_is, ap length p.listed_is)

  module _ (mono : (s : R) (p q : Measures) → p ≼ q → ranking.score s p ≤ ranking.score s q) (r : Run S R) where
    -- a search that has ended says the same again
    stays : (rank : Measures → ℕ) (b : Book) (h : List Event) (question : Question) (n m : ℕ) → Has rank b h (asked question n) m r → (reply : Reply) → phase_by reply ≡ phase (bands rank question) b limits n → (phase (bands rank question) b limits n ≡ histories.searching → ⊥) → ((x : Reply) → phase_by x ≡ phase_by reply → x ≡ reply) → handing (listing r.listed) (nexted reply) ≡ listing r.listed → Has rank b (h ++ nexted reply ∷ []) (asked question (suc n)) m r
    stays rank b h question n m p reply same ended one kept =
        let q = bands rank question in
        let st = (every-history rank (subst Monotone p.ranking_is (mono r.query.ranking)) b (subst Lawful p.source_is (source.laws.lawful r.source)) limits h question n p.history).1.stays ended in
        let says : next q b limits n ≡ reply = one (next q b limits n) (st.0 ∙ sym same) in
        record {
          source_is = p.source_is;
          ranking_is = p.ranking_is;
          history = then (nexted reply) p.history (sym says, refl);
          listed_is = more-listed rank b h (asked question n) m r r (nexted reply) p (sym kept);
          state = record {
            question_is = p.state.question_is;
            phase_is = p.state.phase_is ∙ ap phase_of (sym st.0);
            opened_is = p.state.opened_is ∙ ap length (sym st.1);
            metered = p.state.metered;
            goes = λ g. absurd (ended (sym st.0 ∙ g));
          };
        }

    pub next-done : r.phase ≡ phases.Done → Adds source ranking (nexted (Ok None)) r r
    next-done e rank b h nothing m p = cc p.state.0
    next-done e rank b h (asked question n) m p =
        let d = is_done_lem (phase (bands rank question) b limits n) (sym p.state.phase_is ∙ e) in
        stays rank b h question n m p (Ok None) (sym d) (λ s. cc) (λ x k. said-done x k) refl

    pub next-halted : (f : Fault) → r.phase ≡ phases.Halted f → Adds source ranking (nexted (Err f)) r r
    next-halted f e rank b h nothing m p = cc p.state.0
    next-halted f e rank b h (asked question n) m p =
        let d = is_halted_lem (phase (bands rank question) b limits n) f (sym p.state.phase_is ∙ e) in
        stays rank b h question n m p (Err f) (sym d) (λ s. cc) (λ x k. said-halted x f k) refl

  -- a search that goes on
  pub next-searching : (r r' : Run S R) (reply : Reply) → r.phase ≡ phases.Searching → Kept source r r' → r'.phase ≡ phase_of (phase_by reply) → (GoesOn source ranking r → RepliesWith source ranking r reply r') → Adds source ranking (nexted reply) r r'
  next-searching r r' reply e kept phase_is gives rank b h nothing m p = cc p.state.0
  next-searching r r' reply e kept phase_is gives rank b h (asked question n) m p =
      let q = bands rank question in
      let a = p.state in
      let going = a.goes (is_searching_lem (phase q b limits n) (sym a.phase_is ∙ e)) in
      let same : query_of ranking.score r ≡ q = ap (λ x. bands x r.query.question) p.ranking_is ∙ ap (bands rank) a.question_is in
      let says : Goes q b (held r.waiting) (listing r.listed) r.opened → Gave q b (listing r.listed) reply (held r'.waiting) (listing r'.listed) r'.opened =
      subst (λ x. Goes x b (held r.waiting) (listing r.listed) r.opened → Gave x b (listing r.listed) reply (held r'.waiting) (listing r'.listed) r'.opened) same
      (subst (λ x. Goes (query_of ranking.score r) x (held r.waiting) (listing r.listed) r.opened → Gave (query_of ranking.score r) x (listing r.listed) reply (held r'.waiting) (listing r'.listed) r'.opened) p.source_is gives) in
      let g = says going.1 in
      let is : reply ≡ next q b limits n = g.gives ∙ ap (next q b limits) going.0 in
      record {
        source_is = kept.unchanged.same ∙ p.source_is;
        ranking_is = ap ranking.score kept.unchanged.ranking ∙ p.ranking_is;
        history = then (nexted reply) p.history (is, refl);
        listed_is = more-listed rank b h (asked question n) m r r' (nexted reply) p g.lists;
        state = record {
          question_is = kept.question ∙ a.question_is;
          phase_is = phase_is ∙ ap (λ x. phase_of (phase_by x)) is;
          opened_is = g.reads ∙ ap (λ k. length (opened_after q b limits (suc k))) going.0;
          metered = kept.metered m a.metered;
          goes = λ k. let on : phase_by reply ≡ histories.searching = ap phase_by is ∙ k in (ap length g.lists ∙ handed-one (listing r.listed) reply on ∙ ap suc going.0, inr (g.goes on));
        };
      }
