-- One call more.
use Rattle.std.proofs.Common.{◌≡◌, ℕ, ◌+◌, ◌<◌, List, [], ◌∷◌, ◌++◌, length, get_or, take, sym, refl, ap, ◌∙◌, subst}
use Rattle.std.proofs.lemmas.List.{map_push, take_more}
use Rattle.stations.specs.declared.measures.Measures.{Measures}
use Rattle.rankings.specs.declared.Ranking.{Ghosts as Ranking}
use Rattle.books.specs.Books.{Book, Lawful}
use Rattle.sources.specs.declared.PageSource.{Ghosts as PageSource}
use Rattle.promises.specs.Bands.{bands, Monotone}
use Rattle.promises.specs.Histories.{Event, Standing, nothing, Promised}
use Rattle.promises.proofs.Histories.{every-history}
use Rattle.search.specs.declared.call.Call.{Call}
use Rattle.search.specs.declared.run.Run.{Run}
use Rattle.waiting.specs.States.{limits}
use Rattle.search.specs.Relation.{Produces, after, meter_after, Adds}
use Rattle.search.specs.Playing.{call_of, Made, Played}

module _ {S R : Type 0} (source : PageSource S) (ranking : Ranking R) (rank : Measures → ℕ) (b : Book) where
  pub made_more : (calls : List Call) (r r' : Run S R) → Made source ranking rank b calls r → (e : Event) (call : Call) → call ≡ call_of e → Adds source ranking e r r' → Made source ranking rank b (calls ++ call ∷ []) r'
  made_more calls r r' made e call is adds = record {
    history = made.history ++ e ∷ [];
    stands = after e made.stands;
    metered_from = meter_after e (source.meter r.source) made.metered_from;
    calls_are = map_push call_of made.history e ∙ ap (λ cs. cs ++ call_of e ∷ []) made.calls_are ∙ ap (λ x. calls ++ x ∷ []) (sym is);
    produces = adds rank b made.history made.stands made.metered_from made.produces;
  }

  pub made_none : (m : ℕ) (r : Run S R) → Produces source.book source.meter ranking.score rank b [] nothing m r → Made source ranking rank b [] r
  made_none m r p = record { history = []; stands = nothing; metered_from = m; calls_are = refl; produces = p }

  pub made-next : (calls : List Call) (i : ℕ) (d : Call) (r : Run S R) → i < length calls → Made source ranking rank b (take i calls ++ get_or calls i d ∷ []) r → Made source ranking rank b (take (i + 1) calls) r
  made-next calls i d r l h = subst (λ cs. Made source ranking rank b cs r) (sym (take_more calls i d l)) h

  pub played : Monotone rank → Lawful b → (calls : List Call) (r : Run S R) → Made source ranking rank b calls r → Played source ranking rank b calls r
  played mono lawful calls r made = record {
    made = made;
    promised = λ question n e.
        let k = every-history rank mono b lawful limits made.history question n (subst (Rattle.promises.specs.Histories.History rank b limits made.history) e made.produces.history) in
        (k.0, subst (Promised (bands rank question) b limits n) (sym made.produces.listed_is) k.1);
  }

-- the ranking and the source that a run was made with
pub made_with : {S R : Type 0} (source : PageSource S) (ranking : Ranking R) (x x' : S) (y y' : R) (calls : List Call) (r : Run S R) → x ≡ x' → y ≡ y' → Made source ranking (ranking.score y) (source.book x) calls r → Made source ranking (ranking.score y') (source.book x') calls r
made_with source ranking x x' y y' calls r e f h = subst (λ z. Made source ranking (ranking.score z) (source.book x') calls r) f (subst (λ z. Made source ranking (ranking.score y) (source.book z) calls r) e h)
