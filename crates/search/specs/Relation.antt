-- What a run shows of the calls that were made on it.
use Rattle.std.specs.Prelude.{◌≡◌, ℕ, suc, ◌+◌, ◌%◌, ◌^◌, List, [], ◌∷◌, ◌++◌, length, Some, None, Option}
use Rattle.stations.specs.declared.measures.Measures.{Measures}
use Rattle.stations.specs.declared.question.Question.{Question}
use Rattle.stations.specs.declared.fault.Fault.{Fault}
use Rattle.stations.specs.Questions.{question_fault}
use Rattle.rankings.specs.declared.Ranking.{Ghosts as Ranking}
use Rattle.books.specs.Books.{Book}
use Rattle.sources.specs.declared.PageSource.{Ghosts as PageSource}
use Rattle.promises.specs.Bands.{bands}
use Rattle.promises.specs.Searching.{opened_after}
use Rattle.promises.specs.Histories as histories
use Rattle.promises.specs.Histories.{Event, started, nexted, stopped, Standing, nothing, asked, after_start, History, handed_in, phase}
use Rattle.search.specs.declared.run.Phase.{Phase}
use Rattle.search.specs.declared.run.Phase.TheVariants as phases
use Rattle.search.specs.declared.run.Run.{Run}
use Rattle.waiting.specs.Held.{held, listing}
use Rattle.waiting.specs.States.{limits, Goes}

-- the phase of a run whose search has come so far
abbrev pub phase_of : histories.Phase → Phase
phase_of histories.searching = phases.Searching
phase_of histories.done = phases.Done
phase_of (histories.halted f) = phases.Halted f

-- where the meter stood when the search that stands was started: a start that is refused leaves it
abbrev pub meter_from : Option Fault → ℕ → ℕ → ℕ
meter_from (Some f) old new = old
meter_from None old new = new

-- what stands after a call of `next`
abbrev pub after_next : Standing → Standing
after_next nothing = nothing
after_next (asked question n) = asked question (suc n)

-- the pages opened for what stands
abbrev pub pages_opened : (Measures → ℕ) → Book → Standing → List ℕ
pages_opened rank b nothing = []
pages_opened rank b (asked question n) = opened_after (bands rank question) b limits n

module _ {S R : Type 0} (book : S → Book) (meter : S → ℕ) (score : R → Measures → ℕ) (rank : Measures → ℕ) (b : Book) where
  -- a run with a question that stands, after n calls of `next`; the meter stood at m at the start
  pub record Asked (question : Question) (n m : ℕ) (r : Run S R) : Type 0 where
    pub question_is : r.query.question ≡ question
    pub phase_is : r.phase ≡ phase_of (phase (bands rank question) b limits n)
    pub opened_is : r.opened ≡ length (opened_after (bands rank question) b limits n)
    -- the source was read for the pages opened, and for nothing else
    pub metered : meter r.source ≡ (m + r.opened) % 2 ^ 64
    -- while the search goes on, each call has handed out a station, and what waits is what the definition says
    pub goes : phase (bands rank question) b limits n ≡ histories.searching → (length (listing r.listed) ≡ n) × Goes (bands rank question) b (held r.waiting) (listing r.listed) r.opened

  -- with none standing nothing is opened and nothing listed
  abbrev pub Stands : Standing → ℕ → Run S R → Type 0
  Stands nothing m r = (r.phase ≡ phases.None) × (r.opened ≡ 0) × (length (listing r.listed) ≡ 0)
  Stands (asked question n) m r = Asked question n m r

  -- the calls of the history were made on the run, with those answers, and this is what it holds after them
  pub record Produces (h : List Event) (stands : Standing) (m : ℕ) (r : Run S R) : Type 0 where
    pub source_is : book r.source ≡ b
    pub ranking_is : score r.query.ranking ≡ rank
    pub history : History rank b limits h stands
    pub listed_is : listing r.listed ≡ handed_in [] h
    pub state : Stands stands m r

-- what stands after a call
abbrev pub after : Event → Standing → Standing
after (started question r) stood = after_start question (question_fault question) stood
after (nexted r) stood = after_next stood
after (stopped r) stood = nothing

-- where the meter stood when the search that stands was started, after a call made while it stands at `now`
abbrev pub meter_after : Event → ℕ → ℕ → ℕ
meter_after (started question r) now m = meter_from (question_fault question) m now
meter_after (nexted r) now m = m
meter_after (stopped r) now m = m

module _ {S R : Type 0} (source : PageSource S) (ranking : Ranking R) where
  -- P of the calls that were made on the run, whatever they were
  abbrev pub Told : Run S R → ((Measures → ℕ) → Book → List Event → Standing → ℕ → Type 0) → Type 0
  Told r P = (rank : Measures → ℕ) (b : Book) (h : List Event) (stood : Standing) (m : ℕ) → Produces source.book source.meter ranking.score rank b h stood m r → P rank b h stood m

  -- a call with this answer is one more, whatever was called before
  abbrev pub Adds : Event → Run S R → Run S R → Type 0
  Adds e r r' = Told r (λ rank b h stood m. Produces source.book source.meter ranking.score rank b (h ++ e ∷ []) (after e stood) (meter_after e (source.meter r.source) m) r')
