-- Calls made on a new run, and what is promised after them.
use Rattle.std.specs.Prelude.{◌≡◌, ℕ, List, ◌++◌, map, Some, None, Ok, Err, Option, Result}
use Rattle.std.specs.List.{AllByRecursion as Each}
use Rattle.stations.specs.declared.measures.Measures.{Measures}
use Rattle.stations.specs.declared.question.Question.{Question}
use Rattle.stations.specs.declared.fault.Fault.{Fault}
use Rattle.stations.specs.declared.fault.Code.TheVariants.{NoSearch}
use Rattle.stations.specs.Faults.{placeless}
use Rattle.stations.specs.Questions.{question_fault}
use Rattle.rankings.specs.declared.Ranking.{Ghosts as Ranking}
use Rattle.books.specs.Books.{Book}
use Rattle.sources.specs.declared.PageSource.{Ghosts as PageSource}
use Rattle.promises.specs.Bands.{bands}
use Rattle.promises.specs.Histories.{Event, started, nexted, stopped, Standing, nothing, asked, Phase, done, halted, phase, Promised}
use Rattle.search.specs.declared.call.Call.{Call}
use Rattle.search.specs.declared.call.Call.TheVariants.{Start, Next, Stop}
use Rattle.search.specs.declared.run.Run.{Run}
use Rattle.waiting.specs.Held.{listing}
use Rattle.waiting.specs.States.{limits}
use Rattle.search.specs.Relation.{Produces, Told}

-- the call of an event
abbrev pub call_of : Event → Call
call_of (started question r) = Start question
call_of (nexted r) = Next
call_of (stopped r) = Stop

module _ {S R : Type 0} (source : PageSource S) (ranking : Ranking R) (rank : Measures → ℕ) (b : Book) (calls : List Call) (r : Run S R) where
  -- there is a history of exactly these calls, and the run holds what it should after it
  pub record Made : Type 0 where
    pub history : List Event
    pub stands : Standing
    pub metered_from : ℕ
    pub calls_are : map call_of history ≡ calls
    pub produces : Produces source.book source.meter ranking.score rank b history stands metered_from r

  -- and what is promised of the question that stands holds, with what the run has listed
  pub record Played : Type 0 where
    pub made : Made
    pub promised : (question : Question) (n : ℕ) → made.stands ≡ asked question n → (question_fault question ≡ None) × Promised (bands rank question) b limits n (listing r.listed)

-- how far a search has come that gave this at the last
abbrev pub end_of : Result (Unit {0}) Fault → Phase
end_of (Ok u) = done
end_of (Err f) = halted f

-- the reply of calling `next` to the end: that no search stands, or how the one that stands has ended
abbrev pub Ends : (Measures → ℕ) → Book → Standing → Result (Unit {0}) Fault → Type 0
Ends rank b nothing e = e ≡ Err (placeless NoSearch)
Ends rank b (asked question n) e = phase (bands rank question) b limits n ≡ end_of e

-- the question that stands, if one does
abbrev pub question_of : Standing → Option Question
question_of nothing = None
question_of (asked question n) = Some question

-- calls of `next`, to the end
pub record Driven {S R : Type 0} (book : S → Book) (meter : S → ℕ) (score : R → Measures → ℕ) (rank : Measures → ℕ) (b : Book) (h : List Event) (stood : Standing) (m : ℕ) (e : Result (Unit {0}) Fault) (r : Run S R) : Type 0 where
  pub events : List Event
  pub stands : Standing
  pub only_next : Each (λ x. call_of x ≡ Next) events
  pub same : question_of stands ≡ question_of stood
  pub produces : Produces book meter score rank b (h ++ events) stands m r
  pub ends : Ends rank b stands e
  pub promised : (question : Question) (n : ℕ) → stands ≡ asked question n → (question_fault question ≡ None) × Promised (bands rank question) b limits n (listing r.listed)

-- so after any calls
abbrev pub Drives : {S R : Type 0} → PageSource S → Ranking R → Run S R → Result (Unit {0}) Fault → Run S R → Type 0
Drives source ranking r e r' = Told source ranking r (λ rank b h stood m. Driven source.book source.meter ranking.score rank b h stood m e r')
