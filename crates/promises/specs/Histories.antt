-- What a run was called for and what it answered, and what stands after it.
use Rattle.std.specs.Prelude.{◌≡◌, ℕ, zero, suc, ◌≤◌, List, [], ◌∷◌, ◌++◌, length, Some, None, Ok, Err, Option, Result, ◌≢◌}
use Rattle.std.specs.List.{AllByRecursion as Each}
use Rattle.stations.specs.declared.measures.Measures.{Measures}
use Rattle.stations.specs.declared.station.Station.{Station}
use Rattle.stations.specs.declared.question.Question.{Question}
use Rattle.stations.specs.declared.fault.Fault.{Fault}
use Rattle.stations.specs.declared.fault.Code.TheVariants.{NoSearch, DeadPage}
use Rattle.stations.specs.Faults.{fault, placeless, verdict}
use Rattle.stations.specs.Questions.{question_fault}
use Rattle.books.specs.Lists.{◌∈◌}
use Rattle.books.specs.Books.{Book, dead, slot, Lawful, Whole}
use Rattle.promises.specs.Queries.{Query, answer}
use Rattle.promises.specs.Bands.{bands, Monotone}
use Rattle.promises.specs.Settling.{Keeps, Settles}
use Rattle.promises.specs.Opening.{opened}
use Rattle.promises.specs.Searching.{Limits, opened_bound, last_reply, ending, handed, next, opened_after, Within}
use Rattle.promises.specs.Promises.{Begins, Decides}

-- a call with its answer
pub data Event : Type 0 where
  started : Question → Result (Unit {0}) Fault → Event
  nexted : Result (Option Station) Fault → Event
  stopped : Result (Unit {0}) Fault → Event

-- what stands: no search, or one for a question, with how often `next` was called since it was started
pub data Standing : Type 0 where
  nothing : Standing
  asked : Question → ℕ → Standing

-- a question that is refused leaves what stood
abbrev pub after_start : Question → Option Fault → Standing → Standing
after_start question (Some f) stood = stood
after_start question None stood = asked question 0

-- one call, its answer, and what stands after it
abbrev pub Takes : (Measures → ℕ) → Book → Limits → Standing → Event → Standing → Type 0
Takes rank b limits stood (started question r) stands = (r ≡ verdict (question_fault question)) × (stands ≡ after_start question (question_fault question) stood)
Takes rank b limits nothing (nexted r) stands = (r ≡ Err (placeless NoSearch)) × (stands ≡ nothing)
Takes rank b limits (asked question n) (nexted r) stands = (r ≡ next (bands rank question) b limits n) × (stands ≡ asked question (suc n))
Takes rank b limits nothing (stopped r) stands = (r ≡ Err (placeless NoSearch)) × (stands ≡ nothing)
Takes rank b limits (asked question n) (stopped r) stands = (r ≡ Ok tt) × (stands ≡ nothing)

-- the calls on a new run, in turn, and what stands after them
pub data History (rank : Measures → ℕ) (b : Book) (limits : Limits) : List Event → Standing → Type 0 where
  new : History rank b limits [] nothing
  then : {h : List Event} {stood stands : Standing} (e : Event) → History rank b limits h stood → Takes rank b limits stood e stands → History rank b limits (h ++ e ∷ []) stands

-- the stations handed out for the question that stands: an answered `next` adds one, a start that is not refused and a stop leave none
abbrev pub handing : List Station → Event → List Station
handing ss (started question (Ok u)) = []
handing ss (started question (Err f)) = ss
handing ss (nexted (Ok (Some s))) = ss ++ s ∷ []
handing ss (nexted (Ok None)) = ss
handing ss (nexted (Err f)) = ss
handing ss (stopped (Ok u)) = []
handing ss (stopped (Err f)) = ss

-- so at every call, in turn
abbrev pub handed_in : List Station → List Event → List Station
handed_in ss [] = ss
handed_in ss (e ∷ es) = handed_in (handing ss e) es

-- how far the search that stands has come
pub data Phase : Type 0 where
  searching : Phase
  done : Phase
  halted : Fault → Phase

-- what the last reply of `next` says of it
abbrev pub phase_by : Result (Option Station) Fault → Phase
phase_by (Ok (Some s)) = searching
phase_by (Ok None) = done
phase_by (Err f) = halted f

-- after n calls of `next`
abbrev pub phase : Query → Book → Limits → ℕ → Phase
phase q b limits zero = searching
phase q b limits (suc n) = phase_by (next q b limits n)

-- what is promised after n calls of `next`, with these stations handed out
pub record Promised (q : Query) (b : Book) (limits : Limits) (n : ℕ) (out : List Station) : Type 0 where
  -- every whole lawful book with the live pages opened so far has an answer that begins with them
  pub sound : (w : Book) → Keeps b (opened_after q b limits n) w → Begins out (answer q w)
  -- and after done it has exactly that answer
  pub sound_done : phase q b limits n ≡ done → (w : Book) → Keeps b (opened_after q b limits n) w → answer q w ≡ out
  -- a set of live pages that settles the question holds every page opened so far, and has at least as many
  pub frugal : (ps : List ℕ) → Settles q b ps → Each (λ p. p ∈ ps) (opened_after q b limits n) × (length (opened_after q b limits n) ≤ length ps)
  -- after done, the pages opened settle the question
  pub settled : phase q b limits n ≡ done → Settles q b (opened_after q b limits n)
  -- a halt within the limits names a dead page, and nothing settles the question
  pub unsettled : Within q b limits → (f : Fault) → phase q b limits n ≡ halted f → (p : ℕ) × (f ≡ fault DeadPage p 0) × (slot b p ≡ dead) × ((ps : List ℕ) → Settles q b ps → ⊥)
  -- so, driven on within the limits, it comes to be done exactly when some set of live pages settles the question, and names a dead page otherwise
  pub decides : Within q b limits → Decides q b limits
  -- over a whole book and within the limits there is no halt, and after done the answer was handed out
  pub exact : Whole b → Within q b limits → ((f : Fault) → phase q b limits n ≢ halted f) × (phase q b limits n ≡ done → out ≡ answer q b)
  -- a search that has ended stays ended: the same reply again, and no page more
  pub stays : (phase q b limits n ≢ searching) → (phase q b limits (suc n) ≡ phase q b limits n) × (opened_after q b limits (suc n) ≡ opened_after q b limits n)
  -- and it has come to all that the row says: the end, every station before it, and every page as far as it
  pub ended : (phase q b limits n ≢ searching) → (phase q b limits n ≡ phase_by (last_reply (ending q b limits))) × (out ≡ handed q b limits) × (opened_after q b limits n ≡ opened q b (opened_bound (ending q b limits)))

-- the promise of every run, for every monotone ranking, every lawful book, every pair of limits and every history: the question that stands was not refused, and what is promised of it holds
abbrev pub EveryHistory : Type 0
EveryHistory = (rank : Measures → ℕ) → Monotone rank → (b : Book) → Lawful b → (limits : Limits) (h : List Event) (question : Question) (n : ℕ) → History rank b limits h (asked question n) →
    (question_fault question ≡ None) × Promised (bands rank question) b limits n (handed_in [] h)
