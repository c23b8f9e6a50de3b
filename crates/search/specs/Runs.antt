-- What the calls of a run keep, what they come to, and what is left to do.
use Rattle.std.specs.Prelude.{◌≡◌, ℕ, ◌+◌, ◌-◌, ◌*◌, ◌%◌, ◌^◌, List, length, Some, None, Ok, Err, Option, Result}
use Rattle.std.specs.declared.ops.ControlFlow.{ControlFlow}
use Rattle.std.specs.declared.ops.ControlFlow.TheVariants.{Continue, Break}
use Rattle.stations.specs.declared.measures.Measures.{Measures}
use Rattle.stations.specs.declared.station.Station.{Station}
use Rattle.stations.specs.declared.fault.Fault.{Fault}
use Rattle.rankings.specs.declared.Ranking.{Ghosts as Ranking}
use Rattle.sources.specs.declared.PageSource.{Ghosts as PageSource}
use Rattle.promises.specs.Bounds.{Bound}
use Rattle.promises.specs.Queries.{Query}
use Rattle.promises.specs.Histories.{nexted, handing}
use Rattle.waiting.specs.Asking.{bands_of}
use Rattle.waiting.specs.Held.{held, listing}
use Rattle.waiting.specs.States as states
use Rattle.waiting.specs.States.{Reply}
use Rattle.search.specs.declared.run.Run.{Run}

module _ {S R : Type 0} where
  -- what is left to do, at most: a page has 12 entries
  abbrev pub left : Run S R → ℕ
  left r = 13 * (256 - r.opened) + length (held r.waiting)

  -- what no call changes: the book, its page count and the ranking
  pub record Unchanged (source : PageSource S) (r r' : Run S R) : Type 0 where
    pub same : source.book r'.source ≡ source.book r.source
    pub counted : source.pages r'.source ≡ source.pages r.source
    pub ranking : r'.query.ranking ≡ r.query.ranking

  -- what `next` does not change: the question too, and the meter rises by the pages opened
  pub record Kept (source : PageSource S) (r r' : Run S R) : Type 0 where
    pub unchanged : Unchanged source r r'
    pub question : r'.query.question ≡ r.query.question
    pub metered : (m : ℕ) → source.meter r.source ≡ (m + r.opened) % 2 ^ 64 → source.meter r'.source ≡ (m + r'.opened) % 2 ^ 64

-- the question of a run, as the theory sees it
abbrev pub query_of : {S R : Type 0} → (R → Measures → ℕ) → Run S R → Query
query_of score r = bands_of score r.query

-- the reply that a turn comes to, or none where the search goes on
abbrev pub said : Result (ControlFlow (Option Station) (Unit {0})) Fault → Option Reply
said (Ok (Continue u)) = None
said (Ok (Break found)) = Some (Ok found)
said (Err f) = Some (Err f)

-- the stations listed after a turn
abbrev pub listed_by : List Station → Option Reply → List Station
listed_by ss None = ss
listed_by ss (Some r) = handing ss (nexted r)

module _ {S R : Type 0} (source : PageSource S) (ranking : Ranking R) where
  -- the search of a run has come as far as the bound
  abbrev pub StandsAt : Bound → Run S R → Type 0
  StandsAt u r = states.At (query_of ranking.score r) (source.book r.source) u (held r.waiting) (listing r.listed) r.opened

  -- it has opened no page yet, or stands at a bound
  abbrev pub GoesOn : Run S R → Type 0
  GoesOn r = states.Goes (query_of ranking.score r) (source.book r.source) (held r.waiting) (listing r.listed) r.opened

  -- what opening the page p comes to, and the run after it
  abbrev pub OpensTo : Run S R → ℕ → Result (Unit {0}) Fault → Run S R → Type 0
  OpensTo r p o r' = states.Opens (query_of ranking.score r) (source.book r.source) (source.pages r.source) p (listing r.listed) (held r.waiting) (held r'.waiting) r.opened r'.opened o

  -- what a turn comes to, and the run after it
  abbrev pub TurnsTo : Run S R → Option Reply → Run S R → Type 0
  TurnsTo r o r' = states.Turned (query_of ranking.score r) (source.book r.source) (listing r.listed) o (held r'.waiting) (listing r'.listed) r'.opened

  -- a reply, and the run after it
  abbrev pub RepliesWith : Run S R → Reply → Run S R → Type 0
  RepliesWith r reply r' = states.Gave (query_of ranking.score r) (source.book r.source) (listing r.listed) reply (held r'.waiting) (listing r'.listed) r'.opened
