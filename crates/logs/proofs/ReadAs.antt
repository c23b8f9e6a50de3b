-- What an accepted text is read as.
use Rattle.std.proofs.Common.{◌≡◌, ℕ, ltb, List, length, take, None, ap, ◌∙◌, arith}
use Rattle.std.proofs.lemmas.Bool.{le-ltb}
use Rattle.stations.specs.declared.fault.Code.TheVariants.{TooManyStations}
use Rattle.stations.specs.Faults.{placeless, refuse_if}
use Rattle.stations.specs.Rows.{most_stations, zero_fault, row_fault}
use Rattle.stations.specs.declared.measures.Measures.{Measures}
use Rattle.stations.specs.declared.station.Station.{Station}
use Rattle.stations.specs.declared.question.Question.{Question}
use Rattle.rankings.specs.declared.weights.Ranker.{Ranker}
use Rattle.rankings.specs.Scores.{ranker_score}
use Rattle.logs.specs.declared.log.Log.{Log}
use Rattle.logs.specs.Checks.{score_in, question_in, row_in}
use Rattle.logs.specs.Rendering.{Valid, Rendered, Says}
use Rattle.logs.specs.Reading.{Accepted}
use Rattle.logs.proofs.Laws.{says}
use Rattle.logs.proofs.Texts.{zero-none}
use Rattle.logs.proofs.Verdicts.{after_none}

pub valid-row : (r : Ranker) (q : Question) (row : List Station) → Valid r q row → row_fault row ≡ None
valid-row r q row v =
    after_none (refuse_if (ltb most_stations (length row)) (placeless TooManyStations)) _ (ap (λ x. refuse_if x (placeless TooManyStations)) (le-ltb most_stations (length row) v.few))
    ∙ after_none (zero_fault 0 row) _ (zero-none 0 row v.stations) ∙ v.distinct

module _ {text : List ℕ} {before after : List Station} {log : Log} (a : Accepted text before after log) where
  abbrev held : Rendered (length (take log.count after)) text
  held = record { ranker = log.ranking; question = log.question; row = take log.count after; valid = a.valid; shown = a.shown; fits = omega arith }

  -- whatever is made of the text is made of the log and the first stations of the row
  pub read_as : {A : Type 0} (f : (Measures → ℕ) → Question → List Station → A) → f (score_in text) (question_in text) (row_in text) ≡ f (ranker_score log.ranking) log.question (take log.count after)
  read_as f =
      let s : Says held = says _ text held in
      let row : row_in text ≡ take log.count after = s.row in
      λ i. f (s.score i) (s.question i) (row i)

  -- the row can be read as a book
  pub row-sound : row_fault (take log.count after) ≡ None
  row-sound = valid-row log.ranking log.question (take log.count after) a.valid
