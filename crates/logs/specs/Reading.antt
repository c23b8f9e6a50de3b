-- What reading a log gives.
use Rattle.std.specs.Prelude.{◌≡◌, ℕ, ◌≤◌, List, length, take, drop, Some, None}
use Rattle.stations.specs.declared.fault.Fault.{Fault}
use Rattle.stations.specs.declared.station.Station.{Station}
use Rattle.stations.specs.declared.question.Question.{Question}
use Rattle.stations.specs.Rows.{most_stations}
use Rattle.rankings.specs.declared.weights.Ranker.{Ranker}
use Rattle.logs.specs.Pieces.{lines_of}
use Rattle.logs.specs.Fields.{question_line}
use Rattle.logs.specs.Checks.{log_fault, lines_fault, stations_fault, numbers_of, first_of, later_of, stations_in}
use Rattle.logs.specs.Rendering.{rendering, question_numbers, Valid}
use Rattle.logs.specs.declared.log.Log.{Log}

-- the question's line is accepted: what it says, and what follows it
pub record Headed (text : List ℕ) (ranking : Ranker) (question : Question) (rest : List ℕ) : Type 0 where
  pub decides : lines_fault (lines_of text) ≡ stations_fault 2 (lines_of rest)
  pub later : later_of (lines_of text) ≡ lines_of rest
  pub numbers : question_numbers ranking question ≡ numbers_of question_line (first_of (lines_of text))

-- the stations' lines are accepted, and these are their stations
pub record Filled (text : List ℕ) (row : List Station) : Type 0 where
  pub few : length row ≤ most_stations
  pub decides : stations_fault 2 (lines_of text) ≡ None
  pub stations : row ≡ stations_in (lines_of text)

-- an accepted text: the buffer now begins with its stations, and the rest of it is as it was
pub record Accepted (text : List ℕ) (before after : List Station) (log : Log) : Type 0 where
  pub accepted : log_fault (length before) text ≡ None
  pub shown : text ≡ rendering log.ranking log.question (take log.count after)
  pub valid : Valid log.ranking log.question (take log.count after)
  pub fits : log.count ≤ length before
  pub rest : drop log.count after ≡ drop log.count before

-- a refused text: the first refusal in checking order, and the buffer is as it was
pub record Refused (text : List ℕ) (before after : List Station) (f : Fault) : Type 0 where
  pub refused : log_fault (length before) text ≡ Some f
  pub kept : after ≡ before
