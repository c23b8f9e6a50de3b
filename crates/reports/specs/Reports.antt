-- What is printed of a log's text.
use Rattle.std.specs.Prelude.{◌≡◌, ℕ, List, Some, None, Ok, Err, Option, Result}
use Rattle.stations.specs.declared.fault.Fault.{Fault}
use Rattle.stations.specs.declared.station.Station.{Station}
use Rattle.stations.specs.declared.question.Question.{Question}
use Rattle.stations.specs.Rows.{most_stations}
use Rattle.stations.specs.Answers.{answer}
use Rattle.rankings.specs.declared.weights.Ranker.{Ranker}
use Rattle.rankings.specs.Scores.{ranker_score}
use Rattle.logs.specs.Checks.{log_fault, score_in, question_in, row_in}
use Rattle.logs.specs.Rendering.{Rendered}
use Rattle.printing.specs.declared.report.Report.{Report}
use Rattle.printing.specs.Reports.{length_of}
use Rattle.printing.specs.Printed.{listing, refusal, refused_or, Printed}

-- the answer over a row, as it is printed
abbrev pub answer_lines : Ranker → Question → List Station → List ℕ
answer_lines r q row = listing (ranker_score r) (answer (ranker_score r) q row)

-- the answer to the question that a log holds, as it is printed
abbrev pub listed : {text : List ℕ} → Rendered most_stations text → List ℕ
listed l = answer_lines l.ranker l.question l.row

-- these bytes are to be printed of the text: it is the rendering of a log, and they list its answer; or they are its first refusal
pub data Printout (text bytes : List ℕ) : Type 0 where
  answered : (l : Rendered most_stations text) → bytes ≡ listed l → Printout text bytes
  refused : (f : Fault) → log_fault most_stations text ≡ Some f → bytes ≡ refusal f → Printout text bytes

-- n bytes are printed: of the answer to the log that the text renders, or of the refusal, which is the text's first
abbrev pub Tells : List ℕ → List ℕ → List ℕ → Option Fault → ℕ → Type 0
Tells text was is None n = (l : Rendered most_stations text) × Printed (listed l) was is (Ok n)
Tells text was is (Some f) n = (log_fault most_stations text ≡ Some f) × Printed (refusal f) was is (Ok n)

-- the report says which of the two was printed, and how many bytes; a buffer that is too short for them is refused
abbrev pub Reported : List ℕ → List ℕ → List ℕ → Result Report Fault → Type 0
Reported text was is (Ok r) = Tells text was is r.refusal r.len
Reported text was is (Err e) = (bytes : List ℕ) × Printout text bytes × Printed bytes was is (Err e)

-- what is printed of a text, from its bytes alone: its refusal, or the answer to its question over its row
abbrev pub report_lines : List ℕ → List ℕ
report_lines text = refused_or (log_fault most_stations text) (listing (score_in text) (answer (score_in text) (question_in text) (row_in text)))

-- how many bytes were printed, of either
abbrev pub length_in : Result Report Fault → Result ℕ Fault
length_in (Ok r) = Ok (length_of r)
length_in (Err f) = Err f
