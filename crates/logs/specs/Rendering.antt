-- The one text of a ranking, a question and a row of stations.
use Rattle.std.specs.Prelude.{◌≡◌, ℕ, ◌+◌, ◌≤◌, true, List, [], ◌∷◌, ◌++◌, length, None, slice_index}
use Rattle.std.specs.List.{flat_map, AllByRecursion as Each}
use Rattle.stations.specs.declared.measures.Measures.{Measures}
use Rattle.stations.specs.declared.station.Station.{Station}
use Rattle.stations.specs.declared.question.Question.{Question}
use Rattle.stations.specs.Rows.{most_stations, repeat_fault}
use Rattle.stations.specs.Questions.{question_fault}
use Rattle.rankings.specs.declared.weights.Weights.{Weights}
use Rattle.rankings.specs.declared.weights.Ranker.{Ranker}
use Rattle.rankings.specs.declared.weights.Ranker.TheVariants.{Sum, Largest}
use Rattle.rankings.specs.Scores.{ranker_score}
use Rattle.logs.specs.Pieces.{join, comma, line_end}
use Rattle.logs.specs.Fields.{question_line, station_line, sum_letter, largest_letter, writing, admits, paired, pass}
use Rattle.logs.specs.Checks.{most_bytes, log_fault, score_in, question_in, row_in}
use Rattle.logs.specs.declared.field.FieldKind.{FieldKind}

-- the letter that names the ranking
abbrev pub letter_of : Ranker → ℕ
letter_of (Sum s) = sum_letter
letter_of (Largest s) = largest_letter

-- the ranking's weights
abbrev pub weights_of : Ranker → Weights
weights_of (Sum s) = s.weights
weights_of (Largest s) = s.weights

-- the weights, in order
abbrev pub weight_numbers : Weights → List ℕ
weight_numbers w = w.w1 ∷ w.w2 ∷ w.w3 ∷ w.w4 ∷ []

-- the four numbers from place i on, in order
abbrev pub weights_at : ℕ → List ℕ → List ℕ
weights_at i ns = slice_index ns i ∷ slice_index ns (i + 1) ∷ slice_index ns (i + 2) ∷ slice_index ns (i + 3) ∷ []

-- the measures, in order
abbrev pub measure_numbers : Measures → List ℕ
measure_numbers p = p.m1 ∷ p.m2 ∷ p.m3 ∷ p.m4 ∷ []

-- the numbers of the question's line; the letter is its byte
abbrev pub question_numbers : Ranker → Question → List ℕ
question_numbers r q = letter_of r ∷ q.k ∷ (measure_numbers q.region.low ++ (measure_numbers q.region.high ++ weight_numbers (weights_of r)))

-- the numbers of a station's line
abbrev pub station_numbers : Station → List ℕ
station_numbers s = s.number ∷ measure_numbers s.at

-- a line, with its end, that says these numbers
abbrev pub line_text : List FieldKind → List ℕ → List ℕ
line_text kinds ns = join comma (paired writing kinds ns) ++ line_end ∷ []

-- the question's line, and then a line for each station
unfoldable pub rendering : Ranker → Question → List Station → List ℕ
rendering r q row = line_text question_line (question_numbers r q) ++ flat_map (λ s. line_text station_line (station_numbers s)) row

-- what a log can hold: numbers in range, an accepted question, few enough stations, no number twice, and a text that is not too long
pub record Valid (r : Ranker) (q : Question) (row : List Station) : Type 0 where
  pub numbers : pass admits question_line (question_numbers r q) ≡ true
  pub stations : Each (λ s. pass admits station_line (station_numbers s) ≡ true) row
  pub accepted : question_fault q ≡ None
  pub few : length row ≤ most_stations
  pub distinct : repeat_fault [] 0 row ≡ None
  pub short : length (rendering r q row) ≤ most_bytes

-- some log has this text, and its row fits the room
pub record Rendered (room : ℕ) (text : List ℕ) : Type 0 where
  pub ranker : Ranker
  pub question : Question
  pub row : List Station
  pub valid : Valid ranker question row
  pub shown : text ≡ rendering ranker question row
  pub fits : length row ≤ room

-- the same ranking, question and row
pub record Same (r : Ranker) (q : Question) (row : List Station) (r' : Ranker) (q' : Question) (row' : List Station) : Type 0 where
  pub letter : letter_of r ≡ letter_of r'
  pub weights : weight_numbers (weights_of r) ≡ weight_numbers (weights_of r')
  pub question : q ≡ q'
  pub stations : row ≡ row'

-- what is read of a log's text is what the log holds
pub record Says {room : ℕ} {text : List ℕ} (l : Rendered room text) : Type 0 where
  pub score : score_in text ≡ ranker_score l.ranker
  pub question : question_in text ≡ l.question
  pub row : row_in text ≡ l.row

-- a text is accepted exactly where it is a rendering that fits the room; what is read of it is what was rendered; and it is the rendering of one log only
pub record AcceptsExactly : Type 0 where
  pub accepted : (room : ℕ) (text : List ℕ) → log_fault room text ≡ None → Rendered room text
  pub rendered : (room : ℕ) (text : List ℕ) → Rendered room text → log_fault room text ≡ None
  pub says : (room : ℕ) (text : List ℕ) (l : Rendered room text) → Says l
  pub once : (r : Ranker) (q : Question) (row : List Station) (r' : Ranker) (q' : Question) (row' : List Station) → Valid r q row → Valid r' q' row' → rendering r q row ≡ rendering r' q' row' → Same r q row r' q' row'
