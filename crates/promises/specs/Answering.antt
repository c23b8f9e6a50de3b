-- What the answer over a row of stations is, apart from how it is found.
use Rattle.std.specs.Prelude.{◌≡◌, ℕ, Bool, false, ◌&&◌, List}
use Rattle.stations.specs.declared.measures.Measures.{Measures}
use Rattle.stations.specs.declared.station.Station.{Station}
use Rattle.stations.specs.declared.question.Question.{Question}
use Rattle.stations.specs.Play.{in_play}
use Rattle.stations.specs.Counting.{count}
use Rattle.stations.specs.Answers.{field, few, earlier, answer}
use Rattle.books.specs.Lists.{Pairwise}

-- no station of the list has a key before that of one in front of it
abbrev pub InOrder : (Measures → ℕ) → List Station → Type 0
InOrder rank ss = Pairwise (λ s t. earlier rank t s ≡ false) ss

-- the answer is in key order; and whatever is asked of a station, it holds of as many in the answer as it holds of stations in the row that are in play and that fewer than k stations in play beat
pub record Answers (rank : Measures → ℕ) (q : Question) (row : List Station) : Type 0 where
  pub ordered : InOrder rank (answer rank q row)
  pub holds : (t : Station → Bool) → count t (answer rank q row) ≡ count (λ s. in_play q s && (few q.k (field q row) s.at && t s)) row

abbrev pub AnswersAreBands : Type 0
AnswersAreBands = (rank : Measures → ℕ) (q : Question) (row : List Station) → Answers rank q row
