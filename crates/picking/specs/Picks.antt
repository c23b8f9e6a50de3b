-- What is printed of a question that is asked of a book and driven to its end.
use Rattle.std.specs.Prelude.{◌≡◌, ℕ, suc, List, length, Some, None, Ok, Err, Option, Result}
use Rattle.stations.specs.declared.measures.Measures.{Measures}
use Rattle.stations.specs.declared.question.Question.{Question}
use Rattle.stations.specs.declared.fault.Fault.{Fault}
use Rattle.stations.specs.Faults.{or_else}
use Rattle.stations.specs.Questions.{question_fault}
use Rattle.stations.specs.Rows.{most_stations}
use Rattle.stations.specs.Answers.{answer}
use Rattle.rankings.specs.Scores.{ranker_score}
use Rattle.books.specs.Books.{Book}
use Rattle.rolls.specs.Rolls.{roll_book}
use Rattle.stored.specs.Loading.{load_fault, spelled_book}
use Rattle.logs.specs.Checks.{log_fault, score_in, question_in, row_in}
use Rattle.logs.specs.Rendering.{Rendered}
use Rattle.printing.specs.declared.closing.Closing.{Closing}
use Rattle.printing.specs.declared.closing.Closing.TheVariants as closing
use Rattle.printing.specs.Printed.{closing_line, closed_listing, refused_or}
use Rattle.promises.specs.Bands.{bands}
use Rattle.promises.specs.Queries.{Query}
use Rattle.promises.specs.Opening.{opened}
use Rattle.promises.specs.Searching.{Ending, done, halted, opened_bound, ending, handed, Within}
use Rattle.promises.specs.Histories.{Promised}
use Rattle.waiting.specs.States.{limits}

-- why a search that ends so is not done, if it is not
abbrev pub halt_of : Ending → Option Fault
halt_of done = None
halt_of (halted f κ) = Some f

-- how it closes, with so many pages opened
abbrev pub closing_of : Ending → ℕ → Closing
closing_of done pages = closing.Done pages
closing_of (halted f κ) pages = closing.Refused f

-- the same, by what driving the search gave
abbrev pub fault_in : Result (Unit {0}) Fault → Option Fault
fault_in (Ok u) = None
fault_in (Err f) = Some f

abbrev pub closing_at : Result (Unit {0}) Fault → ℕ → Closing
closing_at (Ok u) pages = closing.Done pages
closing_at (Err f) pages = closing.Refused f

-- how many pages a search has opened at its end
abbrev pub pages_at_end : Query → Book → ℕ
pages_at_end q b = length (opened q b (opened_bound (ending q b limits)))

module _ (rank : Measures → ℕ) (b : Book) (question : Question) where
  -- the refusal of the question, or what halts its search
  abbrev pub search_fault : Option Fault
  search_fault = or_else (question_fault question) (halt_of (ending (bands rank question) b limits))

  -- the refusal of the question; or the stations that its search hands out, in order, and how it ends
  abbrev pub search_lines : List ℕ
  search_lines =
      refused_or (question_fault question)
      (closed_listing rank (closing_line (closing_of (ending (bands rank question) b limits) (pages_at_end (bands rank question) b))) (handed (bands rank question) b limits))

  -- what is promised of a search at its end, if the question is not refused
  abbrev pub KeepsPromises : Type 0
  KeepsPromises = question_fault question ≡ None → Promised (bands rank question) b limits (suc (length (handed (bands rank question) b limits))) (handed (bands rank question) b limits)

-- of a log's text: its refusal, or the search over the roll of its stations
abbrev pub pick_fault : List ℕ → Option Fault
pick_fault text = or_else (log_fault most_stations text) (search_fault (score_in text) (roll_book (row_in text)) (question_in text))

abbrev pub pick_lines : List ℕ → List ℕ
pick_lines text = refused_or (log_fault most_stations text) (search_lines (score_in text) (roll_book (row_in text)) (question_in text))

-- of a stored book and a question's text: the text has no station, so a log of none
abbrev pub ask_fault : List ℕ → List ℕ → Option Fault
ask_fault book text = or_else (log_fault 0 text) (or_else (load_fault book) (search_fault (score_in text) (spelled_book book) (question_in text)))

abbrev pub ask_lines : List ℕ → List ℕ → List ℕ
ask_lines book text = refused_or (or_else (log_fault 0 text) (load_fault book)) (search_lines (score_in text) (spelled_book book) (question_in text))

-- of a log within the limits, what is printed is the answer to its question over its stations, in key order, and done
abbrev pub PicksAnswer : List ℕ → Type 0
PicksAnswer text = (l : Rendered most_stations text) → Within (bands (ranker_score l.ranker) l.question) (roll_book l.row) limits →
    (pages : ℕ) × (pick_lines text ≡ closed_listing (ranker_score l.ranker) (closing_line (closing.Done pages)) (answer (ranker_score l.ranker) l.question l.row))
