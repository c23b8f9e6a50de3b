-- From a text and a book to what is printed of them.
use Rattle.std.proofs.Common.{◌≡◌, ℕ, cond, not, List, take, is_some, Some, None, Ok, Err, Option, Result, sym, refl, ap, ◌∙◌, arith}
use Rattle.stations.specs.declared.station.Station.{Station}
use Rattle.stations.specs.declared.fault.Fault.{Fault}
use Rattle.stations.specs.Faults.{or_else, verdict}
use Rattle.stations.specs.Rows.{most_stations}
use Rattle.rankings.specs.Scores.{ranker_score}
use Rattle.books.specs.Books.{Book}
use Rattle.rolls.specs.Rolls.{roll_book}
use Rattle.stored.specs.Loading.{load_fault, loads, spelled_book}
use Rattle.logs.specs.declared.log.Log.{Log}
use Rattle.logs.specs.Checks.{log_fault, score_in, question_in, row_in}
use Rattle.logs.specs.Reading.{Accepted}
use Rattle.logs.proofs.ReadAs.{read_as}
use Rattle.printing.specs.Printed.{refusal, refused_or}
use Rattle.picking.specs.Picks.{search_fault, search_lines, pick_fault, pick_lines, ask_fault, ask_lines}

pub never_refused : {P : Type 0} (f : Fault) (o : Option Fault) → ◌≡◌ {A = Result (Unit {0}) Fault} (Err f) (verdict o) → o ≡ None → P
never_refused f o h none = let k : ◌≡◌ {A = Result (Unit {0}) Fault} (Err f) (Ok tt) = h ∙ ap verdict none in let z : ◌≡◌ {A = ℕ} 0 1 = cc in absurd (omega arith)

or_else_lem : (a b c : Option Fault) → or_else (or_else a b) c ≡ or_else a (or_else b c)
or_else_lem (Some f) b c = refl
or_else_lem None b c = refl

module _ {text : List ℕ} {before after : List Station} {log : Log} (a : Accepted text before after log) where
  -- a log's text comes to the search over the roll of its row
  pub picked : log_fault most_stations text ≡ None → (b : Book) → b ≡ roll_book (take log.count after) → (pick_fault text ≡ search_fault (ranker_score log.ranking) b log.question) × (pick_lines text ≡ search_lines (ranker_score log.ranking) b log.question)
  picked none b is = (
    ap (λ o. or_else o (search_fault (score_in text) (roll_book (row_in text)) (question_in text))) none
        ∙ read_as a (λ rank question row. search_fault rank (roll_book row) question) ∙ ap (λ x. search_fault (ranker_score log.ranking) x log.question) (sym is),
    ap (λ o. refused_or o (search_lines (score_in text) (roll_book (row_in text)) (question_in text))) none
        ∙ read_as a (λ rank question row. search_lines rank (roll_book row) question) ∙ ap (λ x. search_lines (ranker_score log.ranking) x log.question) (sym is),
  )

  -- a question's text comes to the search over the book that the bytes spell
  pub asked : log_fault 0 text ≡ None → (bytes : List ℕ) → load_fault bytes ≡ None → (b : Book) → b ≡ spelled_book bytes → (ask_fault bytes text ≡ search_fault (ranker_score log.ranking) b log.question) × (ask_lines bytes text ≡ search_lines (ranker_score log.ranking) b log.question)
  asked none bytes fine b is = (
    ap (λ o. or_else o (or_else (load_fault bytes) (search_fault (score_in text) (spelled_book bytes) (question_in text)))) none
        ∙ ap (λ o. or_else o (search_fault (score_in text) (spelled_book bytes) (question_in text))) fine
        ∙ read_as a (λ rank question row. search_fault rank (spelled_book bytes) question) ∙ ap (λ x. search_fault (ranker_score log.ranking) x log.question) (sym is),
    ap (λ o. refused_or (or_else o (load_fault bytes)) (search_lines (score_in text) (spelled_book bytes) (question_in text))) none
        ∙ ap (λ o. refused_or o (search_lines (score_in text) (spelled_book bytes) (question_in text))) fine
        ∙ read_as a (λ rank question row. search_lines rank (spelled_book bytes) question) ∙ ap (λ x. search_lines (ranker_score log.ranking) x log.question) (sym is),
  )

-- what a loaded book is
pub loaded : (bytes : List ℕ) (former b : Book) → load_fault bytes ≡ None → b ≡ cond (loads bytes) (spelled_book bytes) former → b ≡ spelled_book bytes
loaded bytes former b fine is = is ∙ ap (λ o. cond (not (is_some o)) (spelled_book bytes) former) fine

-- a text that is refused
pub refused_text : (text : List ℕ) (f : Fault) → log_fault most_stations text ≡ Some f → (pick_fault text ≡ Some f) × (pick_lines text ≡ refusal f)
refused_text text f some = (
  ap (λ o. or_else o (search_fault (score_in text) (roll_book (row_in text)) (question_in text))) some,
  ap (λ o. refused_or o (search_lines (score_in text) (roll_book (row_in text)) (question_in text))) some,
)

-- a question's text or a book that is refused
pub refused_asking : (bytes text : List ℕ) (f : Fault) → or_else (log_fault 0 text) (load_fault bytes) ≡ Some f → (ask_fault bytes text ≡ Some f) × (ask_lines bytes text ≡ refusal f)
refused_asking bytes text f some = (
  sym (or_else_lem (log_fault 0 text) (load_fault bytes) (search_fault (score_in text) (spelled_book bytes) (question_in text))) ∙ ap (λ o. or_else o (search_fault (score_in text) (spelled_book bytes) (question_in text))) some,
  ap (λ o. refused_or o (search_lines (score_in text) (spelled_book bytes) (question_in text))) some,
)
