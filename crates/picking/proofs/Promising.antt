-- What is promised of the searches that are printed.
use Rattle.std.proofs.Common.{◌≡◌, ℕ, suc, true, List, [], ◌∷◌, length, None, sym, refl, ap, ◌∙◌, subst, arith}
use Rattle.std.specs.List.{AllByRecursion as Each}
use Rattle.std.proofs.lemmas.List.{take_all}
use Rattle.stations.specs.declared.measures.Measures.{Measures}
use Rattle.stations.specs.declared.station.Station.{Station}
use Rattle.stations.specs.declared.question.Question.{Question}
use Rattle.stations.specs.Beating.{Ordinary}
use Rattle.stations.specs.Rows.{most_stations}
use Rattle.stations.specs.Answers as row
use Rattle.rankings.specs.declared.weights.Ranker.{Ranker}
use Rattle.rankings.specs.Scores.{ranker_score}
use Rattle.rankings.specs.ScoresLemmas.{ranker_rises}
use Rattle.books.specs.Books.{Book, Lawful}
use Rattle.rolls.specs.Rolls.{roll_book}
use Rattle.rolls.specs.Laws.{RollLaws}
use Rattle.rolls.proofs.Accepting.{sound}
use Rattle.rolls.proofs.Books.{rows_make_books}
use Rattle.stored.specs.Loading.{load_fault, spelled_book}
use Rattle.stored.proofs.Lawfulness.{spelled-lawful}
use Rattle.logs.specs.Fields.{station_line, admits, pass}
use Rattle.logs.specs.Checks.{log_fault, score_in, question_in, row_in}
use Rattle.logs.specs.Rendering.{station_numbers, Valid, Rendered}
use Rattle.logs.proofs.Ranges.{ordinary-at}
use Rattle.logs.proofs.Laws.{accepts_exactly}
use Rattle.logs.proofs.ReadAs.{valid-row}
use Rattle.printing.specs.declared.closing.Closing.TheVariants as closing
use Rattle.printing.specs.Printed.{closing_line, closed_listing, refused_or}
use Rattle.promises.specs.Bands.{bands, Monotone}
use Rattle.promises.specs.Searching.{ending, handed}
use Rattle.promises.specs.Histories.{Promised}
use Rattle.promises.proofs.Bands.{bands-keep-laws, bands-answer}
use Rattle.promises.proofs.Promises.{exact}
use Rattle.promises.proofs.Histories.{promised-at}
use Rattle.waiting.specs.States.{limits}
use Rattle.picking.specs.Picks.{closing_of, pages_at_end, search_lines, pick_lines, KeepsPromises, PicksAnswer}

pub keeps_promises : (rank : Measures → ℕ) (b : Book) (question : Question) → Monotone rank → Lawful b → KeepsPromises rank b question
keeps_promises rank b question mono lawful fine =
    let q = bands rank question in
    let all = handed q b limits in
    subst (Promised q b limits (suc (length all))) (take_all (suc (length all)) all (omega arith)) (promised-at q (bands-keep-laws rank question mono) b lawful limits (suc (length all)))

all-ordinary : (ss : List Station) → Each (λ s. pass admits station_line (station_numbers s) ≡ true) ss → Each (λ s. Ordinary s.at) ss
all-ordinary [] h = tt
all-ordinary (s ∷ ss) h = (ordinary-at station_line (station_numbers s) 1 h.0 refl (omega arith) refl refl refl refl, all-ordinary ss h.1)

-- the row of a log can be read as a book
pub roll_laws : (r : Ranker) (q : Question) (ss : List Station) → Valid r q ss → RollLaws ss
roll_laws r q ss v = rows_make_books ss (sound ss (valid-row r q ss v) (all-ordinary ss v.stations))

module _ (room : ℕ) (text : List ℕ) (none : log_fault room text ≡ None) where
  abbrev log : Rendered room text
  log = accepts_exactly.accepted room text none

  -- the ranking that a text names is monotone
  pub text_rises : Monotone (score_in text)
  text_rises = subst Monotone (sym (accepts_exactly.says room text log).score) (ranker_rises log.ranker)

  -- the roll of its row is lawful
  pub text_lawful : Lawful (roll_book (row_in text))
  text_lawful = subst (λ ss. Lawful (roll_book ss)) (sym (accepts_exactly.says room text log).row) (roll_laws log.ranker log.question log.row log.valid).lawful

pub pick_promises : (text : List ℕ) → log_fault most_stations text ≡ None → KeepsPromises (score_in text) (roll_book (row_in text)) (question_in text)
pick_promises text none = keeps_promises (score_in text) (roll_book (row_in text)) (question_in text) (text_rises most_stations text none) (text_lawful most_stations text none)

pub ask_promises : (bytes text : List ℕ) → log_fault 0 text ≡ None → load_fault bytes ≡ None → KeepsPromises (score_in text) (spelled_book bytes) (question_in text)
ask_promises bytes text none fine = keeps_promises (score_in text) (spelled_book bytes) (question_in text) (text_rises 0 text none) (spelled-lawful bytes fine)

pub picks-answer : (text : List ℕ) → PicksAnswer text
picks-answer text l within =
    let rank = ranker_score l.ranker in
    let b = roll_book l.row in
    let q = bands rank l.question in
    let laws = roll_laws l.ranker l.question l.row l.valid in
    let e = exact q (bands-keep-laws rank l.question (ranker_rises l.ranker)) b laws.lawful laws.whole limits within in
    let says = accepts_exactly.says most_stations text l in
    let all : handed q b limits ≡ row.answer rank l.question l.row = e.1 ∙ bands-answer rank l.question b ∙ ap (row.answer rank l.question) laws.same in
    let read : pick_lines text ≡ search_lines rank b l.question =
    ap (λ o. refused_or o (search_lines (score_in text) (roll_book (row_in text)) (question_in text))) (accepts_exactly.rendered most_stations text l)
    ∙ (λ i. search_lines (says.score i) (roll_book (says.row i)) (says.question i))
    in (
      pages_at_end q b,
      read
          ∙ ap (λ o. refused_or o (closed_listing rank (closing_line (closing_of (ending q b limits) (pages_at_end q b))) (handed q b limits))) l.valid.accepted
          ∙ ap (λ x. closed_listing rank (closing_line (closing_of x (pages_at_end q b))) (handed q b limits)) e.0
          ∙ ap (closed_listing rank (closing_line (closing.Done (pages_at_end q b)))) all,
    )
