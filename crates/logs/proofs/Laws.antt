-- A text is accepted exactly where it is a rendering, of one log only.
use Rattle.std.proofs.Common.{◌≡◌, ℕ, ◌≤◌, true, false, ltb, List, [], ◌∷◌, ◌++◌, length, get_or, drop, None, sym, refl, ap, ◌∙◌, inl, inr, arith}
use Rattle.std.specs.List.{flat_map}
use Rattle.std.proofs.lemmas.Bool.{le-ltb, ltb-false, eqb-true, or_cases}
use Rattle.stations.specs.declared.fault.Code.TheVariants.{TextTooLong, ShortBuffer}
use Rattle.stations.specs.declared.station.Station.{Station}
use Rattle.stations.specs.declared.question.Question.{Question}
use Rattle.stations.specs.Faults.{placeless, refuse_if, or_else}
use Rattle.stations.specs.Rows.{most_stations, repeat_fault}
use Rattle.stations.specs.Questions.{question_fault}
use Rattle.rankings.specs.declared.weights.Weights.{Weights}
use Rattle.rankings.specs.declared.weights.Ranker.{Ranker}
use Rattle.rankings.specs.declared.weights.Ranker.TheVariants.{Sum, Largest}
use Rattle.rankings.specs.Scores.{ranker_score}
use Rattle.logs.specs.Pieces.{lines_of, fields_of, join, comma, line_end}
use Rattle.logs.specs.Fields.{question_line, sum_letter, largest_letter, reading, writing, admits, paired, pass}
use Rattle.logs.specs.Checks.{most_bytes, log_fault, line_fault, lines_fault, stations_fault, score_of, question_in, question_of, row_in, stations_in, numbers_of, first_of, later_of}
use Rattle.logs.specs.Rendering.{rendering, line_text, letter_of, weights_of, weight_numbers, weights_at, question_numbers, Valid, Rendered, Says, Same, AcceptsExactly}
use Rattle.logs.specs.declared.field.FieldKind.TheVariants.{Letter, Measure, Weight}
use Rattle.logs.proofs.Cuts.{some_piece}
use Rattle.logs.proofs.Ranges.{pass-at, weights-small}
use Rattle.logs.proofs.Heads.{question-numbers}
use Rattle.logs.proofs.Verdicts.{neither, passed, after_none, fine-none, length-paired}
use Rattle.logs.proofs.Texts.{LineOf, line_of, lines_of_lem, station_text, stations-accepted, stations-back}
use Rattle.logs.proofs.Readings.{after_lines, log-short, lined}

-- the ranking that the numbers of a question's line give
record Ranked (ns : List ℕ) : Type 0 where
  ranker : Ranker
  letter : letter_of ranker ≡ get_or ns 0 0
  weights : weight_numbers (weights_of ranker) ≡ weights_at 10 ns

ranked : (ns : List ℕ) → pass admits question_line ns ≡ true → length ns ≡ 14 → Ranked ns
ranked ns e long =
    let w : Weights = record { w1 = get_or ns 10 0; w2 = get_or ns 11 0; w3 = get_or ns 12 0; w4 = get_or ns 13 0; small = weights-small ns e long } in
    let l : admits Letter (get_or ns 0 0) ≡ true = pass-at admits question_line ns 0 0 e (omega arith) (omega arith) in
    elim (or_cases _ _ l) [
      | inl a ↦ record { ranker = Sum (record { weights = w }); letter = sym (eqb-true (get_or ns 0 0) sum_letter a); weights = refl }
      | inr b ↦ record { ranker = Largest (record { weights = w }); letter = sym (eqb-true (get_or ns 0 0) largest_letter b); weights = refl }
    ]

accepted : (room : ℕ) (text : List ℕ) → log_fault room text ≡ None → Rendered room text
unfolding log_fault rendering
accepted room text e =
    let a = neither (refuse_if (ltb most_bytes (length text)) (placeless TextTooLong)) _ e in
    let b = neither (lines_fault (lines_of text)) (after_lines room text) a.1 in
    let d = neither (repeat_fault [] 0 (row_in text)) _ b.1 in
    let f = neither (question_fault (question_in text)) _ d.1 in
    let short : length text ≤ most_bytes = ltb-false _ _ (passed _ _ a.0) in
    let l = lined text b.0 in
    let first = first_of (lines_of text) in
    let ns = numbers_of question_line first in
    let long : length ns ≡ 14 = length-paired reading question_line (fields_of first) l.numbers.count in
    let r = ranked ns l.admitted long in
    let q = question_of ns in
    let numbers : question_numbers r.ranker q ≡ ns = question-numbers r.ranker q ns long r.letter r.weights refl in
    let shown : text ≡ rendering r.ranker q (row_in text) = l.shown ∙ ap (λ xs. line_text question_line xs ++ flat_map station_text (row_in text)) (sym numbers) in
    record {
      ranker = r.ranker;
      question = q;
      row = row_in text;
      valid = record {
        numbers = ap (pass admits question_line) numbers ∙ l.admitted;
        stations = l.stations;
        accepted = f.0;
        few = l.few;
        distinct = d.0;
        short = omega (arith, ap length shown);
      };
      shown = shown;
      fits = ltb-false _ _ (passed _ _ f.1);
    }

-- a rendering, line by line
module _ (r : Ranker) (q : Question) (row : List Station) (v : Valid r q row) where
  abbrev bytes : List ℕ
  bytes = join comma (paired writing question_line (question_numbers r q))

  head_line : LineOf question_line (question_numbers r q)
  head_line = line_of Letter (Measure ∷ Measure ∷ Measure ∷ Measure ∷ Measure ∷ Measure ∷ Measure ∷ Measure ∷ Measure ∷ Weight ∷ Weight ∷ Weight ∷ Weight ∷ []) (question_numbers r q) refl v.numbers

  lines_are : lines_of (rendering r q row) ≡ bytes ∷ lines_of (flat_map station_text row)
  unfolding rendering
  lines_are = lines_of_lem question_line (question_numbers r q) (flat_map station_text row) head_line

  numbers-back : numbers_of question_line (first_of (lines_of (rendering r q row))) ≡ question_numbers r q
  numbers-back = ap (λ ls. numbers_of question_line (first_of ls)) lines_are ∙ head_line.says

  row_back : row_in (rendering r q row) ≡ row
  row_back = ap (λ ls. stations_in (later_of ls)) lines_are ∙ stations-back row v.stations

  lines-accepted : lines_fault (lines_of (rendering r q row)) ≡ None
  lines-accepted =
      let two = some_piece line_end (flat_map station_text row) in
      let few : length row ≤ most_stations = v.few in
      let later : stations_fault 2 (two.0 ∷ two.1) ≡ None = ap (stations_fault 2) (sym two.2) ∙ stations-accepted 2 row (omega arith) v.stations in
      ap lines_fault (lines_are ∙ ap (λ ls. bytes ∷ ls) two.2)
      ∙ after_none (line_fault 1 question_line bytes) (stations_fault 2 (two.0 ∷ two.1)) (fine-none 1 question_line bytes head_line.fine) ∙ later

  rendering-accepted : (room : ℕ) → length row ≤ room → log_fault room (rendering r q row) ≡ None
  rendering-accepted room fits =
      let t : ltb room (length row) ≡ false = le-ltb room (length row) fits in
      log-short room (rendering r q row) v.short
      ∙ after_none (lines_fault (lines_of (rendering r q row))) (after_lines room (rendering r q row)) lines-accepted
      ∙ (λ i. or_else (repeat_fault [] 0 (row_back i)) (or_else (question_fault (question_of (numbers-back i))) (refuse_if (ltb room (length (row_back i))) (placeless ShortBuffer))))
      ∙ after_none (repeat_fault [] 0 row) _ v.distinct
      ∙ after_none (question_fault q) _ v.accepted
      ∙ ap (λ x. refuse_if x (placeless ShortBuffer)) t

rendered : (room : ℕ) (text : List ℕ) → Rendered room text → log_fault room text ≡ None
rendered room text h = ap (log_fault room) h.shown ∙ rendering-accepted h.ranker h.question h.row h.valid room h.fits

score-back : (r : Ranker) (q : Question) → score_of (question_numbers r q) ≡ ranker_score r
score-back (Sum s) q = refl
score-back (Largest s) q = refl

pub says : (room : ℕ) (text : List ℕ) (l : Rendered room text) → Says l
says room text l =
    let numbers = ap (λ t. numbers_of question_line (first_of (lines_of t))) l.shown ∙ numbers-back l.ranker l.question l.row l.valid in
    record {
      score = ap score_of numbers ∙ score-back l.ranker l.question;
      question = ap question_of numbers;
      row = ap row_in l.shown ∙ row_back l.ranker l.question l.row l.valid;
    }

once : (r : Ranker) (q : Question) (row : List Station) (r' : Ranker) (q' : Question) (row' : List Station) → Valid r q row → Valid r' q' row' → rendering r q row ≡ rendering r' q' row' → Same r q row r' q' row'
once r q row r' q' row' v v' e =
    let ns : question_numbers r q ≡ question_numbers r' q' = sym (numbers-back r q row v) ∙ ap (λ text. numbers_of question_line (first_of (lines_of text))) e ∙ numbers-back r' q' row' v' in
    record {
      letter = ap (λ xs. get_or xs 0 0) ns;
      weights = ap (drop 10) ns;
      question = ap question_of ns;
      stations = sym (row_back r q row v) ∙ ap row_in e ∙ row_back r' q' row' v';
    }

pub accepts_exactly : AcceptsExactly
accepts_exactly = record { accepted = accepted; rendered = rendered; says = says; once = once }
