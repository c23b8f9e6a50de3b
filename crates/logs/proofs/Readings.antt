-- What a log's text is refused for, check by check, and what an accepted one holds.
use Rattle.std.proofs.Common.{◌≡◌, ℕ, ◌<◌, ◌≤◌, true, false, ltb, List, [], ◌∷◌, ◌++◌, length, Some, None, Option, sym, refl, ap, ◌∙◌, subst, ap₂, append_assoc, arith}
use Rattle.std.specs.List.{flat_map, AllByRecursion as Each}
use Rattle.std.proofs.lemmas.List.Splits.{join_with_byte-slice_split}
use Rattle.std.proofs.lemmas.Bool.{le-ltb, lt-ltb}
use Rattle.stations.specs.declared.fault.Fault.{Fault}
use Rattle.stations.specs.declared.fault.Code.TheVariants.{TextTooLong, ShortBuffer, TooManyStations}
use Rattle.stations.specs.declared.station.Station.{Station}
use Rattle.stations.specs.declared.question.Question.{Question}
use Rattle.stations.specs.Faults.{fault, placeless, refuse_if, or_else}
use Rattle.stations.specs.Rows.{most_stations, zero_fault, repeat_fault, row_fault}
use Rattle.stations.specs.Questions.{question_fault}
use Rattle.rankings.specs.declared.weights.Ranker.{Ranker}
use Rattle.logs.specs.Pieces.{lines_of, join, line_end}
use Rattle.logs.specs.Fields.{question_line, station_line, admits, pass}
use Rattle.logs.specs.Checks.{most_bytes, log_fault, line_fault, lines_fault, question_in, question_of, row_in, stations_in, numbers_of, first_of, later_of}
use Rattle.logs.specs.Rendering.{rendering, line_text, station_numbers, Valid}
use Rattle.logs.specs.Reading.{Headed, Filled}
use Rattle.logs.proofs.Verdicts.{neither, after_none, at_some, Fine, fine-from}
use Rattle.logs.proofs.Texts.{line_written, station_text, stations_text, stations-admitted, stations-few, zero-none}

-- what is checked after the lines
abbrev pub after_lines : ℕ → List ℕ → Option Fault
after_lines room text =
    or_else (repeat_fault [] 0 (row_in text)) (or_else (question_fault (question_in text)) (refuse_if (ltb room (length (row_in text))) (placeless ShortBuffer)))

-- a text of accepted length
pub log-short : (room : ℕ) (text : List ℕ) → length text ≤ most_bytes → log_fault room text ≡ or_else (lines_fault (lines_of text)) (after_lines room text)
unfolding log_fault
log-short room text short =
    let t : ltb most_bytes (length text) ≡ false = le-ltb _ _ short in
    ap (λ x. or_else (refuse_if x (placeless TextTooLong)) (or_else (lines_fault (lines_of text)) (after_lines room text))) t

-- a longer one
pub log-long : (room : ℕ) (text : List ℕ) → most_bytes < length text → log_fault room text ≡ Some (placeless TextTooLong)
unfolding log_fault
log-long room text long =
    let t : ltb most_bytes (length text) ≡ true = lt-ltb _ _ long in
    ap (λ x. or_else (refuse_if x (placeless TextTooLong)) (or_else (lines_fault (lines_of text)) (after_lines room text))) t

-- the lines are refused
pub log-lines : (room : ℕ) (text : List ℕ) (f : Fault) → length text ≤ most_bytes → lines_fault (lines_of text) ≡ Some f → log_fault room text ≡ Some f
log-lines room text f short e = log-short room text short ∙ at_some _ _ f e

-- accepted lines are those of a rendering
pub record Lined (text : List ℕ) : Type 0 where
  pub admitted : pass admits question_line (numbers_of question_line (first_of (lines_of text))) ≡ true
  pub numbers : Fine question_line (first_of (lines_of text))
  pub stations : Each (λ s. pass admits station_line (station_numbers s) ≡ true) (row_in text)
  pub few : length (row_in text) ≤ most_stations
  pub shown : text ≡ line_text question_line (numbers_of question_line (first_of (lines_of text))) ++ flat_map station_text (row_in text)

pub lined : (text : List ℕ) → lines_fault (lines_of text) ≡ None → Lined text
lined text e = go (lines_of text) refl e
  where
    none : Some (fault (Rattle.stations.specs.declared.fault.Code.TheVariants.BadField) 1 0) ≡ None → Lined text
    none h = let z : ◌≡◌ {A = ℕ} 0 1 = cc in absurd (omega arith)

    go : (ls : List (List ℕ)) → lines_of text ≡ ls → lines_fault ls ≡ None → Lined text
    go [] is h = none h
    go (p ∷ []) is h = none h
    go (p ∷ q ∷ ps) is h =
        let a = neither (line_fault 1 question_line p) _ h in
        let f = fine-from 1 question_line p a.0 in
        let row : row_in text ≡ stations_in (q ∷ ps) = ap (λ ls. stations_in (later_of ls)) is in
        let first : first_of (lines_of text) ≡ p = ap first_of is in
        let whole : text ≡ p ++ line_end ∷ join line_end (q ∷ ps) = sym (join_with_byte-slice_split line_end text) ∙ ap (join line_end) is in
        let front : p ++ line_end ∷ [] ≡ line_text question_line (numbers_of question_line p) = ap (λ xs. xs ++ line_end ∷ []) (sym (line_written question_line p f)) in
        record {
          admitted = ap (λ x. pass admits question_line (numbers_of question_line x)) first ∙ f.admitted;
          numbers = subst (Fine question_line) (sym first) f;
          stations = subst (Each (λ s. pass admits station_line (station_numbers s) ≡ true)) (sym row) (stations-admitted 2 (q ∷ ps) a.1);
          few = omega (arith, stations-few 2 (q ∷ ps) (omega arith) a.1, ap length row);
          shown =
              whole ∙ ap (λ xs. p ++ line_end ∷ xs) (stations_text 2 (q ∷ ps) a.1)
              ∙ sym (append_assoc p (line_end ∷ []) (flat_map station_text (stations_in (q ∷ ps))))
              ∙ ap₂ (λ xs ss. xs ++ flat_map station_text ss) (front ∙ ap (λ x. line_text question_line (numbers_of question_line x)) (sym first)) (sym row);
        }

-- what the reader has in hand once both kinds of line are read
module _ {text : List ℕ} {r : Ranker} {q : Question} {rest : List ℕ} {row : List Station} (short : length text ≤ most_bytes) (head : Headed text r q rest) (filled : Filled rest row) where
  pub lines_none : lines_fault (lines_of text) ≡ None
  lines_none = head.decides ∙ filled.decides

  pub row_is : row_in text ≡ row
  row_is = ap stations_in head.later ∙ sym filled.stations

  pub question_is : question_in text ≡ q
  question_is = ap question_of (sym head.numbers)

  -- of the checks of a row only that of repeats is left
  pub row-fault : row_fault row ≡ repeat_fault [] 0 row
  row-fault =
      let few : ltb most_stations (length row) ≡ false = le-ltb _ _ filled.few in
      let zeros : zero_fault 0 row ≡ None = zero-none 0 row (subst (Each (λ s. pass admits station_line (station_numbers s) ≡ true)) row_is (lined text lines_none).stations) in
      ap (λ t. or_else (refuse_if t (placeless TooManyStations)) (or_else (zero_fault 0 row) (repeat_fault [] 0 row))) few
      ∙ after_none (zero_fault 0 row) _ zeros

  pub log-after : (room : ℕ) → log_fault room text ≡ or_else (row_fault row) (or_else (question_fault q) (refuse_if (ltb room (length row)) (placeless ShortBuffer)))
  log-after room =
      log-short room text short ∙ after_none (lines_fault (lines_of text)) (after_lines room text) lines_none
      ∙ (λ i. or_else (repeat_fault [] 0 (row_is i)) (or_else (question_fault (question_is i)) (refuse_if (ltb room (length (row_is i))) (placeless ShortBuffer))))
      ∙ ap (λ a. or_else a (or_else (question_fault q) (refuse_if (ltb room (length row)) (placeless ShortBuffer)))) (sym row-fault)

  pub shown_is : text ≡ rendering r q row
  unfolding rendering
  shown_is = (lined text lines_none).shown ∙ ap₂ (λ ns ss. line_text question_line ns ++ flat_map station_text ss) (sym head.numbers) row_is

  pub valid_is : row_fault row ≡ None → question_fault q ≡ None → Valid r q row
  valid_is rows asked =
      record {
        numbers = ap (pass admits question_line) head.numbers ∙ (lined text lines_none).admitted;
        stations = subst (Each (λ s. pass admits station_line (station_numbers s) ≡ true)) row_is (lined text lines_none).stations;
        accepted = asked;
        few = filled.few;
        distinct = sym row-fault ∙ rows;
        short = omega (arith, ap length shown_is);
      }
