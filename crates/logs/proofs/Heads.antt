-- The question's line, and the numbers of a line as what they stand for.
use Rattle.std.proofs.Common.{◌≡◌, ℕ, zero, suc, ◌+◌, ◌<◌, List, [], ◌∷◌, ◌++◌, length, get_or, drop, sym, ap, ◌∙◌, add-one, arith}
use Rattle.std.proofs.lemmas.List.{drop_more, drop_all}
use Rattle.stations.specs.declared.question.Question.{Question}
use Rattle.rankings.specs.declared.weights.Ranker.{Ranker}
use Rattle.logs.specs.Pieces.{lines_of, line_end}
use Rattle.logs.specs.Lines.{Found}
use Rattle.logs.specs.Fields.{question_line}
use Rattle.logs.specs.Checks.{line_fault, lines_fault, stations_fault, numbers_of, question_of, station_of, first_of, later_of}
use Rattle.logs.specs.Rendering.{letter_of, weights_of, weight_numbers, weights_at, measure_numbers, question_numbers, station_numbers}
use Rattle.logs.specs.Walks.{Taken, first_fault}
use Rattle.logs.specs.Reading.{Headed}
use Rattle.logs.specs.declared.field.FieldKind.{FieldKind}
use Rattle.logs.proofs.Cuts.{cut, some_piece}
use Rattle.logs.proofs.Verdicts.{after_none}

-- n numbers from place i on, read off one by one
abbrev pub read_off : ℕ → ℕ → List ℕ → List ℕ
read_off zero i ns = []
read_off (suc n) i ns = get_or ns i 0 ∷ read_off n (suc i) ns

pub read_off-all : (n i : ℕ) (ns : List ℕ) → n + i ≡ length ns → read_off n i ns ≡ drop i ns
read_off-all zero i ns e = sym (drop_all i ns (omega arith))
read_off-all (suc n) i ns e =
    let lt : i < length ns = omega arith in
    let later : read_off n (suc i) ns ≡ drop (i + 1) ns = read_off-all n (suc i) ns (omega arith) ∙ ap (λ m. drop m ns) (sym (add-one i)) in
    ap (λ xs. get_or ns i 0 ∷ xs) later ∙ sym (drop_more ns i 0 lt)

pub station-numbers : (ns : List ℕ) → length ns ≡ 5 → station_numbers (station_of ns) ≡ ns
station-numbers ns e = read_off-all 5 0 ns (sym e)

abbrev numbers_as : ℕ → Question → List ℕ → List ℕ
numbers_as l q ws = l ∷ q.k ∷ (measure_numbers q.region.low ++ (measure_numbers q.region.high ++ ws))

pub question-numbers : (r : Ranker) (q : Question) (ns : List ℕ) → length ns ≡ 14 → letter_of r ≡ get_or ns 0 0 → weight_numbers (weights_of r) ≡ weights_at 10 ns → q ≡ question_of ns → question_numbers r q ≡ ns
question-numbers r q ns e l w is =
    let p : question_numbers r q ≡ numbers_as (get_or ns 0 0) (question_of ns) (weights_at 10 ns) = λ i. numbers_as (l i) (is i) (w i) in
    p ∙ read_off-all 14 0 ns (sym e)

-- a line with an end is followed by another, which may be empty
pub found-two : {text bytes rest : List ℕ} → Found text bytes rest → (q : List ℕ) × (ps : List (List ℕ)) × (lines_of rest ≡ q ∷ ps) × (lines_of text ≡ bytes ∷ q ∷ ps)
found-two {text} {bytes} {rest} f =
    let h = some_piece line_end rest in
    (h.0, h.1, h.2, ap lines_of f.whole ∙ cut line_end bytes rest f.free ∙ ap (λ xs. bytes ∷ xs) h.2)

-- so the first line of the text is the one that was found
pub first_found : (line : ℕ) (kinds : List FieldKind) {text bytes rest : List ℕ} → Found text bytes rest → first_fault line kinds (lines_of text) ≡ line_fault line kinds bytes
first_found line kinds found = ap (first_fault line kinds) (found-two found).3

pub headed : {text ns rest : List ℕ} (r : Ranker) (q : Question) → Taken 1 question_line text ns rest → question_numbers r q ≡ ns → Headed text r q rest
headed r q taken qs =
    let h = found-two taken.found in
    record {
      decides = ap lines_fault h.3 ∙ after_none (line_fault 1 question_line taken.bytes) (stations_fault 2 (h.0 ∷ h.1)) taken.accepted ∙ ap (stations_fault 2) (sym h.2);
      later = ap later_of h.3 ∙ sym h.2;
      numbers = qs ∙ taken.says ∙ ap (λ ls. numbers_of question_line (first_of ls)) (sym h.3);
    }
