-- When a log is refused: the first refusal, in checking order.
use Rattle.std.specs.Prelude.{ℕ, suc, ◌+◌, ◌*◌, max, Bool, cond, not, List, [], ◌∷◌, length, Some, None, Option, ◌==◌, nat_lt, slice_index}
use Rattle.stations.specs.declared.fault.Fault.{Fault}
use Rattle.stations.specs.declared.fault.Code.{Code}
use Rattle.stations.specs.declared.fault.Code.TheVariants.{TextTooLong, BadField, OutOfRange, TooManyStations, ShortBuffer}
use Rattle.stations.specs.declared.measures.Measures.{Measures}
use Rattle.stations.specs.declared.station.Station.{Station}
use Rattle.stations.specs.declared.question.Question.{Question}
use Rattle.stations.specs.Faults.{fault, placeless, refuse_if, or_else}
use Rattle.stations.specs.Rows.{most_stations, repeat_fault}
use Rattle.stations.specs.Questions.{question_fault}
use Rattle.logs.specs.Pieces.{lines_of, fields_of}
use Rattle.logs.specs.Fields.{question_line, station_line, sum_letter, spells, reading, admits, paired}
use Rattle.logs.specs.declared.field.FieldKind.{FieldKind}

-- the longest text
abbrev pub most_bytes : ℕ
most_bytes = 65536

-- the first field of the line, counted from j, that fails the test of its kind
abbrev pub field_fault : {A : Type 0} → (FieldKind → A → Bool) → Code → ℕ → ℕ → List FieldKind → List A → Option Fault
field_fault test code line j [] xs = None
field_fault test code line j (k ∷ ks) [] = None
field_fault test code line j (k ∷ ks) (x ∷ xs) = or_else (refuse_if (not (test k x)) (fault code line j)) (field_fault test code line (suc j) ks xs)

-- the numbers that a line's fields say
abbrev pub numbers_of : List FieldKind → List ℕ → List ℕ
numbers_of kinds bytes = paired reading kinds (fields_of bytes)

-- a line: how many fields, then how each is written, then what each says
abbrev pub line_fault : ℕ → List FieldKind → List ℕ → Option Fault
line_fault line kinds bytes =
    or_else (refuse_if (not (length (fields_of bytes) == length kinds)) (fault BadField line 0))
    (or_else (field_fault spells BadField line 1 kinds (fields_of bytes)) (field_fault admits OutOfRange line 1 kinds (numbers_of kinds bytes)))

-- the line would hold one station too many; the question's line is not counted
abbrev pub crowd_fault : ℕ → Option Fault
crowd_fault line = refuse_if (nat_lt (suc most_stations) line) (fault TooManyStations line 0)

-- what follows the last line end: nothing, or a line that has no end
abbrev pub tail_fault : ℕ → List ℕ → Option Fault
tail_fault line [] = None
tail_fault line (b ∷ bs) = or_else (crowd_fault line) (Some (fault BadField line 0))

-- the lines of stations, the first of them being line `line`
abbrev pub stations_fault : ℕ → List (List ℕ) → Option Fault
stations_fault line [] = None
stations_fault line (p ∷ []) = tail_fault line p
stations_fault line (p ∷ q ∷ ps) = or_else (crowd_fault line) (or_else (line_fault line station_line p) (stations_fault (suc line) (q ∷ ps)))

-- all lines: the question's, which must have an end, and then the stations'
abbrev pub lines_fault : List (List ℕ) → Option Fault
lines_fault [] = Some (fault BadField 1 0)
lines_fault (p ∷ []) = Some (fault BadField 1 0)
lines_fault (p ∷ q ∷ ps) = or_else (line_fault 1 question_line p) (stations_fault 2 (q ∷ ps))

-- four numbers from place i on
abbrev pub measures_at : ℕ → List ℕ → Measures
measures_at i ns = record { m1 = slice_index ns i; m2 = slice_index ns (i + 1); m3 = slice_index ns (i + 2); m4 = slice_index ns (i + 3) }

-- the question that the numbers of its line give
abbrev pub question_of : List ℕ → Question
question_of ns = record { k = slice_index ns 1; region = record { low = measures_at 2 ns; high = measures_at 6 ns } }

-- the score that the numbers of the question's line give four measures: S adds the products, W takes the largest
abbrev pub score_of : List ℕ → Measures → ℕ
score_of ns p =
    cond (slice_index ns 0 == sum_letter)
    (slice_index ns 10 * p.m1 + slice_index ns 11 * p.m2 + slice_index ns 12 * p.m3 + slice_index ns 13 * p.m4)
    (max (max (slice_index ns 10 * p.m1) (slice_index ns 11 * p.m2)) (max (slice_index ns 12 * p.m3) (slice_index ns 13 * p.m4)))

-- the station that the numbers of its line give
abbrev pub station_of : List ℕ → Station
station_of ns = record { number = slice_index ns 0; at = measures_at 1 ns }

-- the stations of the lines before the last, which has no end
abbrev pub stations_in : List (List ℕ) → List Station
stations_in [] = []
stations_in (p ∷ []) = []
stations_in (p ∷ q ∷ ps) = station_of (numbers_of station_line p) ∷ stations_in (q ∷ ps)

-- the first line
abbrev pub first_of : List (List ℕ) → List ℕ
first_of [] = []
first_of (p ∷ ps) = p

-- the lines after it
abbrev pub later_of : List (List ℕ) → List (List ℕ)
later_of [] = []
later_of (p ∷ ps) = ps

-- the score of a text's ranking
abbrev pub score_in : List ℕ → Measures → ℕ
score_in text = score_of (numbers_of question_line (first_of (lines_of text)))

-- the question of a text
abbrev pub question_in : List ℕ → Question
question_in text = question_of (numbers_of question_line (first_of (lines_of text)))

-- the stations of a text
abbrev pub row_in : List ℕ → List Station
row_in text = stations_in (later_of (lines_of text))

-- the text's length, its lines, a number that repeats, the question, and last the room for the stations
unfoldable pub log_fault : ℕ → List ℕ → Option Fault
log_fault room text =
    or_else (refuse_if (nat_lt most_bytes (length text)) (placeless TextTooLong))
    (or_else (lines_fault (lines_of text))
    (or_else (repeat_fault [] 0 (row_in text))
    (or_else (question_fault (question_in text))
    (refuse_if (nat_lt room (length (row_in text))) (placeless ShortBuffer)))))
