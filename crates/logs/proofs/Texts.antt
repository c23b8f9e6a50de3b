-- A text and its lines: what is accepted is a rendering, and a rendering is accepted.
use Rattle.std.proofs.Common.{◌≡◌, ℕ, suc, ◌+◌, ◌≤◌, true, false, eqb, ltb, List, [], ◌∷◌, ◌++◌, length, Some, None, sym, refl, ap, ◌∙◌, ap₂, append_assoc, arith}
use Rattle.std.specs.List.{flat_map, AllByRecursion as Each}
use Rattle.std.proofs.lemmas.List.Splits.{join_with_byte-slice_split}
use Rattle.std.proofs.lemmas.Bool.{and_parts, ltb-true, ltb-false, le-ltb, ne_eqb}
use Rattle.stations.specs.declared.fault.Code.TheVariants.{BadField, TooManyStations, OutOfRange}
use Rattle.stations.specs.declared.station.Station.{Station}
use Rattle.stations.specs.Faults.{fault, refuse_if, or_else}
use Rattle.stations.specs.Rows.{most_stations, zero_fault}
use Rattle.logs.specs.Pieces.{join, comma, line_end, fields_of, lines_of}
use Rattle.logs.specs.Lines.{Free}
use Rattle.logs.specs.Fields.{station_line, spells, reading, writing, admits, paired, pass}
use Rattle.logs.specs.Checks.{line_fault, numbers_of, crowd_fault, tail_fault, stations_fault, stations_in, station_of}
use Rattle.logs.specs.Rendering.{line_text, station_numbers}
use Rattle.logs.specs.declared.field.FieldKind.{FieldKind}
use Rattle.logs.specs.declared.field.FieldKind.TheVariants.{Number, Measure}
use Rattle.logs.proofs.Cuts.{cut, some_piece}
use Rattle.logs.proofs.Joins.{pieces-join, join_free}
use Rattle.logs.proofs.Writing.{writes_read, reads-written, spells-written, commas_written, ends-written}
use Rattle.logs.proofs.Heads.{station-numbers}
use Rattle.logs.proofs.Verdicts.{neither, passed, after_none, Fine, fine-from, fine-none, length-paired}

-- an accepted line is what is written of its numbers
pub line_written : (ks : List FieldKind) (bytes : List ℕ) → Fine ks bytes → join comma (paired writing ks (numbers_of ks bytes)) ≡ bytes
line_written ks bytes f = ap (join comma) (writes_read ks (fields_of bytes) f.count f.spelled) ∙ join_with_byte-slice_split comma bytes

-- the station of an accepted line has the line's numbers
fine-station : (bytes : List ℕ) → Fine station_line bytes → station_numbers (station_of (numbers_of station_line bytes)) ≡ numbers_of station_line bytes
fine-station bytes f = station-numbers (numbers_of station_line bytes) (length-paired reading station_line (fields_of bytes) f.count)

abbrev pub station_text : Station → List ℕ
station_text s = line_text station_line (station_numbers s)

line_of_station : (bytes : List ℕ) → Fine station_line bytes → station_text (station_of (numbers_of station_line bytes)) ≡ bytes ++ line_end ∷ []
line_of_station bytes f = ap (line_text station_line) (fine-station bytes f) ∙ ap (λ xs. xs ++ line_end ∷ []) (line_written station_line bytes f)

tail_none : (line : ℕ) (p : List ℕ) → tail_fault line p ≡ None → p ≡ []
tail_none line [] e = refl
tail_none line (b ∷ bs) e = let h = neither (crowd_fault line) (Some (fault BadField line 0)) e in let z : ◌≡◌ {A = ℕ} 0 1 = cc h.1 in absurd (omega arith)

-- accepted lines of stations, joined again, are the stations' lines
pub stations_text : (line : ℕ) (ls : List (List ℕ)) → stations_fault line ls ≡ None → join line_end ls ≡ flat_map station_text (stations_in ls)
stations_text line [] e = refl
stations_text line (p ∷ []) e = tail_none line p e
stations_text line (p ∷ q ∷ ps) e =
    let a = neither (crowd_fault line) _ e in
    let b = neither (line_fault line station_line p) _ a.1 in
    let f = fine-from line station_line p b.0 in
    ap (λ xs. p ++ line_end ∷ xs) (stations_text (suc line) (q ∷ ps) b.1)
    ∙ sym (append_assoc p (line_end ∷ []) (flat_map station_text (stations_in (q ∷ ps))))
    ∙ ap (λ xs. xs ++ flat_map station_text (stations_in (q ∷ ps))) (sym (line_of_station p f))

-- their numbers are in range
pub stations-admitted : (line : ℕ) (ls : List (List ℕ)) → stations_fault line ls ≡ None → Each (λ s. pass admits station_line (station_numbers s) ≡ true) (stations_in ls)
stations-admitted line [] e = tt
stations-admitted line (p ∷ []) e = tt
stations-admitted line (p ∷ q ∷ ps) e =
    let a = neither (crowd_fault line) _ e in
    let b = neither (line_fault line station_line p) _ a.1 in
    let f = fine-from line station_line p b.0 in
    (ap (pass admits station_line) (fine-station p f) ∙ f.admitted, stations-admitted (suc line) (q ∷ ps) b.1)

-- there are no more of them than a row may have
pub stations-few : (line : ℕ) (ls : List (List ℕ)) → line ≤ suc (suc most_stations) → stations_fault line ls ≡ None → line + length (stations_in ls) ≤ suc (suc most_stations)
stations-few line [] le e = omega arith
stations-few line (p ∷ []) le e = omega arith
stations-few line (p ∷ q ∷ ps) le e =
    let a = neither (crowd_fault line) _ e in
    let b = neither (line_fault line station_line p) _ a.1 in
    let room : line ≤ suc most_stations = ltb-false (suc most_stations) line (passed _ _ a.0) in
    let later = stations-few (suc line) (q ∷ ps) (omega arith) b.1 in
    omega (arith, later)

-- so no station has the number 0
pub zero-none : (i : ℕ) (row : List Station) → Each (λ s. pass admits station_line (station_numbers s) ≡ true) row → zero_fault i row ≡ None
zero-none i [] h = refl
zero-none i (s ∷ row) h =
    let first : ltb 0 s.number ≡ true = (and_parts _ _ (and_parts _ _ h.0).0).0 in
    let some : eqb s.number 0 ≡ false = ne_eqb s.number 0 (λ z. omega (arith, ltb-true 0 s.number first)) in
    ap (λ t. or_else (refuse_if t (fault OutOfRange i 0)) (zero_fault (suc i) row)) some ∙ zero-none (suc i) row h.1

-- a line as it is written: it is accepted, it says its numbers, and no line ends in it
pub record LineOf (ks : List FieldKind) (ns : List ℕ) : Type 0 where
  pub fine : Fine ks (join comma (paired writing ks ns))
  pub says : numbers_of ks (join comma (paired writing ks ns)) ≡ ns
  pub free : Free line_end (join comma (paired writing ks ns))

pub line_of : (k : FieldKind) (ks : List FieldKind) (ns : List ℕ) → length ns ≡ length (k ∷ ks) → pass admits (k ∷ ks) ns ≡ true → LineOf (k ∷ ks) ns
line_of k ks [] e h = absurd (omega arith)
line_of k ks (n ∷ ns) e h =
    let c = commas_written (k ∷ ks) (n ∷ ns) h in
    let d = ends-written (k ∷ ks) (n ∷ ns) h in
    let fields : fields_of (join comma (paired writing (k ∷ ks) (n ∷ ns))) ≡ paired writing (k ∷ ks) (n ∷ ns) = pieces-join comma (writing k n) (paired writing ks ns) c.0 c.1 in
    let says : numbers_of (k ∷ ks) (join comma (paired writing (k ∷ ks) (n ∷ ns))) ≡ n ∷ ns = ap (paired reading (k ∷ ks)) fields ∙ reads-written (k ∷ ks) (n ∷ ns) e h in
    record {
      fine = record {
        count = ap length fields ∙ length-paired writing (k ∷ ks) (n ∷ ns) e;
        spelled = ap (pass spells (k ∷ ks)) fields ∙ spells-written (k ∷ ks) (n ∷ ns) h;
        admitted = ap (pass admits (k ∷ ks)) says ∙ h;
      };
      says = says;
      free = join_free line_end comma (writing k n) (paired writing ks ns) refl d.0 d.1;
    }

-- a line in front of a text
pub lines_of_lem : (ks : List FieldKind) (ns : List ℕ) (rest : List ℕ) → LineOf ks ns → lines_of (line_text ks ns ++ rest) ≡ join comma (paired writing ks ns) ∷ lines_of rest
lines_of_lem ks ns rest l = ap lines_of (append_assoc (join comma (paired writing ks ns)) (line_end ∷ []) rest) ∙ cut line_end (join comma (paired writing ks ns)) rest l.free

station_line_lem : (s : Station) → pass admits station_line (station_numbers s) ≡ true → LineOf station_line (station_numbers s)
station_line_lem s h = line_of Number (Measure ∷ Measure ∷ Measure ∷ Measure ∷ []) (station_numbers s) refl h

-- the stations' lines are accepted while there is room, and give the stations back
pub stations-accepted : (line : ℕ) (row : List Station) → line + length row ≤ suc (suc most_stations) → Each (λ s. pass admits station_line (station_numbers s) ≡ true) row → stations_fault line (lines_of (flat_map station_text row)) ≡ None
stations-accepted line [] room h = refl
stations-accepted line (s ∷ row) room h =
    let l = station_line_lem s h.0 in
    let bytes = join comma (paired writing station_line (station_numbers s)) in
    let t : ltb (suc most_stations) line ≡ false = le-ltb _ _ (omega arith) in
    let two = some_piece line_end (flat_map station_text row) in
    let later : stations_fault (suc line) (two.0 ∷ two.1) ≡ None = ap (stations_fault (suc line)) (sym two.2) ∙ stations-accepted (suc line) row (omega arith) h.1 in
    ap (stations_fault line) (lines_of_lem station_line (station_numbers s) (flat_map station_text row) l ∙ ap (λ xs. bytes ∷ xs) two.2)
    ∙ ap (λ x. or_else (refuse_if x (fault TooManyStations line 0)) (or_else (line_fault line station_line bytes) (stations_fault (suc line) (two.0 ∷ two.1)))) t
    ∙ after_none (line_fault line station_line bytes) _ (fine-none line station_line bytes l.fine) ∙ later

pub stations-back : (row : List Station) → Each (λ s. pass admits station_line (station_numbers s) ≡ true) row → stations_in (lines_of (flat_map station_text row)) ≡ row
stations-back [] h = refl
stations-back (s ∷ row) h =
    let l = station_line_lem s h.0 in
    let bytes = join comma (paired writing station_line (station_numbers s)) in
    let two = some_piece line_end (flat_map station_text row) in
    ap stations_in (lines_of_lem station_line (station_numbers s) (flat_map station_text row) l ∙ ap (λ xs. bytes ∷ xs) two.2)
    ∙ ap₂ (λ ns ls. station_of ns ∷ stations_in ls) l.says (sym two.2)
    ∙ ap (λ xs. s ∷ xs) (stations-back row h.1)
