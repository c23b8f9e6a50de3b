-- The stations' lines, one after another.
use Rattle.std.proofs.Common.{◌≡◌, ℕ, suc, ◌+◌, ◌<◌, ◌≤◌, Bool, true, false, eqb, ltb, List, [], ◌∷◌, ◌++◌, length, Some, None, sym, refl, ap, ◌∙◌, ap₂, append-nil, append_assoc, arith}
use Rattle.std.proofs.lemmas.List.{length_push}
use Rattle.std.proofs.lemmas.Bool.{le-ltb, lt-ltb}
use Rattle.stations.specs.declared.fault.Fault.{Fault}
use Rattle.stations.specs.declared.fault.Code.TheVariants.{TooManyStations, BadField}
use Rattle.stations.specs.declared.station.Station.{Station}
use Rattle.stations.specs.Faults.{fault, refuse_if, or_else}
use Rattle.stations.specs.Rows.{most_stations}
use Rattle.logs.specs.Pieces.{lines_of, line_end, pieces}
use Rattle.logs.specs.Fields.{station_line}
use Rattle.logs.specs.Checks.{line_fault, stations_fault, crowd_fault, station_of, stations_in}
use Rattle.logs.specs.Walks.{Taken, first_fault}
use Rattle.logs.specs.Reading.{Filled}
use Rattle.logs.proofs.Cuts.{some_piece}
use Rattle.logs.proofs.Heads.{found-two}
use Rattle.logs.proofs.Verdicts.{after_none, at_some}

-- what is left of the text decides, and the stations before it stand in the row
pub record Going (text rest : List ℕ) (row : List Station) : Type 0 where
  pub few : length row ≤ most_stations
  pub decides : stations_fault (length row + 2) (lines_of rest) ≡ stations_fault 2 (lines_of text)
  pub stations : row ++ stations_in (lines_of rest) ≡ stations_in (lines_of text)

-- the lines of a text that is not empty
module _ (line b : ℕ) (bs : List ℕ) (f : Fault) where
  h : (p : List ℕ) × (ps : List (List ℕ)) × (pieces line_end bs ≡ p ∷ ps)
  h = some_piece line_end bs

  -- there is one line too many
  crowd_first : crowd_fault line ≡ Some f → stations_fault line (lines_of (b ∷ bs)) ≡ Some f
  crowd_first e = go (eqb b line_end) refl
    where
      ended : (p : List ℕ) (ps : List (List ℕ)) → stations_fault line ((b ∷ p) ∷ ps) ≡ Some f
      ended p [] = at_some _ _ f e
      ended p (q ∷ ps) = at_some _ _ f e

      go : (t : Bool) → eqb b line_end ≡ t → stations_fault line (lines_of (b ∷ bs)) ≡ Some f
      go true t = rw (t, h.2) (at_some _ _ f e)
      go false t = rw (t, h.2) (ended h.0 h.1)

  -- the first line is refused
  refuse_first : crowd_fault line ≡ None → first_fault line station_line (lines_of (b ∷ bs)) ≡ Some f → stations_fault line (lines_of (b ∷ bs)) ≡ Some f
  refuse_first none = go (eqb b line_end) refl
    where
      ended : (p : List ℕ) (ps : List (List ℕ)) → first_fault line station_line ((b ∷ p) ∷ ps) ≡ Some f → stations_fault line ((b ∷ p) ∷ ps) ≡ Some f
      ended p [] e = after_none (crowd_fault line) (Some (fault BadField line 0)) none ∙ e
      ended p (q ∷ ps) e = after_none (crowd_fault line) (or_else (line_fault line station_line (b ∷ p)) (stations_fault (suc line) (q ∷ ps))) none ∙ at_some (line_fault line station_line (b ∷ p)) (stations_fault (suc line) (q ∷ ps)) f e

      go : (t : Bool) → eqb b line_end ≡ t → first_fault line station_line (lines_of (b ∷ bs)) ≡ Some f → stations_fault line (lines_of (b ∷ bs)) ≡ Some f
      go true t = rw (t, h.2) (λ e. after_none (crowd_fault line) (or_else (line_fault line station_line []) (stations_fault (suc line) (h.0 ∷ h.1))) none ∙ at_some (line_fault line station_line []) (stations_fault (suc line) (h.0 ∷ h.1)) f e)
      go false t = rw (t, h.2) (ended h.0 h.1)

module _ {text rest : List ℕ} {row : List Station} (g : Going text rest row) where
  -- the text is read
  pub going_all : length rest ≡ 0 → Filled text row
  going_all = go rest g
    where
      go : (bs : List ℕ) → Going text bs row → length bs ≡ 0 → Filled text row
      go [] k e = record { few = k.few; decides = sym k.decides; stations = sym (append-nil row) ∙ k.stations }
      go (b ∷ bs) k e = absurd (omega arith)

  -- there is no room in the row for what comes
  pub going_crowd : 0 < length rest → length row ≡ most_stations → stations_fault 2 (lines_of text) ≡ Some (fault TooManyStations (length row + 2) 0)
  going_crowd some full = sym g.decides ∙ go rest some
    where
      t : ltb (suc most_stations) (length row + 2) ≡ true
      t = lt-ltb _ _ (omega arith)

      go : (bs : List ℕ) → 0 < length bs → stations_fault (length row + 2) (lines_of bs) ≡ Some (fault TooManyStations (length row + 2) 0)
      go [] h = absurd (omega arith)
      go (b ∷ bs) h = crowd_first (length row + 2) b bs _ (ap (λ x. refuse_if x (fault TooManyStations (length row + 2) 0)) t)

  module _ (room : length row < most_stations) where
    space : crowd_fault (length row + 2) ≡ None
    space = let t : ltb (suc most_stations) (length row + 2) ≡ false = le-ltb _ _ (omega arith) in ap (λ x. refuse_if x (fault TooManyStations (length row + 2) 0)) t

    -- what comes is refused
    pub going_refused : (f : Fault) → 0 < length rest → first_fault (length row + 2) station_line (lines_of rest) ≡ Some f → stations_fault 2 (lines_of text) ≡ Some f
    going_refused f some e = sym g.decides ∙ go rest some e
      where
        go : (bs : List ℕ) → 0 < length bs → first_fault (length row + 2) station_line (lines_of bs) ≡ Some f → stations_fault (length row + 2) (lines_of bs) ≡ Some f
        go [] h e = absurd (omega arith)
        go (b ∷ bs) h e = refuse_first (length row + 2) b bs f space e

    -- it is accepted, and its station put into the row
    pub going_more : {ns next : List ℕ} (s : Station) → Taken (length row + 2) station_line rest ns next → s ≡ station_of ns → Going text next (row ++ s ∷ [])
    going_more {ns} {next} s taken is =
        let two = found-two taken.found in
        let later = stations_in (lines_of next) in
        let step : stations_in (lines_of rest) ≡ s ∷ later =
        ap stations_in two.3 ∙ ap₂ (λ x ls. x ∷ stations_in ls) (sym (is ∙ ap station_of taken.says)) (sym two.2) in
        let count : length (row ++ s ∷ []) + 2 ≡ suc (length row + 2) = omega (arith, length_push row s) in
        record {
          few = omega (arith, length_push row s);
          decides =
              ap (λ n. stations_fault n (lines_of next)) count
              ∙ sym (after_none (line_fault (length row + 2) station_line taken.bytes) _ taken.accepted)
              ∙ sym (after_none (crowd_fault (length row + 2)) (or_else (line_fault (length row + 2) station_line taken.bytes) (stations_fault (suc (length row + 2)) (lines_of next))) space)
              ∙ ap (λ ls. or_else (crowd_fault (length row + 2)) (or_else (line_fault (length row + 2) station_line taken.bytes) (stations_fault (suc (length row + 2)) ls))) two.2
              ∙ ap (stations_fault (length row + 2)) (sym two.3) ∙ g.decides;
          stations = append_assoc row (s ∷ []) later ∙ ap (λ xs. row ++ xs) (sym step) ∙ g.stations;
        }
