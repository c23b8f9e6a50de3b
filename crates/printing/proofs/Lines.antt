-- Bytes written from back to front.
use Rattle.std.proofs.Common.{◌≡◌, ℕ, ◌+◌, ◌<◌, ◌≤◌, List, [], ◌∷◌, ◌++◌, length, get_or, take, drop, decimal, sym, refl, ap, ◌∙◌, subst, append-nil, append_assoc, arith}
use Rattle.std.proofs.lemmas.List.{length-append, at_drop_more, take-take}
use Rattle.stations.specs.declared.measures.Measures.{Measures}
use Rattle.stations.specs.declared.station.Station.{Station}
use Rattle.stations.proofs.Rows.{nowhere}
use Rattle.printing.specs.Printed.{ender, numbered, station_numbers, closed_listing, Wrote}

-- more bytes in front of those that are written
pub wrote_more : {end : ℕ} {was bytes : List ℕ} {at : ℕ} {mid more : List ℕ} {start : ℕ} {is : List ℕ} → Wrote end was bytes at mid → Wrote at mid more start is → Wrote end was (more ++ bytes) start is
wrote_more {end} {was} {bytes} {at} {mid} {more} {start} {is} p q =
    let below : start ≤ at = omega (arith, q.ends) in
    record {
      before = q.before ∙ sym (take-take start at mid below) ∙ ap (take start) p.before ∙ take-take start at was below;
      ends = omega (arith, p.ends, q.ends, length-append more bytes);
      behind = q.behind ∙ ap (λ xs. more ++ xs) p.behind ∙ sym (append_assoc more bytes (drop end was));
    }

-- the numbers behind the rest of a line are written
pub record Part (end : ℕ) (was numbers rest : List ℕ) (next start : ℕ) (is : List ℕ) : Type 0 where
  pub done : List ℕ
  pub split : numbers ≡ rest ++ done
  pub ender_is : next ≡ ender done
  pub wrote : Wrote end was (numbered done) start is

pub part_none : (end : ℕ) (was numbers rest : List ℕ) → rest ≡ numbers → Part end was numbers rest 10 end was
part_none end was numbers rest e = record { done = []; split = sym (append-nil rest ∙ e); ender_is = refl; wrote = record { ends = omega arith; behind = refl; before = refl } }

-- the numbers that are written take no more room than all of them
numbered-longer : (xs ys : List ℕ) → length (numbered ys) ≤ length (numbered (xs ++ ys))
numbered-longer [] ys = omega arith
numbered-longer (x ∷ xs) ys = let e = length-append (decimal x) (ender (xs ++ ys) ∷ numbered (xs ++ ys)) in omega (arith, numbered-longer xs ys, e)

module _ {end : ℕ} {was numbers rest : List ℕ} {next start : ℕ} {is : List ℕ} (p : Part end was numbers rest next start is) where
  pub part-all : length rest ≡ 0 → Wrote end was (numbered numbers) start is
  part-all none = subst (λ xs. Wrote end was (numbered xs) start is) (sym (p.split ∙ front rest none)) p.wrote
    where
      front : (xs : List ℕ) → length xs ≡ 0 → xs ++ p.done ≡ p.done
      front [] e = refl
      front (x ∷ xs) e = absurd (omega arith)

  module _ (left : List ℕ) (n : ℕ) (more : rest ≡ left ++ n ∷ []) where
    again : numbers ≡ left ++ n ∷ p.done
    again = p.split ∙ ap (λ xs. xs ++ p.done) more ∙ append_assoc left (n ∷ []) p.done

    -- there is room for the number and the byte behind it
    pub part_room : length (numbered numbers) ≤ end → length (decimal n) + 1 ≤ start
    part_room room =
        omega (arith, ap (λ xs. length (numbered xs)) again, numbered-longer left (n ∷ p.done), length-append (decimal n) (ender p.done ∷ numbered p.done), p.wrote.ends)

    pub part_more : (at : ℕ) (mid : List ℕ) (first : ℕ) (after : List ℕ) → Wrote start is (next ∷ []) at mid → Wrote at mid (decimal n) first after → Part end was numbers left 44 first after
    part_more at mid first after q r =
        record {
          done = n ∷ p.done;
          split = again;
          ender_is = refl;
          wrote = subst (λ b. Wrote end was (decimal n ++ b ∷ numbered p.done) first after) p.ender_is (wrote_more (wrote_more p.wrote q) r);
        }

-- the lines behind the rest of a listing are written
pub record Rows (rank : Measures → ℕ) (last : List ℕ) (end : ℕ) (was : List ℕ) (list rest : List Station) (start : ℕ) (is : List ℕ) : Type 0 where
  pub done : List Station
  pub split : list ≡ rest ++ done
  pub wrote : Wrote end was (closed_listing rank last done) start is

module _ (rank : Measures → ℕ) (last : List ℕ) where
  listing-longer : (xs ys : List Station) → length (closed_listing rank last ys) ≤ length (closed_listing rank last (xs ++ ys))
  listing-longer [] ys = omega arith
  listing-longer (x ∷ xs) ys = omega (arith, listing-longer xs ys, length-append (numbered (station_numbers (rank x.at) x)) (closed_listing rank last (xs ++ ys)))

  pub closing_room : (list : List Station) → length last ≤ length (closed_listing rank last list)
  closing_room list = let e = ap (λ xs. length (closed_listing rank last xs)) (append-nil list) in omega (arith, listing-longer list [], e)

  -- the line at a place, and those behind it
  pub length-listing-at : (list : List Station) (i : ℕ) → i < length list → (line : List ℕ) → line ≡ numbered (station_numbers (rank (get_or list i nowhere).at) (get_or list i nowhere)) → length (closed_listing rank last (drop i list)) ≡ length line + length (closed_listing rank last (drop (i + 1) list))
  length-listing-at list i below line line_is =
      ap length (at_drop_more (closed_listing rank last) list i nowhere below ∙ ap (λ l. l ++ closed_listing rank last (drop (i + 1) list)) (sym line_is)) ∙ length-append line (closed_listing rank last (drop (i + 1) list))

  module _ {end : ℕ} {was : List ℕ} {list rest : List Station} {start : ℕ} {is : List ℕ} (p : Rows rank last end was list rest start is) where
    module _ (left : List Station) (s : Station) (more : rest ≡ left ++ s ∷ []) (line : List ℕ) (line_is : line ≡ numbered (station_numbers (rank s.at) s)) where
      rows-again : list ≡ left ++ s ∷ p.done
      rows-again = p.split ∙ ap (λ xs. xs ++ p.done) more ∙ append_assoc left (s ∷ []) p.done

      pub rows_room : length (closed_listing rank last list) ≤ end → length line ≤ start
      rows_room room =
          omega (arith, ap (λ xs. length (closed_listing rank last xs)) rows-again, listing-longer left (s ∷ p.done), length-append line (closed_listing rank last p.done), ap (λ l. length (l ++ closed_listing rank last p.done)) line_is, p.wrote.ends)

      pub rows_more : (first : ℕ) (after : List ℕ) → Wrote start is line first after → Rows rank last end was list left first after
      rows_more first after q =
          record {
            done = s ∷ p.done;
            split = rows-again;
            wrote = subst (λ l. Wrote end was (l ++ closed_listing rank last p.done) first after) line_is (wrote_more p.wrote q);
          }
