-- What a read gives.
use Rattle.std.proofs.Common.{◌≡◌, ℕ, zero, suc, ◌<◌, ◌≤◌, List, length, Ok, Err, MatchBool, Result, sym, refl, ◌∙◌, subst, ⊎_elim}
use Rattle.std.proofs.lemmas.List.{get_or_past}
use Rattle.std.proofs.lemmas.Bool.{cases_lt, lt-ltb, le-ltb}
use Rattle.stations.specs.declared.fault.Fault.{Fault}
use Rattle.stations.specs.declared.fault.Code.TheVariants.{PageNumber}
use Rattle.stations.specs.declared.station.Station.{Station}
use Rattle.stations.specs.Faults.{fault}
use Rattle.books.specs.Books.{dead, slot, IsLive}
use Rattle.sources.specs.declared.page.Page.{Page}
use Rattle.sources.specs.Sources.{Shows, Gives, Reads}
use Rattle.rolls.specs.declared.place.Place.{Place}
use Rattle.rolls.specs.Rolls.{page_count, page_at, roll_book}
use Rattle.rolls.specs.Places.{StandsAt, Stands}
use Rattle.rolls.proofs.Spans.{page-live}
use Rattle.rolls.proofs.Counts.{length_roll}

gives : (row : List Station) (l below i p : ℕ) (page : Page) → Shows (page_at row l below i) page → Gives p (page_at row l below i) (Ok page)
gives row zero below i p page h = h
gives row (suc l) below i p page h = h

module _ (row : List Station) (p : ℕ) where
  -- a page that stands somewhere is one of the book's
  counts : (l i below : ℕ) → StandsAt row p l i below → p < length (roll_book row)
  counts l i below s =
      ⊎_elim (λ here. here) (λ past. absurd (subst IsLive (sym s.holds ∙ get_or_past (roll_book row) p dead past) (page-live row l below i))) (cases_lt p (length (roll_book row)))

  reads-at : (l i below : ℕ) (page : Page) → StandsAt row p l i below → Shows (page_at row l below i) page → Reads (roll_book row) (length (roll_book row)) p (Ok page)
  reads-at l i below page s h =
      subst (λ t. MatchBool t (Gives p (slot (roll_book row) p) (Ok page)) (Ok page ≡ Err (fault PageNumber p 0))) (sym (lt-ltb p (length (roll_book row)) (counts l i below s))) (subst (λ b. Gives p b (Ok page)) (sym s.holds) (gives row l below i p page h))

  pub reads-page : (at : Place) (page : Page) → Stands row p at → Shows (page_at at.row.now at.level at.below at.index) page → Reads (roll_book row) (length (roll_book row)) p (Ok page)
  reads-page at page s h = reads-at at.level at.index at.below page s.stands (subst (λ r. Shows (page_at r at.level at.below at.index) page) s.within h)

  pub reads_none : page_count (length row) ≤ p → Reads (roll_book row) (length (roll_book row)) p (Err (fault PageNumber p 0))
  reads_none h =
      let r : Result Page Fault = Err (fault PageNumber p 0) in
      subst (λ t. MatchBool t (Gives p (slot (roll_book row) p) r) (r ≡ Err (fault PageNumber p 0))) (sym (le-ltb p (length (roll_book row)) (rw length_roll h))) refl
