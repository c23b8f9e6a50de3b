-- A search driven to its end has come to what the definitions say.
use Rattle.std.proofs.Common.{◌≡◌, ℕ, List, [], ◌∷◌, ◌++◌, length, Some, None, Ok, Err, Option, Result, sym, refl, ap, ◌∙◌, subst, arith}
use Rattle.stations.specs.declared.measures.Measures.{Measures}
use Rattle.stations.specs.declared.station.Station.{Station}
use Rattle.stations.specs.declared.question.Question.{Question}
use Rattle.stations.specs.declared.fault.Fault.{Fault}
use Rattle.stations.specs.Faults.{or_else, verdict}
use Rattle.stations.specs.Questions.{question_fault}
use Rattle.books.specs.Books.{Book}
use Rattle.logs.proofs.Verdicts.{verdict-err}
use Rattle.printing.specs.declared.closing.Closing.TheVariants as closing
use Rattle.printing.specs.Printed.{closing_line, closed_listing, refusal, refused_or, Prints}
use Rattle.printing.specs.declared.report.Report.{Report}
use Rattle.promises.specs.Bands.{bands}
use Rattle.promises.specs.Searching.{Ending, done, halted, last_reply, ending, handed}
use Rattle.promises.specs.Histories as histories
use Rattle.promises.specs.Histories.{Event, started, Standing, nothing, asked, after_start, Takes, History, phase_by, Promised}
use Rattle.search.specs.declared.run.Run.{Run}
use Rattle.waiting.specs.Held.{listing as listed}
use Rattle.waiting.specs.States.{limits}
use Rattle.search.specs.Relation.{pages_opened, Produces}
use Rattle.search.specs.Playing.{question_of, end_of, Ends, Driven}
use Rattle.search.proofs.Driving.{last_call}
use Rattle.picking.specs.Picks.{halt_of, closing_of, fault_in, closing_at, pages_at_end, search_fault, search_lines}

-- how a search has ended, by what driving it gave
abbrev Agrees : Ending → Result (Unit {0}) Fault → Type 0
Agrees end e = (halt_of end ≡ fault_in e) × ((pages : ℕ) → closing_of end pages ≡ closing_at e pages)

agrees : (end : Ending) (e : Result (Unit {0}) Fault) → end_of e ≡ phase_by (last_reply end) → Agrees end e
agrees done (Ok u) h = (refl, λ pages. refl)
agrees done (Err f) h = let z : ◌≡◌ {A = ℕ} 0 1 = cc in absurd (omega arith)
agrees (halted f κ) (Ok u) h = let z : ◌≡◌ {A = ℕ} 0 1 = cc in absurd (omega arith)
agrees (halted f κ) (Err g) h = let s : f ≡ g = cc in (ap Some s, λ pages. ap closing.Refused s)

not-searching : (e : Result (Unit {0}) Fault) → end_of e ≡ histories.searching → ⊥
not-searching (Ok u) h = let z : ◌≡◌ {A = ℕ} 0 1 = cc in omega arith
not-searching (Err f) h = let z : ◌≡◌ {A = ℕ} 0 1 = cc in omega arith

module _ (rank : Measures → ℕ) (b : Book) (question : Question) where
  -- a question that is refused is refused by its first fault
  pub start-says : (r : Result (Unit {0}) Fault) (stands : Standing) → History rank b limits ([] ++ started question r ∷ []) stands → r ≡ verdict (question_fault question)
  start-says r stands h = let l = last_call rank b _ stands h [] (started question r) refl in l.1.0

  module _ (list : List Station) (pages : ℕ) (e : Result (Unit {0}) Fault) where
    -- what is printed at the end is what the definitions say
    abbrev Comes : Type 0
    Comes = (search_fault rank b question ≡ fault_in e) × (search_lines rank b question ≡ closed_listing rank (closing_line (closing_at e pages)) list)

    comes-asked : (question' : Question) (n : ℕ) → question' ≡ question → Ends rank b (asked question' n) e → (question_fault question' ≡ None) × Promised (bands rank question') b limits n list → pages ≡ length (pages_opened rank b (asked question' n)) → Comes
    comes-asked question' n is ends promised tallied =
        let q = bands rank question' in
        let end = ending q b limits in
        let ended = promised.1.ended (λ s. not-searching e (sym ends ∙ s)) in
        let same = agrees end e (sym ends ∙ ended.0) in
        let count : pages_at_end q b ≡ pages = ap length (sym ended.2) ∙ sym tallied in
        let fault : search_fault rank b question' ≡ fault_in e = ap (λ o. or_else o (halt_of end)) promised.0 ∙ same.0 in
        let lines : search_lines rank b question' ≡ closed_listing rank (closing_line (closing_at e pages)) list =
        ap (λ o. refused_or o (closed_listing rank (closing_line (closing_of end (pages_at_end q b))) (handed q b limits))) promised.0
        ∙ ap (λ n. closed_listing rank (closing_line (closing_of end n)) (handed q b limits)) count
        ∙ ap (λ c. closed_listing rank (closing_line c) (handed q b limits)) (same.1 pages)
        ∙ ap (closed_listing rank (closing_line (closing_at e pages))) (sym ended.1)
        in
        subst (λ x. (search_fault rank b x ≡ fault_in e) × (search_lines rank b x ≡ closed_listing rank (closing_line (closing_at e pages)) list)) is (fault, lines)

    pub comes : (stands : Standing) → question_of stands ≡ Some question → Ends rank b stands e → ((question : Question) (n : ℕ) → stands ≡ asked question n → (question_fault question ≡ None) × Promised (bands rank question) b limits n list) → pages ≡ length (pages_opened rank b stands) → (search_fault rank b question ≡ fault_in e) × (search_lines rank b question ≡ closed_listing rank (closing_line (closing_at e pages)) list)
    comes nothing is ends promised tallied = let z : ◌≡◌ {A = ℕ} 0 1 = cc in absurd (omega arith)
    comes (asked question' n) is ends promised tallied = let s : question' ≡ question = cc in comes-asked question' n s ends (promised question' n refl) tallied

-- a question that is not refused stands
stands_by : (question : Question) (o : Option Fault) → ((f : Fault) → verdict o ≡ Err f → ⊥) → question_of (after_start question o nothing) ≡ Some question
stands_by question (Some f) not_err = absurd (not_err f refl)
stands_by question None not_err = refl

module _ {S R : Type 0} (book : S → Book) (meter : S → ℕ) (score : R → Measures → ℕ) (rank : Measures → ℕ) (b : Book) (question : Question) (r : Result (Unit {0}) Fault) (m : ℕ) (run : Run S R) (p : Produces book meter score rank b ([] ++ started question r ∷ []) (after_start question (question_fault question) nothing) m run) where
  says : r ≡ verdict (question_fault question)
  says = start-says rank b question r _ p.history

  pub refused-start : (f : Fault) → r ≡ Err f → (search_fault rank b question ≡ Some f) × (search_lines rank b question ≡ refusal f)
  refused-start f is =
      let o = verdict-err (question_fault question) f (sym is ∙ says) in
      (ap (λ x. or_else x (halt_of (ending (bands rank question) b limits))) o, ap (λ x. refused_or x (closed_listing rank (closing_line (closing_of (ending (bands rank question) b limits) (pages_at_end (bands rank question) b))) (handed (bands rank question) b limits))) o)

  pub searched : ((f : Fault) → r ≡ Err f → ⊥) → (e : Result (Unit {0}) Fault) (after : Run S R) (d : Driven book meter score rank b ([] ++ started question r ∷ []) (after_start question (question_fault question) nothing) m e after) (pages : ℕ) → pages ≡ length (pages_opened rank b d.stands) → (list : List Station) → list ≡ listed after.listed →
      (search_fault rank b question ≡ fault_in e) × (search_lines rank b question ≡ closed_listing rank (closing_line (closing_at e pages)) list)
  searched not_err e after d pages tallied list is =
      comes rank b question list pages e d.stands (d.same ∙ stands_by question (question_fault question) (λ f h. not_err f (says ∙ h))) d.ends
      (λ question n h. let k = d.promised question n h in (k.0, subst (Promised (bands rank question) b limits n) (sym is) k.1)) tallied

-- the same bytes and the same end, under other names
pub prints_as : (why why' : Option Fault) (bytes bytes' was is : List ℕ) (r : Result Report Fault) → why ≡ why' → bytes ≡ bytes' → Prints why' bytes' was is r → Prints why bytes was is r
prints_as why why' bytes bytes' was is r e f p = subst (λ x. Prints x bytes was is r) (sym e) (subst (λ x. Prints why' x was is r) (sym f) p)
