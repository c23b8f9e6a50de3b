use Rattle.std.proofs.Common.{Ok, sym, ◌∙◌, arith}
use Rattle.stored.specs.Loading.{load_fault, spelled_book}
use Rattle.stored.proofs.Counts.{passed}
use Rattle.stored.proofs.Lawfulness.{spelled-length, fair_length, both_load, spelled-lawful}
use Rattle.stored.proofs.Soundness.{load-decides}
use Rattle.stored.proofs.stored.Stored.load.Goals as goal

pub returns-in_err-check_pages-clause-sound : goal.returns-in_err-check_pages-clause-sound
unfolding load_fault
returns-in_err-check_pages-clause-sound c = load-decides c.args.bytes.now _ (grind arith)

pub invariant_of-self : goal.invariant_of-self
unfolding spelled_book
invariant_of-self c =
    let bytes = c.args.bytes.now in
    let whole = passed _ (sym c.check_length.ensures ∙ c.in_ok-check_length.was) in
    let fine = passed _ (sym c.check_pages.ensures.answer ∙ c.in_ok-check_pages.was) in
    let many = fair_length bytes whole in
    record { some = many.0; fits = many.1; sized = spelled-length bytes; lawful = ∣ spelled-lawful bytes (both_load bytes whole fine) ∣₁; marked = c.check_pages.ensures.marked c.in_ok-check_pages.was; metered = omega arith }

pub returns-clause-sound : goal.returns-clause-sound
unfolding load_fault
returns-clause-sound c = load-decides c.args.bytes.now (Ok tt) (grind arith)
