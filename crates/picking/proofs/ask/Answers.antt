-- The check asks for each of the answers here, and of those of `pick` and `print_search`.
use Rattle.std.proofs.Common.{◌∙◌}
use Rattle.logs.specs.Checks.{log_fault}
use Rattle.logs.proofs.Verdicts.{verdict-ok, verdict-err, at_some, after_none}
use Rattle.stored.specs.Loading.{load_fault}
use Rattle.stored.specs.Meaning.{book_of}
use Rattle.picking.proofs.Ends.{prints_as}
use Rattle.picking.proofs.Picking.{asked, loaded, refused_asking}
use Rattle.picking.proofs.Promising.{ask_promises}
use Rattle.picking.proofs.ask.Goals as goal

pub returns : goal.returns
returns c =
    let a = c.in-Ok.ensures in
    let bytes = c.args.book.now in
    let fine = verdict-ok (load_fault bytes) c.in_default.ensures.answer in
    let k = asked a a.accepted bytes fine (book_of c.load.new.self) (loaded bytes (book_of c.new-stored.result) (book_of c.load.new.self) fine c.load.ensures.book) in
    record {
      promised = ask_promises bytes c.args.text.now;
      prints = prints_as _ _ _ _ c.args.print.now c.print_search.new.print c.print_search.result k.0 k.1 c.print_search.ensures.prints;
    }

pub returns-in-Err : goal.returns-in-Err
returns-in-Err c =
    let bytes = c.args.book.now in
    let text = c.args.text.now in
    let k = refused_asking bytes text c.in-Err.fault (at_some (log_fault 0 text) (load_fault bytes) c.in-Err.fault c.in-Err.ensures.refused) in
    record {
      promised = ask_promises bytes text;
      prints = prints_as _ _ _ _ c.args.print.now c.report_refusal.new.out c.report_refusal.result k.0 k.1 c.report_refusal.ensures;
    }

pub returns-in-Err-load : goal.returns-in-Err-load
returns-in-Err-load c =
    let bytes = c.args.book.now in
    let text = c.args.text.now in
    let a = c.in-Ok.ensures in
    let k = refused_asking bytes text c.in-Err-load.fault (after_none (log_fault 0 text) (load_fault bytes) a.accepted ∙ verdict-err (load_fault bytes) c.in-Err-load.fault c.in-Err-load.ensures.answer) in
    record {
      promised = ask_promises bytes text;
      prints = prints_as _ _ _ _ c.args.print.now c.report_refusal-in-Err-load.new.out c.report_refusal-in-Err-load.result k.0 k.1 c.report_refusal-in-Err-load.ensures;
    }
