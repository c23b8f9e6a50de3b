use Rattle.std.proofs.Common.{take, ap, ◌∙◌}
use Rattle.rolls.specs.Rolls.{roll_book}
use Rattle.rolls.specs.Source.{book_of, row_in, taken}
use Rattle.logs.proofs.ReadAs.{row-sound}
use Rattle.picking.proofs.Ends.{prints_as}
use Rattle.picking.proofs.Picking.{never_refused, picked, refused_text}
use Rattle.picking.proofs.Promising.{pick_promises, picks-answer}
use Rattle.picking.proofs.pick.Goals as goal

pub returns-in_err-load : goal.returns-in_err-load
returns-in_err-load c = never_refused c.in_err-load.field-0.0 _ c.in_err-load.ensures.answer (row-sound c.in-Ok.ensures)

pub returns : goal.returns
returns c =
    let a = c.in-Ok.ensures in
    let row = take c.in-Ok.log.count c.read_log.new.row in
    let b = ap roll_book (c.load.ensures.row ∙ ap (λ o. taken o row (row_in c.new-roll.result)) (row-sound a)) in
    let k = picked a a.accepted (book_of c.load.new.self) b in
    record {
      promised = pick_promises c.args.text.now;
      answers = picks-answer c.args.text.now;
      prints = prints_as _ _ _ _ c.args.print.now c.print_search.new.print c.print_search.result k.0 k.1 c.print_search.ensures.prints;
    }

pub returns-in-Err : goal.returns-in-Err
returns-in-Err c =
    let k = refused_text c.args.text.now c.in-Err.fault c.in-Err.ensures.refused in
    record {
      promised = pick_promises c.args.text.now;
      answers = picks-answer c.args.text.now;
      prints = prints_as _ _ _ _ c.args.print.now c.report_refusal.new.out c.report_refusal.result k.0 k.1 c.report_refusal.ensures;
    }
