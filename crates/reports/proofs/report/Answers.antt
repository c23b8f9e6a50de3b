use Rattle.std.proofs.Common.{Ok, Err}
use Rattle.std.proofs.lemmas.Result.{err_from_is_err_and}
use Rattle.reports.proofs.Reporting.{reported_done, reported_short, reported_refused, lines_answered, lines_refused}
use Rattle.reports.proofs.report.Goals as goal

pub returns-in_err-print_answer-in-Ok : goal.returns-in_err-print_answer-in-Ok
returns-in_err-print_answer-in-Ok c =
    let p = err_from_is_err_and c.from_residual.result c.from_residual.ensures.1 in
    let a = c.in-Ok.ensures in
    let f = c.in_err-print_answer-in-Ok.field-0.0 in
    rw (p.1, p.2) (record {
      reported = reported_short a c.args.print.now c.print_answer.new.print f c.in_err-print_answer-in-Ok.ensures;
      lines = lines_answered a a.accepted c.args.print.now c.print_answer.new.print (Err f) c.in_err-print_answer-in-Ok.ensures;
    })

pub returns-in_ok-print_answer-in-Ok : goal.returns-in_ok-print_answer-in-Ok
returns-in_ok-print_answer-in-Ok c =
    let a = c.in-Ok.ensures in
    let n = c.in_ok-print_answer-in-Ok.field-0 in
    record {
      reported = reported_done a c.args.print.now c.print_answer.new.print n c.in_ok-print_answer-in-Ok.ensures;
      lines = lines_answered a a.accepted c.args.print.now c.print_answer.new.print (Ok n) c.in_ok-print_answer-in-Ok.ensures;
    }

pub returns-in-Err : goal.returns-in-Err
returns-in-Err c =
    let refused = c.in-Err.ensures.refused in
    record {
      reported = reported_refused c.args.text.now c.in-Err.fault refused c.args.print.now c.report_refusal.new.out c.report_refusal.result c.report_refusal.ensures;
      lines = lines_refused c.args.text.now c.in-Err.fault refused c.args.print.now c.report_refusal.new.out c.report_refusal.result c.report_refusal.ensures;
    }
