use Rattle.std.proofs.Common.{length, Some, sym, refl, ap, ◌∙◌}
use Rattle.std.proofs.lemmas.Result.{err_from_is_err_and}
use Rattle.logs.proofs.Readings.{log-long, log-lines}
use Rattle.logs.proofs.log.read_log.Goals as goal

pub returns-then-text-gt-MOST_BYTES : goal.returns-then-text-gt-MOST_BYTES
returns-then-text-gt-MOST_BYTES c = record { refused = log-long (length c.args.row.now) c.args.text.now c.if-text-gt-MOST_BYTES.true ∙ ap Some (sym c.into.ensures); kept = refl }

pub returns-in_err-heading : goal.returns-in_err-heading
returns-in_err-heading c =
    let p = err_from_is_err_and c.from_residual.result c.from_residual.ensures.1 in
    rw (p.1, p.2) (record { refused = log-lines (length c.args.row.now) c.args.text.now _ c.if-text-gt-MOST_BYTES.false c.in_err-heading.ensures; kept = refl })
