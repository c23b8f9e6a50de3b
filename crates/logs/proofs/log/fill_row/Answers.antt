use Rattle.std.proofs.Common.{◌≡◌, true, false, ltb, ◌++◌, length, take, drop, Some, None, sym, refl, ap, ◌∙◌, subst, arith}
use Rattle.std.proofs.lemmas.List.{take_at, drop_at}
use Rattle.std.proofs.lemmas.Result.{err_from_is_err_and}
use Rattle.std.proofs.lemmas.Bool.{lt-ltb, le-ltb}
use Rattle.stations.specs.declared.fault.Code.TheVariants.{ShortBuffer}
use Rattle.stations.specs.Faults.{placeless, refuse_if}
use Rattle.stations.specs.Rows.{row_fault}
use Rattle.stations.specs.Questions.{question_fault}
use Rattle.logs.specs.Rendering.{rendering, Valid}
use Rattle.logs.proofs.Verdicts.{verdict-ok, verdict-err, at_some, after_none}
use Rattle.logs.proofs.Readings.{log-lines, log-after, shown_is, valid_is}
use Rattle.logs.proofs.log.fill_row.Goals as goal

pub returns-in_err-read_stations : goal.returns-in_err-read_stations
returns-in_err-read_stations c text short head =
    let p = err_from_is_err_and c.from_residual.result c.from_residual.ensures.1 in
    rw (p.1, p.2) (record { refused = log-lines (length c.args.row.now) text _ short (head.decides ∙ c.in_err-read_stations.ensures); kept = refl })

pub returns-in_err-check_row : goal.returns-in_err-check_row
returns-in_err-check_row c text short head =
    let p = err_from_is_err_and c.from_residual-in_err-check_row.result c.from_residual-in_err-check_row.ensures.1 in
    let after = log-after short head c.in_ok-read_stations.ensures (length c.args.row.now) in
    let fault = ap row_fault (sym c.deref.ensures.0) ∙ verdict-err _ _ c.in_err-check_row.ensures in
    rw (p.1, p.2) (record { refused = after ∙ at_some (row_fault c.read_stations.new.row.items) _ _ fault; kept = refl })

pub returns-in_err-check : goal.returns-in_err-check
returns-in_err-check c text short head =
    let p = err_from_is_err_and c.from_residual-in_err-check.result c.from_residual-in_err-check.ensures.1 in
    let row = c.read_stations.new.row.items in
    let question = c.args.log.question in
    let after = log-after short head c.in_ok-read_stations.ensures (length c.args.row.now) in
    let rows : row_fault row ≡ None = ap row_fault (sym c.deref.ensures.0) ∙ verdict-ok _ c.in_ok-check_row.ensures in
    rw (p.1, p.2) (record { refused = after ∙ after_none (row_fault row) _ rows ∙ at_some (question_fault question) _ _ (verdict-err _ _ c.in_err-check.ensures); kept = refl })

pub returns-then-count-row : goal.returns-then-count-row
returns-then-count-row c text short head =
    let row = c.read_stations.new.row.items in
    let question = c.args.log.question in
    let room = length c.args.row.now in
    let after = log-after short head c.in_ok-read_stations.ensures room in
    let rows : row_fault row ≡ None = ap row_fault (sym c.deref.ensures.0) ∙ verdict-ok _ c.in_ok-check_row.ensures in
    let asked : question_fault question ≡ None = verdict-ok _ c.in_ok-check.ensures in
    let t : ltb room (length row) ≡ true = lt-ltb room (length row) (omega (arith, c.len-count.ensures.value, c.if-count-row.true)) in
    record {
      refused = after ∙ after_none (row_fault row) _ rows ∙ after_none (question_fault question) _ asked ∙ ap (λ x. refuse_if x (placeless ShortBuffer)) t ∙ ap Some (sym c.into.ensures);
      kept = refl;
    }

pub returns : goal.returns
returns c text short head =
    let heading = c.args.log in
    let row = c.read_stations.new.row.items in
    let count = c.len-count.result in
    let room = length c.args.row.now in
    let filled = c.in_ok-read_stations.ensures in
    let after = log-after short head filled room in
    let rows : row_fault row ≡ None = ap row_fault (sym c.deref.ensures.0) ∙ verdict-ok _ c.in_ok-check_row.ensures in
    let asked : question_fault heading.question ≡ None = verdict-ok _ c.in_ok-check.ensures in
    let t : ltb room (length row) ≡ false = le-ltb room (length row) (omega (arith, c.len-count.ensures.value, c.if-count-row.false)) in
    let copied : c.copy_from_slice.new.self ≡ row = c.copy_from_slice.ensures.after ∙ c.deref-2.ensures.0 in
    let long : length c.copy_from_slice.new.self ≡ count = ap length copied ∙ sym c.len-count.ensures.value in
    let first : take count (c.copy_from_slice.new.self ++ drop count c.args.row.now) ≡ row = take_at _ _ count long ∙ copied in
    record {
      accepted = after ∙ after_none (row_fault row) _ rows ∙ after_none (question_fault heading.question) _ asked ∙ ap (λ x. refuse_if x (placeless ShortBuffer)) t;
      shown = shown_is short head filled ∙ ap (rendering heading.ranking heading.question) (sym first);
      valid = subst (Valid heading.ranking heading.question) (sym first) (valid_is short head filled rows asked);
      fits = c.if-count-row.false;
      rest = drop_at _ _ count long;
    }
