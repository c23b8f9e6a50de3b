use Rattle.std.proofs.Common.{◌≡◌, ◌*◌, ◌<◌, ◌≤◌, ◌⊎◌, length, drop, Some, Err, sym, refl, ap, ◌∙◌, subst, inl, inr, arith}
use Rattle.std.proofs.lemmas.List.{length-take-le, drop_at}
use Rattle.std.proofs.lemmas.Result.{err_from_is_err_and}
use Rattle.rolls.specs.Rolls.{roll_book}
use Rattle.writer.specs.Keys.{code_order}
use Rattle.writer.specs.Writing.{Writes}
use Rattle.writer.proofs.Writes.{row-refused, short-refused, none-refused, storable, order-fine, order-pages, written}
use Rattle.writer.proofs.book.write_book.Goals as goal
use Rattle.writer.proofs.book.write_book.Goals.{then-work-row-via-then-work-row, then-work-row-via-else-work-row+then-book-pages}

pub returns-in_err-pages : goal.returns-in_err-pages
returns-in_err-pages c =
    let row = c.args.row.now in
    let work = c.args.work.now in
    let book = c.args.book.now in
    let p = err_from_is_err_and c.from_residual.result c.from_residual.ensures.1 in
    subst (Writes row work work book book) (sym (p.1 ∙ ap Err p.2))
    (row-refused row (length work) (length book) c.in_err-pages.field-0.0 c.in_err-pages.ensures, refl, refl)

pub returns-then-work-row : goal.returns-then-work-row
returns-then-work-row c =
    let row = c.args.row.now in
    let counted = c.in_ok-pages.ensures in
    let many = counted.1 in
    let short : (length c.args.work.now < length row) ⊎ (length c.args.book.now < 256 * length (roll_book row)) =
    elim c.then-work-row.branch [
      | then-work-row-via-then-work-row w ↦ inl w.if-work-row.true
      | then-work-row-via-else-work-row+then-book-pages w ↦ inr (let k = w.if-book-pages.true in omega arith)
    ] in
    let fault = short-refused row (length c.args.work.now) (length c.args.book.now) counted.0 short in
    (fault ∙ ap Some (sym c.into.ensures), refl, refl)

pub write_pages-requires : goal.write_pages-requires
write_pages-requires c =
    let row = c.args.row.now in
    let counted = c.in_ok-pages.ensures in
    let many = counted.1 in
    let sorted = c.as_slice.result.now in
    let order : sorted ≡ code_order row = c.as_slice.ensures.value ∙ c.sort_by_code.ensures.order in
    let fine = storable row counted.0 c.sort_by_code.ensures.numbers c.sort_by_code.ensures.measures in
    let same = order-pages row sorted order in
    let cut = length-take-le (256 * c.in_ok-pages.pages) c.args.book.now (omega arith) in
    record { fine = order-fine row sorted fine order; places = omega arith }

pub returns : goal.returns
returns c =
    let row = c.args.row.now in
    let counted = c.in_ok-pages.ensures in
    let many = counted.1 in
    let sorted = c.as_slice.result.now in
    let order : sorted ≡ code_order row = c.as_slice.ensures.value ∙ c.sort_by_code.ensures.order in
    let fine = storable row counted.0 c.sort_by_code.ensures.numbers c.sort_by_code.ensures.measures in
    let places : length row ≤ length c.args.work.now = c.if-work-row.false in
    let cut = length-take-le (256 * c.in_ok-pages.pages) c.args.book.now (omega arith) in
    let keys = c.sort_by_code.new.keys in
    let kept = drop_at keys (drop (length row) c.args.work.now) (length row) (let n = length-take-le (length row) c.args.work.now places in omega arith) in
    let bytes : 256 * length (roll_book row) ≤ length c.args.book.now = omega arith in (
      none-refused row (length c.args.work.now) (length c.args.book.now) counted.0 places bytes,
      written row sorted c.args.work.now _ c.args.book.now c.write_pages.new.book c.in_ok-pages.pages fine order many c.write_pages.ensures.bytes (omega arith) kept,
    )
