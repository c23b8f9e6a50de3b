use Rattle.std.proofs.Common.{◌≡◌, ◌+◌, ◌-◌, ◌*◌, ◌<◌, ◌≤◌, length, take, Err, sym, refl, ap, ◌∙◌, arith}
use Rattle.std.proofs.lemmas.List.{take_all}
use Rattle.books.specs.Books.{slot}
use Rattle.rolls.specs.Rolls.{roll_book}
use Rattle.rolls.specs.Source.{book_of, roll_laws}
use Rattle.writer.specs.Bytes.{slot_bytes, book_bytes}
use Rattle.writer.proofs.Pages.{loaded, read-seen, shown-bytes, page-more}
use Rattle.writer.proofs.Rows.{roll_live}
use Rattle.writer.proofs.Spelling.{slot-length}
use Rattle.writer.proofs.book.write_pages.Goals as goal

pub loop-p-init : goal.loop-p-init
unfolding book_bytes
loop-p-init c = (refl, refl)

pub returns-in_err-read : goal.returns-in_err-read
returns-in_err-read c =
    let row = c.args.row.now in
    let is-roll = ap length (loaded c.load.new.self row _ c.requires.fine c.load.ensures.row) in
    let now-many = ap length c.loop-p.invariant.0 in
    let end = c.pages-p-end.ensures in
    let below : c.loop-p.p < length (book_of c.loop-p.roll) = omega arith in
    absurd (read-seen (book_of c.loop-p.roll) (length (book_of c.loop-p.roll)) c.loop-p.p (Err c.in_err-read.field-0.0) below (roll_live c.loop-p.roll.row.now c.loop-p.p below) c.in_err-read.ensures.answer)

pub loop-p-preserved : goal.loop-p-preserved
loop-p-preserved c =
    let b = book_of c.load.new.self in
    let p = c.loop-p.p in
    let row = c.args.row.now in
    let is-roll = loaded c.load.new.self row _ c.requires.fine c.load.ensures.row in
    let many = ap length is-roll in
    let now-many = ap length c.loop-p.invariant.0 in
    let end = c.pages-p-end.ensures in
    let below : p < length b = omega arith in
    let below-now : p < length (book_of c.loop-p.roll) = omega arith in
    let seen = read-seen (book_of c.loop-p.roll) (length (book_of c.loop-p.roll)) p _ below-now (roll_live c.loop-p.roll.row.now p below-now) c.in_ok-read.ensures.answer in
    let bytes = c.copy_from_slice.ensures.after ∙ c.encode-page.ensures ∙ shown-bytes (slot (book_of c.loop-p.roll) p) c.in_ok-read.field-0 seen ∙ ap (λ x. slot_bytes (slot x p)) c.loop-p.invariant.0 in
    let full = ap length bytes ∙ slot-length (slot b p) ((roll_laws.lawful c.load.new.self).sizes p) in
    let part : 256 * p + 256 - 256 * p ≡ 256 = omega arith in
    let room : 256 * length b ≤ length c.loop-p.book = omega arith in (
      c.read.ensures.same ∙ c.loop-p.invariant.0,
      page-more b p below c.loop-p.book c.copy_from_slice.new.self _ bytes full part room c.loop-p.invariant.1,
    )

pub returns : goal.returns
returns c =
    let row = c.args.row.now in
    let p = c.loop-p.p in
    let b = book_of c.load.new.self in
    let is-roll = loaded c.load.new.self row _ c.requires.fine c.load.ensures.row in
    let many = ap length is-roll in
    let end = c.pages-p-end.ensures in
    let whole : take p b ≡ roll_book row = take_all p b (omega arith) ∙ is-roll in
    record {
      done = refl;
      bytes = sym (take_all (256 * p) c.loop-p.book (omega arith)) ∙ c.loop-p.invariant.1 ∙ ap book_bytes whole;
    }
