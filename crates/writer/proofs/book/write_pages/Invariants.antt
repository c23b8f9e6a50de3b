use Rattle.std.proofs.Common.{◌≡◌, ◌*◌, take}
use Rattle.rolls.specs.Source.{book_of}
use Rattle.writer.specs.Bytes.{book_bytes}
use Rattle.writer.proofs.book.write_pages.Given as goal

abbrev pub invariant-loop-p : goal.invariant-loop-p
invariant-loop-p l = (book_of l.roll ≡ book_of l.initial.roll) × (take (256 * l.p) l.book ≡ book_bytes (take l.p (book_of l.initial.roll)))
