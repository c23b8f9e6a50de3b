use Rattle.std.proofs.Common.{replicate, refl}
use Rattle.stations.specs.Rows.{most_stations}
use Rattle.binding.proofs.Bound.{bound}
use Rattle.binding.proofs.bind_log.Goals as goal

pub returns : goal.returns
returns c = bound c.in_ok-log.ensures (replicate most_stations c.default-work.result) c.write_book.new.work c.args.book.now c.write_book.new.book refl c.write_book.result c.write_book.ensures
