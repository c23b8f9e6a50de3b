use Rattle.std.proofs.Common.{rules}
use Rattle.rolls.proofs.Reading.{reads-page, reads_none}
use Rattle.rolls.proofs.roll.source.RollPageSource.read.Goals as goal

pub returns-in-Some : goal.returns-in-Some
returns-in-Some c = record { answer = reads-page c.args.self.now.row.now c.args.page c.in-Some.place c.page.result c.in-Some.ensures c.page.ensures; metered = search rules; same = search rules; counted = search rules }

pub returns-in-None : goal.returns-in-None
returns-in-None c = record { answer = rw c.at.ensures (reads_none c.args.self.now.row.now c.args.page c.in-None.ensures); metered = search rules; same = search rules; counted = search rules }
