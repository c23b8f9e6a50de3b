use Rattle.promises.specs.Histories.{started, nexted, stopped}
use Rattle.search.proofs.Playing.{made_more}
use Rattle.search.proofs.plays.make.Goals as goal

pub returns-in-Start : goal.returns-in-Start
returns-in-Start g c rank b calls h = made_more g.S.PageSource g.R.Ranking rank b calls c.args.run.now c.start.new.self h (started c.in-Start.question c.start.result) c.args.call c.in-Start.is c.start.ensures.produces

pub returns-in-Next : goal.returns-in-Next
returns-in-Next g c rank b calls h = made_more g.S.PageSource g.R.Ranking rank b calls c.args.run.now c.next.new.self h (nexted c.next.result) c.args.call c.in-Next.is c.next.ensures.produces

pub returns-in-Stop : goal.returns-in-Stop
returns-in-Stop g c rank b calls h = made_more g.S.PageSource g.R.Ranking rank b calls c.args.run.now c.stop.new.self h (stopped c.stop.result) c.args.call c.in-Stop.is c.stop.ensures.produces
