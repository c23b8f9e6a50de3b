use Rattle.std.proofs.Common.{◌≡◌, Some, None, Ok, Err, ◌∙◌, rules}
use Rattle.std.proofs.lemmas.Result.{err_from_is_err_and}
use Rattle.search.specs.Runs.{said}
use Rattle.search.proofs.Runs as runs
use Rattle.search.proofs.run.Run.reply.Goals as goal

pub returns-in_err-found-clause-gives : goal.returns-in_err-found-clause-gives
returns-in_err-found-clause-gives g c =
    let p = err_from_is_err_and c.from_residual.result c.from_residual.ensures.1 in
    let i = c.loop-found.invariant in
    let end : said c.turn.result ≡ Some (Err c.in_err-found.field-0.0) = search rules in
    rw (p.1, p.2) (runs.replies_then g.S.PageSource g.R.Ranking c.args.self.now c.loop-found.self c.turn.new.self i.2 (said c.turn.result) c.turn.ensures.turns (Err c.in_err-found.field-0.0) end i.0 i.1)

pub returns-in-Break-clause-gives : goal.returns-in-Break-clause-gives
returns-in-Break-clause-gives g c =
    let i = c.loop-found.invariant in
    let end : said c.turn.result ≡ Some (Ok c.in-Break.found) = search rules in
    runs.replies_then g.S.PageSource g.R.Ranking c.args.self.now c.loop-found.self c.turn.new.self i.2 (said c.turn.result) c.turn.ensures.turns (Ok c.in-Break.found) end i.0 i.1

pub loop-found-preserved : goal.loop-found-preserved
loop-found-preserved g c =
    let o = c.turn.ensures in
    let i = c.loop-found.invariant in
    let on : said c.turn.result ≡ None = search rules in
    let lists = rw on at o.lists in (
      runs.kept_then g.S.PageSource g.R.Ranking c.args.self.now c.loop-found.self c.turn.new.self i.0 o.kept,
      lists ∙ i.1,
      runs.comes-on g.S.PageSource g.R.Ranking c.args.self.now c.loop-found.self c.turn.new.self i.2 (said c.turn.result) o.turns on o.kept,
    )
