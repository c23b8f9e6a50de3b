use Rattle.std.proofs.Common.{subst, ⊎_elim, arith}
use Rattle.std.proofs.lemmas.Result.{err_from_is_err_and}
use Rattle.promises.specs.Bounds.{Bound}
use Rattle.search.specs.Runs.{StandsAt, RepliesWith}
use Rattle.search.proofs.Runs as runs
use Rattle.search.proofs.run.Run.search.Goals as goal
use Rattle.search.proofs.run.Run.search.Goals.{then-self-eq0+in_ok-open, else-self-eq0}

pub returns-in_err-open-clause-gives : goal.returns-in_err-open-clause-gives
returns-in_err-open-clause-gives g c =
    let p = err_from_is_err_and c.from_residual.result c.from_residual.ensures.1 in
    let o = c.in_err-open.ensures in
    rw (p.1, p.2) (⊎_elim (λ f. runs.top-refused g.S.PageSource g.R.Ranking g.met.R.Ranking.monotone c.args.self.now f c.open.new.self o.listed c.in_err-open.field-0.0 o.opens) (λ a. absurd (omega (arith, a.1.reads, c.if-self-eq0.true))))

pub returns-clause-gives : goal.returns-clause-gives
returns-clause-gives g c =
    let r = c.args.self.now in
    let end = c.reply.new.self in
    elim c.if-self-eq0.branch [
      | then-self-eq0+in_ok-open w ↦
          let o = w.in_ok-open.ensures in
          let gives = subst (λ r. (u : Bound) → StandsAt g.S.PageSource g.R.Ranking u r → RepliesWith g.S.PageSource g.R.Ranking r c.reply.result end) w.self-is c.reply.ensures.gives in
          ⊎_elim
          (λ f. runs.begun-then g.S.PageSource g.R.Ranking g.met.R.Ranking.monotone r f w.open.new.self o.listed o.kept o.opens end c.reply.result gives)
          (λ a. absurd (omega (arith, a.1.reads, w.if-self-eq0.true)))
      | else-self-eq0 w ↦
          let gives = subst (λ r. (u : Bound) → StandsAt g.S.PageSource g.R.Ranking u r → RepliesWith g.S.PageSource g.R.Ranking r c.reply.result end) w.self-is c.reply.ensures.gives in
          ⊎_elim (λ f. absurd (w.if-self-eq0.false f.0)) (λ a. gives a.0 a.1)
    ]
