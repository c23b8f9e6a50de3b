use Rattle.std.proofs.Common.{◌≡◌, arith, rules}
use Rattle.std.proofs.lemmas.Result.{err_from_is_err_and}
use Rattle.stations.specs.declared.fault.Code.TheVariants.{ListFull}
use Rattle.stations.specs.Faults.{fault}
use Rattle.waiting.specs.Held.{held, listing}
use Rattle.search.proofs.Runs as runs
use Rattle.search.proofs.Runs.{popped_used, refused-before, passed-before}
use Rattle.search.proofs.run.Run.turn.Goals as goal

pub returns-in_default-clause-turns : goal.returns-in_default-clause-turns
returns-in_default-clause-turns g c u h = runs.ended g.S.PageSource g.R.Ranking g.met.R.Ranking.monotone c.args.self.now u h (held c.pop.new.self) c.in_default.ensures.0

pub returns-then-not-passes-clause-falls : goal.returns-then-not-passes-clause-falls
returns-then-not-passes-clause-falls g c = omega (arith, popped_used c.args.self.now.waiting c.pop.new.self c.in-Some.first c.in-Some.ensures)

pub returns-then-not-passes-clause-turns : goal.returns-then-not-passes-clause-turns
returns-then-not-passes-clause-turns g c u h =
    let r = c.args.self.now in
    runs.aside g.S.PageSource g.R.Ranking g.met.R.Ranking.monotone r u h c.in-Some.first (held c.pop.new.self) c.in-Some.ensures (c.if-not-passes.ensures (g.R.Ranking.score r.query.ranking))

pub returns-in_err-open-in-Page-clause-turns : goal.returns-in_err-open-in-Page-clause-turns
returns-in_err-open-in-Page-clause-turns g c u h =
    let r = c.args.self.now in
    let o = c.in_err-open-in-Page.ensures in
    let p = err_from_is_err_and c.from_residual.result c.from_residual.ensures.1 in
    rw (p.1, p.2) (runs.refused g.S.PageSource g.R.Ranking g.met.R.Ranking.monotone r u h c.in-Some.first (held c.pop.new.self) c.in-Some.ensures (c.if-not-passes.ensures (g.R.Ranking.score r.query.ranking)) c.in-Page.child c.in-Page.is _ (cc) c.open.new.self o.listed c.in_err-open-in-Page.field-0.0 o.opens)

pub returns-in_err-map_err-in-Station-clause-turns : goal.returns-in_err-map_err-in-Station-clause-turns
returns-in_err-map_err-in-Station-clause-turns g c u h =
    let r = c.args.self.now in
    let s = c.in-Station.station in
    let p = err_from_is_err_and c.from_residual-in_err-map_err-in-Station.result c.from_residual-in_err-map_err-in-Station.ensures.1 in
    let full = refused-before _ c.push.result c.map_err.result c.in_err-map_err-in-Station.field-0.0 c.map_err.ensures.cases c.in_err-map_err-in-Station.was in
    let named : c.in_err-map_err-in-Station.field-0.0 ≡ fault ListFull s.number 0 = search rules in
    rw (p.1, p.2, named) (runs.list_full g.S.PageSource g.R.Ranking g.met.R.Ranking.monotone r u h c.in-Some.first (held c.pop.new.self) c.in-Some.ensures (c.if-not-passes.ensures (g.R.Ranking.score r.query.ranking)) s c.in-Station.is (listing c.push.new.self) c.push.result full.0 full.1 c.push.ensures)

pub returns-in_ok-open-in-Page-clause-falls : goal.returns-in_ok-open-in-Page-clause-falls
returns-in_ok-open-in-Page-clause-falls g c = let o = c.in_ok-open-in-Page.ensures in omega (arith, popped_used c.args.self.now.waiting c.pop.new.self c.in-Some.first c.in-Some.ensures, o.opens.1, o.few)

pub returns-in_ok-open-in-Page-clause-turns : goal.returns-in_ok-open-in-Page-clause-turns
returns-in_ok-open-in-Page-clause-turns g c u h =
    let r = c.args.self.now in
    let o = c.in_ok-open-in-Page.ensures in
    runs.entered g.S.PageSource g.R.Ranking g.met.R.Ranking.monotone r u h c.in-Some.first (held c.pop.new.self) c.in-Some.ensures (c.if-not-passes.ensures (g.R.Ranking.score r.query.ranking)) c.in-Page.child c.in-Page.is _ (cc) c.open.new.self o.listed o.opens

pub returns-in_ok-map_err-in-Station-clause-turns : goal.returns-in_ok-map_err-in-Station-clause-turns
returns-in_ok-map_err-in-Station-clause-turns g c u h =
    let r = c.args.self.now in
    runs.handed g.S.PageSource g.R.Ranking g.met.R.Ranking.monotone r u h c.in-Some.first (held c.pop.new.self) c.in-Some.ensures (c.if-not-passes.ensures (g.R.Ranking.score r.query.ranking)) c.in-Station.station c.in-Station.is (listing c.push.new.self) c.push.result (passed-before _ c.push.result c.map_err.result c.in_ok-map_err-in-Station.field-0 c.map_err.ensures.cases c.in_ok-map_err-in-Station.was) c.push.ensures
