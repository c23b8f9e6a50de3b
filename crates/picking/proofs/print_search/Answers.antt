use Rattle.std.proofs.Common.{[]}
use Rattle.rankings.specs.Scores.{ranker_score}
use Rattle.promises.specs.Histories.{nothing}
use Rattle.rankings.specs.ScoresLemmas.{ranker_rises}
use Rattle.picking.proofs.Promising.{keeps_promises}
use Rattle.picking.proofs.Ends.{refused-start, searched, prints_as}
use Rattle.picking.proofs.print_search.Goals as goal

pub returns-in-Err : goal.returns-in-Err
returns-in-Err g c =
    let rank = ranker_score c.args.ranking in
    let b = g.S.PageSource.book c.args.source in
    let p = c.start.ensures.produces rank b [] nothing 0 (c.new-run.ensures.produces 0) in
    let k = refused-start g.S.PageSource.book g.S.PageSource.meter ranker_score rank b c.args.question c.start.result _ c.start.new.self p c.in-Err.fault c.in-Err.is in
    record {
      promised = keeps_promises rank b c.args.question (ranker_rises c.args.ranking) (g.S.PageSource.laws.lawful c.args.source);
      prints = prints_as _ _ _ _ c.args.print.now c.report_refusal.new.out c.report_refusal.result k.0 k.1 c.report_refusal.ensures;
    }

pub returns : goal.returns
returns g c =
    let rank = ranker_score c.args.ranking in
    let b = g.S.PageSource.book c.args.source in
    let p = c.start.ensures.produces rank b [] nothing 0 (c.new-run.ensures.produces 0) in
    let d = c.drive-end.ensures.driven rank b _ _ _ p in
    let t = c.tally-pages.ensures.produced rank b _ d.stands _ d.produces in
    let k = searched g.S.PageSource.book g.S.PageSource.meter ranker_score rank b c.args.question c.start.result _ c.start.new.self p c.in_default.not-Err c.drive-end.result c.drive-end.new.self d c.tally-pages.result.0 t.0 c.listed.result.now c.listed.ensures.fields in
    record {
      promised = keeps_promises rank b c.args.question (ranker_rises c.args.ranking) (g.S.PageSource.laws.lawful c.args.source);
      prints = prints_as _ _ _ _ c.args.print.now c.print_end.new.print c.print_end.result k.0 k.1 c.print_end.ensures;
    }
