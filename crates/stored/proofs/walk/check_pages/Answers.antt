use Rattle.std.proofs.Common.{◌≡◌, ◌++◌, [], length, get_or, take, is_ok, Err, sym, ap, ◌∙◌, arith}
use Rattle.std.proofs.lemmas.List.{append-nil, at_drop_all}
use Rattle.std.proofs.lemmas.Result.{err_from_is_err_and}
use Rattle.stations.specs.Faults.{verdict}
use Rattle.stored.specs.Listed.{listed}
use Rattle.stored.specs.Loading.{page_count, slots_from, marks}
use Rattle.stored.proofs.Walking.{visit_passed, visit_failed, few_more, walk_failed, walk_on, marks_on}
use Rattle.stored.proofs.walk.check_pages.Goals as goal

pub returns-in_err-live-clause-answer : goal.returns-in_err-live-clause-answer
returns-in_err-live-clause-answer c =
    let seen = c.loop-p.seen in
    let pages = c.as_chunks.result.0.now in
    let q = err_from_is_err_and c.from_residual.result c.from_residual.ensures.1 in
    let e = visit_failed _ _ _ (sym c.visit.ensures.answer ∙ c.in_err-live.was) in
    q.1 ∙ ap Err q.2 ∙ ap verdict (sym (walk_failed (length pages) c.loop-p.p seen.notes (listed seen.numbers) pages c.loop-p-test.true _ e) ∙ c.loop-p.invariant.0)

pub loop-p-preserved : goal.loop-p-preserved
loop-p-preserved c =
    let seen = c.loop-p.seen in
    let p = c.loop-p.p in
    let pages = c.as_chunks.result.0.now in
    let fine = ap is_ok c.in_ok-live.was in
    let e = visit_passed _ _ _ (sym c.visit.ensures.answer ∙ c.in_ok-live.was) in
    let noted = c.visit.ensures.noted fine in
    let more = c.visit.ensures.listed fine in
    let step = walk_on (length pages) p seen.notes (listed seen.numbers) pages c.loop-p-test.true e.0 in
    let mark = marks_on (length pages) p seen.notes (listed seen.numbers) pages c.loop-p-test.true c.loop-p.live c.in_ok-live.field-0 (omega arith) e.1 in
    let before = c.loop-p.invariant in (cc, cc, omega (arith, ap length more, few_more (length pages) p seen.notes (listed seen.numbers) (get_or pages p []) e.0))

pub returns-clause-marked : goal.returns-clause-marked
returns-clause-marked c fine =
    let pages = c.as_chunks.result.0.now in
    let p = c.loop-p.p in
    let here : page_count c.args.bytes.now ≡ p = omega (arith, c.as_chunks.ensures.front_len) in
    ap (λ n. take n c.loop-p.live) here ∙ sym (at_drop_all (λ rest. take p c.loop-p.live ++ marks (slots_from p c.loop-p.seen.notes rest)) pages p c.loop-p-test.false ∙ append-nil (take p c.loop-p.live)) ∙ c.loop-p.invariant.1
