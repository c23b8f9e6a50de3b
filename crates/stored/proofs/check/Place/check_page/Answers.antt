use Rattle.std.proofs.Common.{◌≡◌, ◌-◌, suc, true, sym, ap, ◌∙◌, arith}
use Rattle.stations.specs.Faults.{verdict}
use Rattle.stored.specs.Layout.{level_byte, children_of}
use Rattle.stored.specs.Listed.{listed}
use Rattle.stored.specs.Checks.{is_fair_header, is_below, children_fault, entries_fault}
use Rattle.stored.proofs.Leveled.{live_node, entries_decide}
use Rattle.stored.proofs.check.Place.check_page.Goals as goal

pub returns-else-level-eq0-clause-answer : goal.returns-else-level-eq0-clause-answer
returns-else-level-eq0-clause-answer c =
    let s = c.args.self in
    let seen = c.args.seen.now in
    let page = c.args.page.now in
    let chunks = c.entries-else-level-eq0.result.now in
    let fair : is_fair_header s.page page ≡ true = cc in
    let below : is_below s.naming (level_byte page) ≡ true = cc in
    let up : c.level-level.result ≡ suc (level_byte page - 1) = omega arith in
    c.check_children.ensures.answer
    ∙ ap (λ l. verdict (children_fault s.pages s.page s.naming l seen.notes 0 (children_of chunks))) up
    ∙ ap verdict (sym (entries_decide s.pages s.page s.naming seen.notes (listed seen.numbers) page fair below ∙ ap (entries_fault s.pages s.page s.naming seen.notes (listed seen.numbers)) (live_node page chunks (omega arith) c.entries-else-level-eq0.ensures.value)))
