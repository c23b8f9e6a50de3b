use Rattle.std.proofs.Common.{◌+◌, ◌^◌, ◌∙◌, arith, rules}
use borrow.Author.Tests.{tests}
use Rattle.std.specs.List.{range_with_len}
use Rattle.std.proofs.lemmas.Iterator.{YieldsList-from_map}
use Rattle.std.proofs.lemmas.Iterator.Consumers.{YieldsList-at, sum_by_from_yields_List, fits_by_from_yields_list}
use Rattle.rolls.specs.Rolls.{pages_of, top_level}
use Rattle.rolls.proofs.Counts.{count-few, levels_come, levels-sum}
use Rattle.rolls.proofs.levels.page_count.Goals as goal

pub sum-requires-clause-fits : goal.sum-requires-clause-fits
sum-requires-clause-fits c =
    let n = c.args.len in
    fits_by_from_yields_list (pages_of n) (range_with_len 0 (top_level n + 1)) c.map.result (2 ^ 64)
    (YieldsList-from_map _ (pages_of n) (YieldsList-at c.map.ensures.source (levels_come c.new.result (top_level n) c.new.ensures.start (c.new.ensures.end ∙ c.top_level.ensures) c.new.ensures.exhausted)) c.map.ensures.closure (λ x r q k. search (rules, tests)))
    (omega (arith, levels-sum n, count-few n c.requires))

pub returns : goal.returns
returns c =
    let n = c.args.len in
    sum_by_from_yields_List (pages_of n) (range_with_len 0 (top_level n + 1)) c.map.result c.sum.result c.sum.ensures.ran
    (YieldsList-from_map _ (pages_of n) (YieldsList-at c.map.ensures.source (levels_come c.new.result (top_level n) c.new.ensures.start (c.new.ensures.end ∙ c.top_level.ensures) c.new.ensures.exhausted)) c.map.ensures.closure (λ x r q k. search (rules, tests)))
    ∙ levels-sum n
