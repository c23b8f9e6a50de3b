use Rattle.std.proofs.Common.{◌+◌, ◌/◌, ◌%◌, min, max, ap, ◌∙◌}
use Rattle.rolls.proofs.Spans.{span-some, pages-by-span}
use Rattle.rolls.proofs.levels.pages_of.Goals as goal

pub div_ceil-requires : goal.div_ceil-requires
div_ceil-requires c = rw c.span.ensures (span-some c.args.level)

pub returns : goal.returns
returns c =
    c.max.ensures
    ∙ ap (λ n. max n 1) (c.div_ceil.ensures ∙ ap (λ s. c.args.len / s + min 1 (c.args.len % s)) c.span.ensures)
    ∙ pages-by-span c.args.len c.args.level c.requires
