use Rattle.std.proofs.Common.{refl, ap, ◌∙◌, arith}
use Rattle.codes.specs.Codes.{spread}
use Rattle.codes.proofs.Spreads.{entry-spread}
use Rattle.codes.proofs.spread_byte.Goals as goal

pub returns : goal.returns
unfolding spread
returns c = entry-spread _ refl c.from.result (omega arith) ∙ ap (spread 8) c.from.ensures
