use Rattle.std.proofs.Common.{sym, ◌∙◌}
use Rattle.rolls.proofs.Counts.{length_roll}
use Rattle.rolls.proofs.roll.Roll.pages.Goals as goal

pub returns : goal.returns
returns c = c.page_count.ensures ∙ sym (length_roll c.args.self.now.row.now)
