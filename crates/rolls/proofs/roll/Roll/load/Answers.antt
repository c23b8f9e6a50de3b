use Rattle.std.proofs.Common.{sym, ◌∙◌}
use Rattle.stations.specs.Rows.{row_fault}
use Rattle.rolls.proofs.Accepting.{passed, sound, carried}
use Rattle.rolls.proofs.roll.Roll.load.Goals as goal

pub invariant_of-self : goal.invariant_of-self
invariant_of-self c =
    let s = sound c.args.row.now (passed (row_fault c.args.row.now) (sym c.check_row.ensures ∙ c.in_ok-check_row.was)) c.measure_all.ensures in
    let h = carried c.args.row.now s in
    record { few = s.few; some = h.0; fits = h.1; lawful = h.2; metered = c.args.self.now.metered }
