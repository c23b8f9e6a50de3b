use Rattle.std.proofs.Common.{arith}
use Rattle.std.proofs.lemmas.List.Folds.{list_any-append}
use Rattle.std.proofs.lemmas.Grind.{common_steps}
use Rattle.stations.proofs.Covers.{covers_more}
use Rattle.stored.specs.Notes.{occurs}
use Rattle.stored.proofs.numbers.Numbers.push.Goals as goal

pub invariant_of-self : goal.invariant_of-self
invariant_of-self c =
    let old = c.args.self.now in
    let number = c.args.number in
    record { covered = covers_more old.marks c.mark.new.self number c.mark.ensures.lows c.mark.ensures.highs (λ n. occurs n old.all.items) _ (λ n h. grind (arith, common_steps, c.push.ensures.items, list_any-append)) old.covered }
