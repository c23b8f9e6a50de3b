use Rattle.std.proofs.Common.{refl, ap, ◌∙◌, arith}
use Rattle.printing.proofs.Lines.{part_none, part-all, part_room, part_more}
use Rattle.printing.proofs.Printer.put_line.Goals as goal

pub loop-n-init : goal.loop-n-init
loop-n-init c = record {
  same = refl;
  part = part_none _ _ _ _ (ap (λ i. i.iter.rest.now) c.into_iter-n-iterator.ensures.into_iter_gives ∙ ap (λ i. i.rest.now) c.rev-n-items.ensures.source ∙ c.iter.ensures.rest);
}

pub put-requires : goal.put-requires
put-requires c = omega (arith, part_room c.loop-n.invariant.part c.next.new.self.iter.rest.now c.in-Some.n.now c.in-Some.ensures.steps c.requires)

pub write_digits-self-requires : goal.write_digits-self-requires
write_digits-self-requires c = (omega (arith, part_room c.loop-n.invariant.part c.next.new.self.iter.rest.now c.in-Some.n.now c.in-Some.ensures.steps c.requires, c.put.ensures.wrote.ends), c.put.new.self.within)

pub loop-n-preserved : goal.loop-n-preserved
loop-n-preserved c = record {
  same = c.put.ensures.same ∙ c.loop-n.invariant.same;
  part = part_more c.loop-n.invariant.part c.next.new.self.iter.rest.now c.in-Some.n.now c.in-Some.ensures.steps c.put.new.self.start c.put.new.self.out.now c.write_digits-self.result c.write_digits-self.new.buf c.put.ensures.wrote (record { ends = c.write_digits-self.ensures.start; behind = c.write_digits-self.ensures.written; before = c.write_digits-self.ensures.before });
}

pub returns-clause-wrote : goal.returns-clause-wrote
returns-clause-wrote c = part-all c.loop-n.invariant.part c.in-None.ensures.steps.0
