use Rattle.std.proofs.Common.{◌≡◌}
use Rattle.printing.proofs.Lines.{Part}
use Rattle.printing.proofs.Printer.put_line.Given as goal

abbrev pub invariant-loop-n : goal.invariant-loop-n
invariant-loop-n l = record {
  same : l.self.out.ghost_name ≡ l.initial.self.out.ghost_name;
  part : Part l.initial.self.start l.initial.self.out.now l.numbers l.n-iterator.iter.rest.now l.behind l.self.start l.self.out.now;
}
