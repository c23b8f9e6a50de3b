use Rattle.writer.proofs.Puts.{over-zeros}
use Rattle.writer.proofs.bytes.filled.Goals as goal

pub returns : goal.returns
returns c = over-zeros c.args.bytes.now c.copy_from_slice.new.self c.copy_from_slice.ensures.after c.requires
