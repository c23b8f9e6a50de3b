use Rattle.std.proofs.Common.{◌≡◌, drop}
use Rattle.frames.specs.Frames.{header_from}
use Rattle.frames.proofs.header.Given as goal

-- what is left decides
abbrev pub invariant-loop-i : goal.invariant-loop-i
invariant-loop-i l = header_from l.len (drop l.i l.input) ≡ header_from 0 l.input
