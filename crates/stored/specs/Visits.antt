use Rattle.std.specs.Prelude.{Bool, Some, None, Ok, Err, Option, Result}
use Rattle.stations.specs.declared.fault.Fault.{Fault}

-- what a visit of a page answers: its fault, or whether it can be read
abbrev pub visited : Option Fault → Bool → Result Bool Fault
visited None mark = Ok mark
visited (Some f) mark = Err f
