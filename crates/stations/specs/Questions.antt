-- When a question is refused: k first, then the region.
use Rattle.std.specs.Prelude.{not, ◌||◌, Option, nat_lt}
use Rattle.stations.specs.declared.fault.Fault.{Fault}
use Rattle.stations.specs.declared.fault.Code.TheVariants.{BandCount, RegionOrder}
use Rattle.stations.specs.declared.question.Question.{Question}
use Rattle.stations.specs.Faults.{refuse_if, or_else, placeless}
use Rattle.stations.specs.Beating.{at_most}

-- k is from 1 to 8, and no low of the region is above its high
abbrev pub question_fault : Question → Option Fault
question_fault q =
    or_else (refuse_if (nat_lt q.k 1 || nat_lt 8 q.k) (placeless BandCount))
    (refuse_if (not (at_most q.region.low q.region.high)) (placeless RegionOrder))
