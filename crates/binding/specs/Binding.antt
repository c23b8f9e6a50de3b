-- What is written of a log's text.
use Rattle.std.specs.Prelude.{◌≡◌, ℕ, ◌⊎◌, List, length, Some, Ok, Err, Result}
use Rattle.stations.specs.declared.fault.Fault.{Fault}
use Rattle.stations.specs.Rows.{most_stations}
use Rattle.logs.specs.Checks.{log_fault}
use Rattle.logs.specs.Rendering.{Rendered}
use Rattle.writer.specs.declared.keys.CodeKey.{CodeKey}
use Rattle.writer.specs.Writing.{write_fault, Written}

-- the text is the rendering of a log, and the first n bytes are the book of its stations; or the text is refused, or the buffer
-- is too short, and the buffer is as it was
abbrev pub Binds : List ℕ → List ℕ → List ℕ → Result ℕ Fault → Type 0
Binds text was is (Ok n) = (l : Rendered most_stations text) × (work : List CodeKey) × (work' : List CodeKey) × Written l.row work work' was is n
Binds text was is (Err f) = ((log_fault most_stations text ≡ Some f) ⊎ ((l : Rendered most_stations text) × (write_fault l.row most_stations (length was) ≡ Some f))) × (is ≡ was)
