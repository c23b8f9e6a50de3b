-- What a report says.
use Rattle.std.specs.Prelude.{ℕ, Bool, is_none}
use Rattle.printing.specs.declared.report.Report.{Report}

-- how many bytes were printed
abbrev pub length_of : Report → ℕ
length_of r = r.len

-- the listing is complete
abbrev pub is_complete : Report → Bool
is_complete r = is_none r.refusal
