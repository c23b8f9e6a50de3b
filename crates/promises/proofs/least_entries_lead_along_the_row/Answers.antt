use Rattle.promises.proofs.least_entries_lead_along_the_row.Goals as goal
use Rattle.promises.proofs.Turning.{turning}

pub returns : goal.returns
returns c = turning
