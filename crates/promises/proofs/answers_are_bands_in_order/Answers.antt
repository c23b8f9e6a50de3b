use Rattle.promises.proofs.Answering.{answers_are_bands}
use Rattle.promises.proofs.answers_are_bands_in_order.Goals as goal

pub returns : goal.returns
returns c = answers_are_bands
