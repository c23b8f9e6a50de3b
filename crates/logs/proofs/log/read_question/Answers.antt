use Rattle.logs.specs.Fields.{question_line}
use Rattle.logs.proofs.Heads.{headed, question-numbers}
use Rattle.logs.proofs.Verdicts.{fine-numbers}
use Rattle.logs.proofs.log.read_question.Goals as goal

pub ranking_of-requires : goal.ranking_of-requires
ranking_of-requires c = let taken = c.in_ok-line.ensures in (fine-numbers 1 question_line taken.bytes c.in_ok-line.line.value taken.accepted taken.says).1

pub question_of-requires : goal.question_of-requires
question_of-requires c = let taken = c.in_ok-line.ensures in (fine-numbers 1 question_line taken.bytes c.in_ok-line.line.value taken.accepted taken.says).1

pub returns : goal.returns
returns c =
    let taken = c.in_ok-line.ensures in
    let long = (fine-numbers 1 question_line taken.bytes c.in_ok-line.line.value taken.accepted taken.says).0 in
    headed c.ranking_of.result c.question_of.result taken (question-numbers c.ranking_of.result c.question_of.result c.in_ok-line.line.value long c.ranking_of.ensures.letter c.ranking_of.ensures.weights c.question_of.ensures)
