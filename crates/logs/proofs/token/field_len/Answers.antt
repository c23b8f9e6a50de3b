use Rattle.std.proofs.Common.{not, ap, ◌∙◌, rules}
use borrow.Author.Tests.{tests}
use Rattle.std.proofs.lemmas.Iterator.{YieldsList-from_slice}
use Rattle.std.proofs.lemmas.Iterator.Consumers.{count_from_yields_List, YieldsList-at}
use Rattle.std.proofs.lemmas.Iterator.Search.{YieldsList-from_take_while}
use Rattle.std.proofs.lemmas.List.Folds.{length-prefix_len}
use Rattle.logs.specs.Tokens.{parts}
use Rattle.logs.proofs.Cuts.{front_is}
use Rattle.logs.proofs.token.field_len.Goals as goal
use Rattle.std.proofs.Common.{take}

pub returns-clause-bytes : goal.returns-clause-bytes
returns-clause-bytes c =
    let text = c.args.text.now in
    let counted = count_from_yields_List c.take_while.result c.count.result c.count.ensures.ran
    (YieldsList-from_take_while _ (λ b. not (parts b)) (YieldsList-at c.take_while.ensures.source (YieldsList-from_slice text c.iter.ensures.rest)) c.take_while.ensures.closure c.take_while.ensures.done (λ x b q k. search (rules, tests))) in
    ap (λ n. take n text) (counted ∙ length-prefix_len (λ b. not (parts b)) text) ∙ front_is text
