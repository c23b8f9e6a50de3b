use Rattle.std.proofs.Common.{◌≡◌, Err, sym, ap, ◌∙◌, rules}
use borrow.Author.Tests.{tests}
use Rattle.std.specs.List.{position}
use Rattle.std.specs.Option.{option_map}
use Rattle.std.proofs.lemmas.Iterator.{YieldsList-from_slice}
use Rattle.std.proofs.lemmas.Iterator.Search.{position_from_yields_List}
use Rattle.stations.specs.declared.fault.Code.TheVariants.{OutOfRange}
use Rattle.stations.specs.Faults.{fault, verdict}
use Rattle.stations.proofs.Rows.{zero, zero_found}
use Rattle.stations.proofs.row.check_zero.Goals as goal

pub returns-in-Some : goal.returns-in-Some
returns-in-Some c =
    let row = c.args.row.now in
    let is : c.position.result ≡ position zero row =
    position_from_yields_List {s = c.iter.result} zero c.position.new.self _ c.position.result c.position.ensures.ran
    (YieldsList-from_slice row c.iter.ensures.rest) (λ x b q k. search (rules, tests)) in
    ap Err c.at.ensures ∙ ap verdict (sym (zero_found row c.position.result is ∙ ap (option_map (λ i. fault OutOfRange i 0)) c.in-Some.is))

pub returns : goal.returns
returns c =
    let row = c.args.row.now in
    let is : c.position.result ≡ position zero row =
    position_from_yields_List {s = c.iter.result} zero c.position.new.self _ c.position.result c.position.ensures.ran
    (YieldsList-from_slice row c.iter.ensures.rest) (λ x b q k. search (rules, tests)) in
    ap verdict (sym (zero_found row c.position.result is ∙ ap (option_map (λ i. fault OutOfRange i 0)) c.in_default.is))
