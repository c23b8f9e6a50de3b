use Rattle.std.proofs.Common.{Err, ◌≡◌, ◌+◌, ap, sym, ◌∙◌, rules}
use borrow.Author.Tests.{tests}
use Rattle.std.specs.List.{position, zip}
use Rattle.std.specs.Option.{option_map}
use Rattle.stations.specs.declared.fault.Code.TheVariants.{OutOfRange}
use Rattle.stations.specs.Faults.{fault, verdict}
use Rattle.std.proofs.lemmas.Iterator.{YieldsList-from_slice, YieldsList-from_zip}
use Rattle.std.proofs.lemmas.Iterator.Consumers.{YieldsList-at}
use Rattle.std.proofs.lemmas.Iterator.Search.{position_from_yields_List}
use Rattle.logs.specs.Fields.{admits}
use Rattle.logs.proofs.Fields.{fails, fault_found}
use Rattle.logs.proofs.line.LineKind.check_ranges.Goals as goal

pub returns-in-Some : goal.returns-in-Some
returns-in-Some g c =
    let kinds = c.args.self.now.fields in
    let numbers = c.args.numbers.now in
    let line = c.args.line in
    let is : c.position-bad.result ≡ position (fails admits OutOfRange line) (zip kinds numbers) =
    position_from_yields_List {s = c.zip.result} (fails admits OutOfRange line) c.position-bad.new.self _ c.position-bad.result c.position-bad.ensures.ran
    (YieldsList-from_zip (YieldsList-at c.zip.ensures.first (YieldsList-from_slice kinds c.iter.ensures.rest)) (YieldsList-from_slice numbers c.zip.ensures.second.0)) (λ x b q k. search (rules, tests)) in
    ap Err c.field_fault.ensures ∙ ap verdict (sym (fault_found admits OutOfRange line kinds numbers c.position-bad.result is ∙ ap (option_map (λ i. fault OutOfRange line (i + 1))) c.in-Some.is))

pub returns-in-None : goal.returns-in-None
returns-in-None g c =
    let kinds = c.args.self.now.fields in
    let numbers = c.args.numbers.now in
    let line = c.args.line in
    let is : c.position-bad.result ≡ position (fails admits OutOfRange line) (zip kinds numbers) =
    position_from_yields_List {s = c.zip.result} (fails admits OutOfRange line) c.position-bad.new.self _ c.position-bad.result c.position-bad.ensures.ran
    (YieldsList-from_zip (YieldsList-at c.zip.ensures.first (YieldsList-from_slice kinds c.iter.ensures.rest)) (YieldsList-from_slice numbers c.zip.ensures.second.0)) (λ x b q k. search (rules, tests)) in
    ap verdict (sym (fault_found admits OutOfRange line kinds numbers c.position-bad.result is ∙ ap (option_map (λ i. fault OutOfRange line (i + 1))) c.in-None.is))
