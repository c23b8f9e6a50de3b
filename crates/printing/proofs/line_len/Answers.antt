use Rattle.std.proofs.Common.{◌+◌, ◌^◌, ◌≡◌, ◌≤◌, length, decimal, length-append, arith, rules}
use borrow.Author.Tests.{tests}
use Rattle.std.specs.List.{sum_by}
use Rattle.std.proofs.lemmas.Iterator.{YieldsList-from_slice, YieldsList-from_map}
use Rattle.std.proofs.lemmas.Iterator.Consumers.{YieldsList-at, sum_by_from_yields_List, fits_by_from_yields_list}
use Rattle.printing.specs.Printed.{numbered}
use Rattle.printing.proofs.Lengths.{numbered-sum, numbered-few}
use Rattle.printing.proofs.line_len.Goals as goal

pub sum-digits-requires-clause-fits : goal.sum-digits-requires-clause-fits
sum-digits-requires-clause-fits c =
    let ns = c.args.numbers.now in
    fits_by_from_yields_list (λ n. length (decimal n) + 1) ns c.map.result (2 ^ 64)
    (YieldsList-from_map _ (λ n. length (decimal n) + 1) (YieldsList-at c.map.ensures.source (YieldsList-from_slice ns c.iter.ensures.rest)) c.map.ensures.closure (λ x r q k. search (rules, tests)))
    (omega (arith, numbered-sum ns, numbered-few ns c.type_inv.numbers, c.requires.few))

pub overflow_add-result : goal.overflow_add-result
overflow_add-result c =
    let ns = c.args.numbers.now in
    let is : c.sum-digits.result ≡ sum_by (λ n. length (decimal n) + 1) ns =
    sum_by_from_yields_List (λ n. length (decimal n) + 1) ns c.map.result c.sum-digits.result c.sum-digits.ensures.ran
    (YieldsList-from_map _ (λ n. length (decimal n) + 1) (YieldsList-at c.map.ensures.source (YieldsList-from_slice ns c.iter.ensures.rest)) c.map.ensures.closure (λ x r q k. search (rules, tests))) in
    let few : length c.args.word.now + c.sum-digits.result ≤ 176 = omega (arith, is, numbered-sum ns, numbered-few ns c.type_inv.numbers, c.requires.few, c.requires.short) in
    search rules

pub returns : goal.returns
returns c =
    let ns = c.args.numbers.now in
    let is : c.sum-digits.result ≡ sum_by (λ n. length (decimal n) + 1) ns =
    sum_by_from_yields_List (λ n. length (decimal n) + 1) ns c.map.result c.sum-digits.result c.sum-digits.ensures.ran
    (YieldsList-from_map _ (λ n. length (decimal n) + 1) (YieldsList-at c.map.ensures.source (YieldsList-from_slice ns c.iter.ensures.rest)) c.map.ensures.closure (λ x r q k. search (rules, tests))) in
    record {
      value = omega (arith, is, numbered-sum ns, length-append c.args.word.now (numbered ns));
      bound = omega (arith, is, numbered-sum ns, numbered-few ns c.type_inv.numbers, c.requires.few, c.requires.short);
    }
