use Rattle.std.proofs.Common.{◌^◌, ◌<◌, sym, rules, arith}
use Rattle.printing.proofs.Lengths.{one_digit, digits_counted}
use Rattle.printing.proofs.decimal_len.Goals as goal

pub returns-in-Some-clause-value : goal.returns-in-Some-clause-value
returns-in-Some-clause-value c =
    let small : c.args.n < 2 ^ 64 = search rules in
    sym (digits_counted c.in-Some.log c.args.n small c.in-Some.ensures.power_le c.in-Some.ensures.next_power_gt)

pub returns-in-None-clause-value : goal.returns-in-None-clause-value
returns-in-None-clause-value c = one_digit c.args.n (omega (arith, c.in-None.ensures.none))
