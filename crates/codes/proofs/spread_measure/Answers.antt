use Rattle.std.proofs.Common.{◌≡◌, ◌/◌, ◌%◌, get_or, ap, ◌∙◌, arith}
use Rattle.codes.specs.Codes.{spread}
use Rattle.codes.proofs.Spreads.{spread-bytes, spread-small}
use Rattle.codes.proofs.spread_measure.Goals as goal

pub returns : goal.returns
returns c =
    let x = c.args.measure in
    let bytes = c.to_be_bytes.result in
    let high : get_or bytes 0 0 ≡ x / 256 = ap (λ b. get_or b 0 0) c.to_be_bytes.ensures ∙ omega arith in
    let low : get_or bytes 1 0 ≡ x % 256 = ap (λ b. get_or b 1 0) c.to_be_bytes.ensures ∙ omega arith in
    let high-spread = ap (spread 8) high in
    let low-spread = ap (spread 8) low in
    let whole = spread-bytes x in
    let low-small = spread-small 8 (x % 256) in
    let high-small = spread-small 8 (x / 256) in
    record { value = omega arith; small = omega arith }
