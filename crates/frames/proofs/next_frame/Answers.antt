use Rattle.std.proofs.Common.{◌≡◌, Some, None, take, sym, ap, ◌∙◌, arith}
use Rattle.std.specs.Option.{option_map}
use Rattle.std.proofs.lemmas.List.{take_rest}
use Rattle.frames.specs.Frames.{header_from}
use Rattle.frames.proofs.Headers.{no_header, too_short, frame-is}
use Rattle.frames.proofs.next_frame.Goals as goal

pub returns-in_err-len : goal.returns-in_err-len
returns-in_err-len c =
    let none : header_from 0 c.args.input.now ≡ None = sym c.header.ensures ∙ ap (option_map (λ h. (h.0, h.1.now))) c.in_err-len.was in
    rw c.from_residual.ensures (no_header c.args.input.now none)

pub returns-then-rest-len : goal.returns-then-rest-len
returns-then-rest-len c =
    let some : header_from 0 c.args.input.now ≡ Some (c.in_ok-len.len, c.in_ok-len.rest.now) = sym c.header.ensures ∙ ap (option_map (λ h. (h.0, h.1.now))) c.in_ok-len.was in
    too_short c.args.input.now c.in_ok-len.len c.in_ok-len.rest.now some c.if-rest-len.true

pub returns : goal.returns
returns c =
    let some : header_from 0 c.args.input.now ≡ Some (c.in_ok-len.len, c.in_ok-len.rest.now) = sym c.header.ensures ∙ ap (option_map (λ h. (h.0, h.1.now))) c.in_ok-len.was in
    ap (λ r. Some (take c.in_ok-len.len c.in_ok-len.rest.now, r)) (take_rest c.in_ok-len.rest.now c.in_ok-len.len) ∙ frame-is c.args.input.now c.in_ok-len.len c.in_ok-len.rest.now some (omega (arith, c.if-rest-len.false))
