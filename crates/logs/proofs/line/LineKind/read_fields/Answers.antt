use Rattle.std.proofs.Common.{◌≡◌, length, Some, sym, ap, ◌∙◌, arith}
use Rattle.logs.specs.Pieces.{fields_of}
use Rattle.logs.proofs.Fields.{going_fail, going_more, going_all}
use Rattle.logs.proofs.line.LineKind.read_fields.Goals as goal

pub returns-in_default : goal.returns-in_default
returns-in_default g c =
    let count : length (fields_of c.args.line.now) ≡ length c.args.self.now.fields = omega arith in
    going_fail count (omega arith) c.loop-place.invariant (c.in_default.ensures) ∙ ap Some (sym c.field_fault.ensures)

pub loop-place-preserved : goal.loop-place-preserved
loop-place-preserved g c =
    let count : length (fields_of c.args.line.now) ≡ length c.args.self.now.fields = omega arith in
    rw c.behind_comma-rest.ensures (going_more count (omega arith) c.loop-place.invariant c.in-Some.field.value c.in-Some.field.rest.now (c.in-Some.ensures))

pub returns : goal.returns
returns g c = going_all c.args.number c.args.line.now c.args.self.now.fields c.loop-place.numbers c.loop-place.place c.loop-place.rest.now (omega arith) c.loop-place.invariant
