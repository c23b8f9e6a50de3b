use Rattle.std.proofs.Common.{◌≡◌, ℕ, [], ◌∷◌, length, get_or, sym, ap, ◌∙◌, subst, arith}
use Rattle.std.proofs.Math.Seq.{get_or-append_seam}
use Rattle.std.proofs.lemmas.List.{get_or_append_left, length-replicate}
use Rattle.logs.specs.Pieces.{comma, line_end}
use Rattle.logs.specs.Values.{Closed}
use Rattle.logs.specs.declared.field.FieldKind.{FieldKind}
use Rattle.logs.specs.declared.field.FieldKind.TheVariants.{Letter}
use Rattle.logs.proofs.Walks.{Walk, walk_none, walk_more, walk_end}
use Rattle.logs.proofs.line.LineKind.walk_line.Goals as goal

pub loop-place-init : goal.loop-place-init
loop-place-init g c = walk_none c.args.text.now c.args.self.now.fields _ (omega (arith, length-replicate {A = ℕ} g.row.N 0))

pub loop-place-preserved : goal.loop-place-preserved
loop-place-preserved g c =
    let text = c.args.text.now in
    let kinds = c.args.self.now.fields in
    let j = c.loop-place.place in
    let field = c.in_ok-field.field in
    let cases = c.in_ok-last.ensures.cases in
    let kind : get_or c.in_ok-last.others.now j Letter ≡ get_or kinds j Letter = sym (ap (λ ks. get_or ks j Letter) cases.0 ∙ get_or_append_left c.in_ok-last.others.now (c.in_ok-last.last.now ∷ []) Letter j (omega arith)) in
    walk_more text kinds c.loop-place.numbers j c.loop-place.rest.now c.loop-place.invariant (omega arith) field.value field.rest.now
    (subst (λ (k : FieldKind). Closed k c.loop-place.rest.now comma field.value field.rest.now) kind c.in_ok-field.ensures)

pub returns : goal.returns
returns g c =
    let text = c.args.text.now in
    let kinds = c.args.self.now.fields in
    let last = length c.in_ok-last.others.now in
    let field = c.in_ok-field-2.field in
    let cases = c.in_ok-last.ensures.cases in
    let all : c.loop-place.place ≡ last = omega arith in
    let kind : c.in_ok-last.last.now ≡ get_or kinds last Letter = sym (ap (λ ks. get_or ks last Letter) cases.0 ∙ get_or-append_seam c.in_ok-last.others.now c.in_ok-last.last.now [] Letter) in
    let walk = subst (λ (j : ℕ). Walk text kinds c.loop-place.numbers j c.loop-place.rest.now) all c.loop-place.invariant in
    walk_end text kinds c.loop-place.numbers last c.loop-place.rest.now walk (omega arith) field.value field.rest.now (omega arith)
    (subst (λ (k : FieldKind). Closed k c.loop-place.rest.now line_end field.value field.rest.now) kind c.in_ok-field-2.ensures)
