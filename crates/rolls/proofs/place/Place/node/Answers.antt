use Rattle.std.proofs.Common.{◌≡◌, refl, ◌+◌, ◌-◌, ◌*◌, ◌<◌, map, length, take, drop, ap, sym, ◌∙◌, arith, length-set, rules}
use Rattle.std.proofs.lemmas.List.{length-drop, take_more_set}
use Rattle.std.proofs.lemmas.List.FromFn.{length-map-range_with_len, get_or-map-range_with_len}
use Rattle.books.specs.declared.Entry.TheVariants as entries
use Rattle.rolls.specs.Rolls.{pages_of, child, children}
use Rattle.rolls.proofs.Spans.{few-pages}
use Rattle.rolls.proofs.Filling.{one_more, take_min, shows-node, some-below}
use Rattle.rolls.proofs.place.Place.node.Goals as goal

pub overflow_mul-from : goal.overflow_mul-from
overflow_mul-from c = let few = few-pages (length c.args.self.now.row.now) c.args.self.now.level c.args.self.now.few in search rules

pub overflow_add-from : goal.overflow_add-from
overflow_add-from c = let few = few-pages (length c.args.self.now.row.now) c.args.self.now.level c.args.self.now.few in search rules

pub loop-place-init : goal.loop-place-init
loop-place-init c = (refl, refl)

pub loop-place-preserved : goal.loop-place-preserved
loop-place-preserved c =
    let at = c.args.self.now in
    let made = child at.row.now (at.level - 1) at.below in
    let many = pages_of (length at.row.now) (at.level - 1) in
    let from = at.index * 12 in
    let i = c.loop-place.place in
    let here : from + i < many = omega (arith, c.loop-place-test.true, c.min-end.ensures, c.pages_of.ensures) in
    let known = c.child.ensures ∙ sym (get_or-map-range_with_len made 0 many (from + i) (from + i) c.child.result here (omega arith)) in (
      length-set _ _ _ ∙ c.loop-place.invariant.0,
      take_more_set c.loop-place.entries i (entries.Page c.child.result) (omega (arith, c.loop-place.invariant.0))
          ∙ one_more entries.Page (children at.row.now (at.level - 1) at.below) from i c.child.result c.child.result (take i c.loop-place.entries) (rw length-map-range_with_len here) known c.loop-place.invariant.1,
    )

pub returns : goal.returns
returns c =
    let at = c.args.self.now in
    let from = at.index * 12 in
    let all = children at.row.now (at.level - 1) at.below in
    let many : length all ≡ pages_of (length at.row.now) (at.level - 1) = length-map-range_with_len (child at.row.now (at.level - 1) at.below) 0 (pages_of (length at.row.now) (at.level - 1)) in
    let some = some-below (length at.row.now) at.level at.index c.requires at.there in
    let done : c.loop-place.place ≡ c.min-end.result - from = omega (arith, c.loop-place-test.false, c.loop-place.auto.place-end) in
    shows-node at.row.now at.level at.below at.index _ c.requires refl (ap (λ k. take k c.loop-place.entries) (sym done) ∙ c.loop-place.invariant.1 ∙ ap (map entries.Page) (take_min c.loop-place.place 12 (drop from all) (rw length-drop (rw many (omega (arith, some, done, c.min-end.ensures, c.pages_of.ensures))))))
