use Rattle.std.proofs.Common.{◌≡◌, map, take, sym, ap, ◌∙◌, arith}
use Rattle.std.proofs.lemmas.List.{take_all}
use Rattle.books.specs.Books.{entries_on}
use Rattle.books.specs.declared.Entry.TheVariants as entry
use Rattle.stored.specs.Layout.{live, level_byte, stations_of, children_of}
use Rattle.stored.proofs.Leveled.{live_leaf, live_node}
use Rattle.stored.proofs.Shown.{level_is, entries_are}
use Rattle.stored.proofs.showing.page_at.Goals.{then-level-eq0+else-loop-place-test, else-level-eq0+else-loop-place-else-level-eq0-test}
use Rattle.stored.proofs.showing.page_at.Goals as goal

pub returns : goal.returns
returns c =
    let page = c.args.page.now in
    let n = c.count.result in
    let is : take n c.if-level-eq0.shown ≡ entries_on (live page) = elim c.if-level-eq0.branch [
      | then-level-eq0+else-loop-place-test w ↦
          (let chunks = w.entries-bytes-items.result.now in
          let is = live_leaf page chunks (sym c.level-level.ensures ∙ w.if-level-eq0.true) w.entries-bytes-items.ensures.value in
          let done : n ≡ w.loop-place.place = omega (arith, c.count.ensures, w.entries-bytes-items.ensures.len, w.loop-place-test.false, w.loop-place.auto.place-end) in
          let all = take_all w.loop-place.place chunks (omega (arith, w.loop-place-test.false)) in
          ap (take n) w.shown-is ∙ ap (λ k. take k w.loop-place.shown) done ∙ w.loop-place.invariant.1 ∙ ap (λ bs. map entry.Station (stations_of bs)) all ∙ sym (ap entries_on is))
      | else-level-eq0+else-loop-place-else-level-eq0-test w ↦
          (let chunks = w.entries-bytes-items-else-level-eq0.result.now in
          let is = live_node page chunks (omega arith) w.entries-bytes-items-else-level-eq0.ensures.value in
          let done : n ≡ w.loop-place-else-level-eq0.place = omega (arith, c.count.ensures, w.entries-bytes-items-else-level-eq0.ensures.len, w.loop-place-else-level-eq0-test.false, w.loop-place-else-level-eq0.auto.place-end) in
          let all = take_all w.loop-place-else-level-eq0.place chunks (omega (arith, w.loop-place-else-level-eq0-test.false)) in
          ap (take n) w.shown-is ∙ ap (λ k. take k w.loop-place-else-level-eq0.shown) done ∙ w.loop-place-else-level-eq0.invariant.1 ∙ ap (λ bs. map entry.Page (children_of bs)) all ∙ sym (ap entries_on is))
    ] in
    record { shows = record { levels = c.level-level.ensures ∙ sym (level_is (level_byte page) page); shown = is }; by_place = is ∙ entries_are (level_byte page) page }
