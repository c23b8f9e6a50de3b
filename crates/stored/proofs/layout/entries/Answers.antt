use Rattle.std.proofs.Common.{◌≡◌, ◌*◌, ◌/◌, ◌≤◌, ap, ◌∙◌, length, map, take, drop, arith, length-drop}
use Rattle.std.specs.Simd.{first_chunks}
use Rattle.std.specs.List.{range_with_len}
use Rattle.std.proofs.lemmas.List.{take_all}
use Rattle.std.proofs.lemmas.List.FromFn.{take-map-range_with_len, length-map-range_with_len}
use Rattle.std.proofs.lemmas.Nat.{le-div}
use Rattle.stored.specs.Layout.{count_byte}
use Rattle.stored.proofs.Chunks.{chunks_are}
use Rattle.stored.proofs.layout.entries.Goals as goal

pub returns : goal.returns
returns g c =
    let n = g.row.N in
    let page = c.args.page.now in
    let rest = drop 8 page in
    let long : length rest ≡ 248 = omega (arith, length-drop 8 page) in
    let fit : count_byte page ≤ length rest / n = le-div (count_byte page) (length rest) n c.requires.some (omega (arith, c.requires.fit)) in
    let chunks = c.as_chunks.ensures.front ∙ ap (λ ys. first_chunks n (length ys / n) ys) (take_all 248 rest (omega arith)) ∙ chunks_are n rest (length rest / n) in
    let all = map (λ i. take n (drop (n * i) rest)) (range_with_len 0 (length rest / n)) in
    let value = ap (λ xs. take c.count.result xs) chunks ∙ ap (λ k. take k all) c.count.ensures ∙ take-map-range_with_len (λ i. take n (drop (n * i) rest)) 0 (length rest / n) (count_byte page) fit in
    record { value = value; len = ap length value ∙ length-map-range_with_len (λ i. take n (drop (n * i) rest)) 0 (count_byte page) }
