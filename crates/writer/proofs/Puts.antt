-- Bytes put one after the other.
use Rattle.std.proofs.Common.{◌≡◌, ℕ, ◌+◌, ◌<◌, ◌≤◌, List, [], ◌∷◌, ◌++◌, length, get_or, take, drop, replicate, sym, ap, ◌∙◌}
use Rattle.std.specs.List.{flat_map}
use Rattle.std.proofs.lemmas.List.{take_more, flat_map_more, drop-replicate}
use Rattle.books.specs.declared.Entry.{Entry}
use Rattle.writer.specs.Bytes.{entry_bytes, filled}

-- one more entry
pub one_more : (es : List Entry) (i : ℕ) (e : Entry) → i < length es → e ≡ get_or es i e → flat_map entry_bytes (take (i + 1) es) ≡ flat_map entry_bytes (take i es) ++ entry_bytes e
one_more es i e h is = ap (flat_map entry_bytes) (take_more es i e h ∙ ap (λ x. take i es ++ x ∷ []) (sym is)) ∙ sym (flat_map_more entry_bytes [] (take i es) e)

-- bytes put over the first zeros of a page
pub over-zeros : (bytes put : List ℕ) → put ≡ bytes → length bytes ≤ 256 → put ++ drop (length bytes) (replicate 256 0) ≡ filled bytes
over-zeros bytes put e h =
    let n = length bytes in
    ap (λ front. front ++ drop n (replicate 256 0)) e ∙ ap (λ zeros. bytes ++ zeros) (drop-replicate n 256 0)
