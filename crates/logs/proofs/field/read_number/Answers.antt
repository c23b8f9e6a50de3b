use Rattle.std.proofs.Common.{◌≡◌, ◌<◌, ◌≤◌, ◌⊎◌, true, ◌++◌, length, get_or, drop, sym, ap, ◌∙◌, inl, inr, arith}
use Rattle.std.proofs.lemmas.List.{take_rest}
use Rattle.logs.specs.Tokens.{front, is_end}
use Rattle.logs.proofs.Cuts.{front_whole}
use Rattle.logs.proofs.Spelling.{all_read, runs_on, empty_first, zero-first, first_byte, spelled-from}
use Rattle.logs.proofs.field.read_number.Goals as goal
use Rattle.logs.proofs.field.read_number.Goals.{then-len-eq0-via-then-len-eq0, then-len-eq0-via-else-len-eq0+then-not-is_end, else-text-eq48-via-then-text-eq48+else-len-gt1, else-text-eq48-via-else-text-eq48}

pub returns-then-len-eq0 : goal.returns-then-len-eq0
returns-then-len-eq0 c =
    let text = c.args.text.now in
    let n = c.read_digits-number.result.number in
    let len = c.read_digits-number.result.len in
    let so = c.read_digits-number.ensures in
    elim c.then-len-eq0.branch [
      | then-len-eq0-via-then-len-eq0 w ↦ empty_first text n len so.read w.if-len-eq0.true so.stops
      | then-len-eq0-via-else-len-eq0+then-not-is_end w ↦ runs_on text n len so.read so.most so.stops (ap is_end (sym (take_rest text len)) ∙ sym w.is_end.ensures ∙ w.if-not-is_end.true)
    ]

pub returns-then-len-gt1 : goal.returns-then-len-gt1
returns-then-len-gt1 c =
    let text = c.args.text.now in
    let len = c.read_digits-number.result.len in
    let ends : is_end (drop len text) ≡ true = ap is_end (sym (take_rest text len)) ∙ sym c.is_end.ensures ∙ c.if-not-is_end.false in
    let read = all_read text c.read_digits-number.result.number len c.read_digits-number.ensures.read ends in
    zero-first (front text) (first_byte text (omega (arith, read.2)) ∙ c.if-text-eq48.true) (omega (arith, read.2))

pub returns : goal.returns
returns c =
    let text = c.args.text.now in
    let field = front text in
    let len = c.read_digits-number.result.len in
    let so = c.read_digits-number.ensures in
    let ends : is_end (drop len text) ≡ true = ap is_end (sym (take_rest text len)) ∙ sym c.is_end.ensures ∙ c.if-not-is_end.false in
    let read = all_read text c.read_digits-number.result.number len so.read ends in
    let some : 0 < length field = omega (arith, read.2) in
    let first = first_byte text some in
    let lead : ((get_or field 0 0 ≡ 48) × (length field ≤ 1)) ⊎ (get_or field 0 0 ≡ 48 → ⊥) =
    elim c.else-text-eq48.either [
      | inl e ↦ inl (first ∙ e.0, omega (arith, read.2, e.1))
      | inr e ↦ inr (λ z. e (sym first ∙ z))
    ] in
    record {
      written = spelled-from field some (omega (arith, read.2, so.most)) lead read.0;
      says = read.1;
      whole = front_whole text ∙ ap (λ n. front text ++ drop n text) (sym read.2) ∙ ap (λ xs. front text ++ xs) (sym (take_rest text len));
    }
