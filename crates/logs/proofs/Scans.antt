-- A line is looked for token by token.
use Rattle.std.proofs.Common.{◌≡◌, ℕ, ◌+◌, ◌-◌, ◌<◌, ◌≤◌, List, [], ◌∷◌, ◌++◌, length, get_or, take, drop, take-add, sym, refl, ap, ◌∙◌, ap₂, subst, arith}
use Rattle.std.proofs.lemmas.List.{drop_more, length-drop, take-append-drop, take_all, take_rest}
use Rattle.std.proofs.ByRecursion.{All-append}
use Rattle.logs.specs.Pieces.{comma, line_end, fields_of}
use Rattle.logs.specs.Tokens.{front}
use Rattle.logs.specs.Lines.{Free, Found, Unended}
use Rattle.logs.proofs.Cuts.{whole, length-pieces, front_prefix, front-no-comma, front-no-end, front-short}

-- up to the place there is no line end, and that many commas
pub record Scan (text : List ℕ) (at commas : ℕ) : Type 0 where
  pub within : at ≤ length text
  pub free : Free line_end (take at text)
  pub counted : length (fields_of (take at text)) ≡ commas + 1
  pub bound : commas ≤ at

pub scan_none : (text : List ℕ) → Scan text 0 0
scan_none text = record { within = omega arith; free = tt; counted = refl; bound = omega arith }

scan-more : (text : List ℕ) (at commas k more : ℕ) → Scan text at commas → at + k ≤ length text → Free line_end (take k (drop at text)) → length (fields_of (take k (drop at text))) ≡ more + 1 → more ≤ k → Scan text (at + k) (commas + more)
scan-more text at commas k more s fits free count small =
    let e : take (at + k) text ≡ take at text ++ take k (drop at text) = take-add at k text in
    let both = length-pieces comma (take at text) (take k (drop at text)) in
    let sum : length (fields_of (take at text ++ take k (drop at text))) ≡ commas + more + 1 = omega (arith, both, s.counted, count) in
    record {
      within = fits;
      free = subst (Free line_end) (sym e) (All-append _ _ _ s.free free);
      counted = ap (λ xs. length (fields_of xs)) e ∙ sum;
      bound = omega (arith, s.bound, small);
    }

-- a field, which is the front of what is left
pub scan-field : (text : List ℕ) (at commas : ℕ) (bytes : List ℕ) → Scan text at commas → bytes ≡ front (drop at text) → Scan text (at + length bytes) commas
scan-field text at commas bytes s is =
    let short = front-short (drop at text) in
    let long = length-drop at text in
    let n = ap length is in
    let pre : take (length bytes) (drop at text) ≡ front (drop at text) = ap (λ k. take k (drop at text)) n ∙ front_prefix (drop at text) in
    let one : length (fields_of (front (drop at text))) ≡ 1 = ap length (whole comma _ (front-no-comma (drop at text))) in
    let fits : at + length bytes ≤ length text = omega (arith, short, long, n, s.within) in
    let t : Scan text (at + length bytes) (commas + 0) = scan-more text at commas (length bytes) 0 s fits (subst (Free line_end) (sym pre) (front-no-end (drop at text))) (ap (λ xs. length (fields_of xs)) pre ∙ one) (omega arith) in
    subst (λ n. Scan text (at + length bytes) n) (let z : commas + 0 ≡ commas = omega arith in z) t

-- a comma
pub scan-comma : (text : List ℕ) (at commas : ℕ) → Scan text at commas → at < length text → get_or text at 0 ≡ comma → Scan text (at + 1) (commas + 1)
scan-comma text at commas s lt is =
    let e : take 1 (drop at text) ≡ comma ∷ [] = ap (take 1) (drop_more text at 0 lt) ∙ ap (λ b. b ∷ []) is in
    scan-more text at commas 1 1 s (omega arith) (subst (Free line_end) (sym e) (refl, tt)) (ap (λ xs. length (fields_of xs)) e) (omega arith)

-- the line's end
pub scan-end : (text : List ℕ) (at commas : ℕ) → Scan text at commas → at < length text → get_or text at 0 ≡ line_end → Found text (take at text) (take (length text - (at + 1)) (drop (at + 1) text)) × (commas + 1 ≡ length (fields_of (take at text)))
scan-end text at commas s lt is = (
  record {
    whole =
        sym (take-append-drop at text) ∙ ap (λ xs. take at text ++ xs) (drop_more text at 0 lt)
        ∙ ap₂ (λ b xs. take at text ++ b ∷ xs) is (sym (take_rest text (at + 1)));
    free = s.free;
  },
  sym s.counted,
)

-- the end of the text
pub scan_past : (text : List ℕ) (at commas : ℕ) → Scan text at commas → length text ≤ at → Unended text
scan_past text at commas s past = whole line_end text (subst (Free line_end) (take_all at text past) s.free)
