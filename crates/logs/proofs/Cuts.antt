-- Text cut at a byte, and put together again.
use Rattle.std.proofs.Common.{◌≡◌, ℕ, suc, ◌+◌, ◌<◌, ◌≤◌, Bool, true, false, not, eqb, List, [], ◌∷◌, ◌++◌, length, get_or, take, drop, refl, ap, ◌∙◌, one-add, arith}
use Rattle.std.specs.List.{onto_first, prefix_len, AllByRecursion as Each}
use Rattle.std.proofs.lemmas.List.{at_drop_more, drop_at, length-take}
use Rattle.std.proofs.ByRecursion.{All-weaker}
use Rattle.std.proofs.lemmas.Bool.{eq-eqb, or_parts}
use Rattle.logs.specs.Pieces.{pieces, comma, line_end, fields_of}
use Rattle.logs.specs.Tokens.{parts, front}
use Rattle.logs.specs.Lines.{Free}

-- at a separator the first part ends
pub cut : (sep : ℕ) (p rest : List ℕ) → Free sep p → pieces sep (p ++ sep ∷ rest) ≡ p ∷ pieces sep rest
cut sep [] rest f = let e : eqb sep sep ≡ true = eq-eqb sep sep refl in rw e
cut sep (b ∷ p) rest f = rw f.0 (ap (onto_first b) (cut sep p rest f.1))

-- without a separator there is one part
pub whole : (sep : ℕ) (p : List ℕ) → Free sep p → pieces sep p ≡ p ∷ []
whole sep [] f = refl
whole sep (b ∷ p) f = rw f.0 (ap (onto_first b) (whole sep p f.1))

-- there is always a part
pub some_piece : (sep : ℕ) (bs : List ℕ) → (p : List ℕ) × (ps : List (List ℕ)) × (pieces sep bs ≡ p ∷ ps)
some_piece sep [] = ([], [], refl)
some_piece sep (b ∷ bs) = go (eqb b sep) refl (some_piece sep bs)
  where
    go : (t : Bool) → eqb b sep ≡ t → ((p : List ℕ) × (ps : List (List ℕ)) × (pieces sep bs ≡ p ∷ ps)) → (p : List ℕ) × (ps : List (List ℕ)) × (pieces sep (b ∷ bs) ≡ p ∷ ps)
    go true e h = ([], pieces sep bs, rw e)
    go false e h = (b ∷ h.0, h.1, rw e (ap (onto_first b) h.2))

-- how many parts two texts have together
length-onto : (b : ℕ) (sep : ℕ) (bs : List ℕ) → length (onto_first b (pieces sep bs)) ≡ length (pieces sep bs)
length-onto b sep bs = let h = some_piece sep bs in rw h.2

pub length-pieces : (sep : ℕ) (xs ys : List ℕ) → suc (length (pieces sep (xs ++ ys))) ≡ length (pieces sep xs) + length (pieces sep ys)
length-pieces sep [] ys = omega arith
length-pieces sep (b ∷ xs) ys = go (eqb b sep) refl (length-pieces sep xs ys)
  where
    go : (t : Bool) → eqb b sep ≡ t → suc (length (pieces sep (xs ++ ys))) ≡ length (pieces sep xs) + length (pieces sep ys) → suc (length (pieces sep (b ∷ (xs ++ ys)))) ≡ length (pieces sep (b ∷ xs)) + length (pieces sep ys)
    go true e h = rw e (omega arith)
    go false e h = rw (e, length-onto b sep (xs ++ ys), length-onto b sep xs) h

-- the first byte of a text begins the field, or parts it from the rest
pub front-step : (b : ℕ) (bs : List ℕ) → parts b ≡ false → front (b ∷ bs) ≡ b ∷ front bs
front-step b bs e = rw e

pub front-stop : (b : ℕ) (bs : List ℕ) → parts b ≡ true → front (b ∷ bs) ≡ []
front-stop b bs e = rw e

-- a field begins at any byte that does not part
pub front-there : (text : List ℕ) (i : ℕ) → i < length text → parts (get_or text i 0) ≡ false → front (drop i text) ≡ get_or text i 0 ∷ front (drop (i + 1) text)
front-there text i lt e = at_drop_more front text i 0 lt ∙ front-step (get_or text i 0) (drop (i + 1) text) e

-- the field is the bytes at the front that do not part
pub front_is : (bs : List ℕ) → take (prefix_len (λ b. not (parts b)) bs) bs ≡ front bs
front_is [] = refl
front_is (b ∷ bs) = go (parts b) refl (front_is bs)
  where
    go : (t : Bool) → parts b ≡ t → take (prefix_len (λ c. not (parts c)) bs) bs ≡ front bs → take (prefix_len (λ c. not (parts c)) (b ∷ bs)) (b ∷ bs) ≡ front (b ∷ bs)
    go true e h = rw e
    go false e h = rw (e, one-add) (ap (λ xs. b ∷ xs) h)

-- the field as a part of the text
pub front_prefix : (bs : List ℕ) → take (length (front bs)) bs ≡ front bs
front_prefix [] = refl
front_prefix (b ∷ bs) = go (parts b) refl (front_prefix bs)
  where
    go : (t : Bool) → parts b ≡ t → take (length (front bs)) bs ≡ front bs → take (length (front (b ∷ bs))) (b ∷ bs) ≡ front (b ∷ bs)
    go true e h = rw e
    go false e h = rw e (ap (λ xs. b ∷ xs) h)

pub front-short : (bs : List ℕ) → length (front bs) ≤ length bs
front-short bs = omega (arith, ap length (front_prefix bs), length-take (length (front bs)) bs)

-- and the rest of the text follows it
pub front_whole : (bs : List ℕ) → bs ≡ front bs ++ drop (length (front bs)) bs
front_whole [] = refl
front_whole (b ∷ bs) = go (parts b) refl (front_whole bs)
  where
    go : (t : Bool) → parts b ≡ t → bs ≡ front bs ++ drop (length (front bs)) bs → b ∷ bs ≡ front (b ∷ bs) ++ drop (length (front (b ∷ bs))) (b ∷ bs)
    go true e h = rw e
    go false e h = rw e (ap (λ xs. b ∷ xs) h)

-- it holds neither a comma nor a line end
pub front-plain : (bs : List ℕ) → Each (λ b. parts b ≡ false) (front bs)
front-plain [] = tt
front-plain (b ∷ bs) = go (parts b) refl (front-plain bs)
  where
    go : (t : Bool) → parts b ≡ t → Each (λ x. parts x ≡ false) (front bs) → Each (λ x. parts x ≡ false) (front (b ∷ bs))
    go true e h = rw e tt
    go false e h = rw e (e, h)

pub front-no-comma : (bs : List ℕ) → Free comma (front bs)
front-no-comma bs = All-weaker _ _ (λ b e. (or_parts (eqb b comma) (eqb b line_end) e).0) (front bs) (front-plain bs)

pub front-no-end : (bs : List ℕ) → Free line_end (front bs)
front-no-end bs = All-weaker _ _ (λ b e. (or_parts (eqb b comma) (eqb b line_end) e).1) (front bs) (front-plain bs)

-- the fields after the one that ends here: the comma is passed over
abbrev pub next : List ℕ → List (List ℕ)
next [] = []
next (b ∷ bs) = fields_of bs

front_next : (bs : List ℕ) → Free line_end bs → fields_of bs ≡ front bs ∷ next (drop (length (front bs)) bs)
front_next [] f = refl
front_next (b ∷ bs) f = go (eqb b comma) refl (front_next bs f.1)
  where
    go : (t : Bool) → eqb b comma ≡ t → fields_of bs ≡ front bs ∷ next (drop (length (front bs)) bs) → fields_of (b ∷ bs) ≡ front (b ∷ bs) ∷ next (drop (length (front (b ∷ bs))) (b ∷ bs))
    go true e h = rw e
    go false e h = rw (e, f.0) (ap (onto_first b) h)

-- in a line the first field is its front, and the others are behind the comma that follows it
pub front_piece : (bs after : List ℕ) → Free line_end bs → bs ≡ front bs ++ after → fields_of bs ≡ front bs ∷ next after
front_piece bs after free e = front_next bs free ∙ ap (λ xs. front bs ∷ next xs) (ap (drop (length (front bs))) e ∙ drop_at (front bs) after (length (front bs)) refl)

pub free_behind : (sep : ℕ) (xs ys : List ℕ) → Free sep (xs ++ ys) → Free sep ys
free_behind sep [] ys f = f
free_behind sep (x ∷ xs) ys f = free_behind sep xs ys f.1
