-- Bytes whose pages spell a lawful book spell that book.
use Rattle.std.proofs.Common.{◌≡◌, ℕ, zero, suc, ◌+◌, ◌<◌, ◌≤◌, true, cond, ◌||◌, eqb, List, [], ◌∷◌, length, get_or, Some, sym, refl, ap, ◌∙◌, subst, arith}
use Rattle.std.specs.List.{AllByRecursion as Each}
use Rattle.std.proofs.lemmas.List.{length-set}
use Rattle.std.proofs.lemmas.Grind.{common_steps}
use Rattle.std.proofs.ByRecursion.{All-weaker}
use Rattle.std.proofs.lemmas.List.FromFn.{length-map-range_with_len, get_or-map-range_with_len}
use Rattle.stations.specs.Counting.{bit, count}
use Rattle.books.specs.declared.Child.{Child}
use Rattle.books.specs.Books.{Slot, dead, slot, level, children_on, named, names, IsLive}
use Rattle.stored.specs.Layout.{level_byte, spelled_slot}
use Rattle.stored.specs.Notes.{Notes, no_notes, is_named, naming, note_one, note_all, notes_after}
use Rattle.stored.specs.Loading.{page_count, page_bytes, pages_in, slot_at, slots_from, spelled_book}
use Rattle.stored.specs.Spelling.{PagesSpellBooks, PagesDecide}
use Rattle.stored.proofs.Counts.{count_append}
use Rattle.stored.proofs.Walking.{spelled-lives}

notes_long : (l : ℕ) (notes : Notes) (cs : List Child) → length (note_all l notes cs) ≡ length notes
notes_long l notes [] = refl
notes_long l notes (c ∷ cs) = notes_long l (note_one l notes c) cs ∙ length-set notes c.page (Some (naming l c))

-- what is named is noted
note_ge : (l : ℕ) (notes : Notes) (c : Child) (q : ℕ) → c.page < length notes → 1 ≤ bit (is_named notes q) + bit (names q c) → 1 ≤ bit (is_named (note_one l notes c) q)
note_ge l notes c q inside h = grind (arith, common_steps)

notes_ge : (l : ℕ) (notes : Notes) (cs : List Child) (q : ℕ) → Each (λ c. c.page < length notes) cs → 1 ≤ bit (is_named notes q) + count (names q) cs → 1 ≤ bit (is_named (note_all l notes cs) q)
notes_ge l notes [] q inside h = omega arith
notes_ge l notes (c ∷ cs) q inside h =
    let rest : Each (λ d. d.page < length (note_one l notes c)) cs = subst (λ n. Each (λ (d : Child). d.page < n) cs) (sym (length-set notes c.page (Some (naming l c)))) inside.1 in
    notes_ge l (note_one l notes c) cs q rest (one (bit (is_named notes q) + bit (names q c)) refl)
  where
    one : (n : ℕ) → n ≡ bit (is_named notes q) + bit (names q c) → 1 ≤ bit (is_named (note_one l notes c) q) + count (names q) cs
    one zero e = omega arith
    one (suc n) e = omega (arith, note_ge l notes c q inside.0 (omega arith))

-- pages name only later ones
later-names : (N : ℕ) (q : ℕ) (cs : List Child) (p : ℕ) → q ≤ p → Each (λ c. (p < c.page) × (c.page < N)) cs → count (names q) cs ≡ 0
later-names N q [] p h all = refl
later-names N q (c ∷ cs) p h all = grind (arith, all.0, later-names N q cs p h all.1)

none-later : (N : ℕ) (q p : ℕ) (ss : List Slot) → q ≤ p → ((i k : ℕ) → p + i ≡ k → Each (λ c. (k < c.page) × (c.page < N)) (children_on (get_or ss i dead))) → count (names q) (named ss) ≡ 0
none-later N q p [] h after = refl
none-later N q p (s ∷ ss) h after =
    omega (arith, later-names N q (children_on s) p h (after 0 p (omega arith)), none-later N q (p + 1) ss (omega arith) (λ i k e. after (suc i) k (omega arith)), count_append (names q) (children_on s) (named ss))

-- the slot of a page that spells s, where s counts if it is live
slot_same : (notes : Notes) (p : ℕ) (page : List ℕ) (s : Slot) → spelled_slot page ≡ s → (IsLive s → (eqb p 0 || is_named notes p) ≡ true) → slot_at notes p page ≡ s
slot_same notes p page s e counts = grind (arith, spelled-lives (level_byte page) page)

slots_same : (N p : ℕ) (notes : Notes) (rest : List (List ℕ)) (ss : List Slot) → length rest ≡ length ss → N ≤ length notes
    → ((i : ℕ) → i < length ss → spelled_slot (get_or rest i []) ≡ get_or ss i dead)
    → ((i q : ℕ) → p + i ≡ q → IsLive (get_or ss i dead) → (q ≡ 0 → ⊥) → 1 ≤ bit (is_named notes q) + count (names q) (named ss))
    → ((i k : ℕ) → p + i ≡ k → Each (λ c. (k < c.page) × (c.page < N)) (children_on (get_or ss i dead)))
    → slots_from p notes rest ≡ ss
slots_same N p notes [] [] long fit each reach after = refl
slots_same N p notes [] (s ∷ ss) long fit each reach after = let no_way : ⊥ = omega arith in absurd no_way
slots_same N p notes (page ∷ rest) [] long fit each reach after = let no_way : ⊥ = omega arith in absurd no_way
slots_same N p notes (page ∷ rest) (s ∷ ss) long fit each reach after =
    ap (λ t. t ∷ slots_from (p + 1) (notes_after notes t) rest) here
    ∙ ap (λ ts. s ∷ ts) (slots_same N (p + 1) (notes_after notes s) rest ss (omega arith) fit' (λ i h. each (suc i) (omega arith)) reach' (λ i k e. after (suc i) k (omega arith)))
  where
    counts : IsLive s → (eqb p 0 || is_named notes p) ≡ true
    counts alive = grind (arith, reach 0 p (omega arith) alive, none-later N p p (s ∷ ss) (omega arith) after)

    here : slot_at notes p page ≡ s
    here = slot_same notes p page s (each 0 (omega arith)) counts

    fit' : N ≤ length (notes_after notes s)
    fit' = omega (arith, notes_long (level s) notes (children_on s))

    reach' : (i q : ℕ) → (p + 1) + i ≡ q → IsLive (get_or ss i dead) → (q ≡ 0 → ⊥) → 1 ≤ bit (is_named (notes_after notes s) q) + count (names q) (named ss)
    reach' i q e alive below = by (bit (is_named notes q) + count (names q) (children_on s)) refl
      where
        by : (n : ℕ) → n ≡ bit (is_named notes q) + count (names q) (children_on s) → 1 ≤ bit (is_named (notes_after notes s) q) + count (names q) (named ss)
        by zero z =
            omega (arith, reach (suc i) q (omega arith) alive below, count_append (names q) (children_on s) (named ss))
        by (suc n) z =
            let inside = All-weaker (λ (c : Child). (p < c.page) × (c.page < N)) (λ (c : Child). c.page < length notes) (λ c h. let k = h.1 in omega arith) (children_on s) (after 0 p (omega arith)) in
            omega (arith, notes_ge (level s) notes (children_on s) q inside (omega arith))

pub pages_spell_books : PagesSpellBooks
unfolding spelled_book
pages_spell_books bytes b few lawful h =
    let sized = h.sized in
    let n = length-map-range_with_len (page_bytes bytes) 0 (page_count bytes) in
    let long : length (pages_in bytes) ≡ length b = omega arith in
    slots_same (length b) 0 no_notes (pages_in bytes) b long few
    (λ i below. ap spelled_slot (get_or-map-range_with_len (page_bytes bytes) 0 (page_count bytes) i i [] (omega arith) (omega arith)) ∙ h.each i below)
    (λ i q e alive below. let same : i ≡ q = omega arith in let a = lawful.reached q (subst (λ k. IsLive (slot b k)) same alive) below in omega arith)
    (λ i k e. let same : i ≡ k = omega arith in subst (λ j. Each (λ (c : Child). (k < c.page) × (c.page < length b)) (children_on (slot b j))) (sym same) (lawful.after k))

-- a slot goes by what its page spells
slot-by : (notes : Notes) (p : ℕ) (page : List ℕ) → slot_at notes p page ≡ cond (eqb p 0 || is_named notes p) (spelled_slot page) dead
slot-by notes p page = grind arith

slots_alike : (p : ℕ) (notes : Notes) (xs ys : List (List ℕ)) → length xs ≡ length ys → ((i : ℕ) → i < length xs → spelled_slot (get_or xs i []) ≡ spelled_slot (get_or ys i [])) → slots_from p notes xs ≡ slots_from p notes ys
slots_alike p notes [] [] long each = refl
slots_alike p notes [] (y ∷ ys) long each = let no_way : ⊥ = omega arith in absurd no_way
slots_alike p notes (x ∷ xs) [] long each = let no_way : ⊥ = omega arith in absurd no_way
slots_alike p notes (x ∷ xs) (y ∷ ys) long each =
    let same : slot_at notes p x ≡ slot_at notes p y = slot-by notes p x ∙ ap (λ s. cond (eqb p 0 || is_named notes p) s dead) (each 0 (omega arith)) ∙ sym (slot-by notes p y) in
    ap (λ t. t ∷ slots_from (p + 1) (notes_after notes t) xs) same
    ∙ ap (λ ts. slot_at notes p y ∷ ts) (slots_alike (p + 1) (notes_after notes (slot_at notes p y)) xs ys (omega arith) (λ i h. each (suc i) (omega arith)))

pub pages_alike : PagesDecide
unfolding spelled_book
pages_alike xs ys same each =
    let m = length-map-range_with_len (page_bytes xs) 0 (page_count xs) in
    let n = length-map-range_with_len (page_bytes ys) 0 (page_count ys) in
    slots_alike 0 no_notes (pages_in xs) (pages_in ys) (omega arith)
    (λ i h.
    ap spelled_slot (get_or-map-range_with_len (page_bytes xs) 0 (page_count xs) i i [] (omega arith) (omega arith))
    ∙ each i (omega arith)
    ∙ sym (ap spelled_slot (get_or-map-range_with_len (page_bytes ys) 0 (page_count ys) i i [] (omega arith) (omega arith))))
