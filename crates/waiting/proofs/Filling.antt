-- Entries put to what waits, one after the other.
use Rattle.std.proofs.Common.{◌≡◌, ℕ, zero, suc, ◌+◌, ◌<◌, ◌≤◌, Bool, true, ◌&&◌, List, [], ◌∷◌, ◌++◌, length, get_or, take, Ok, Err, filter, Result, sym, refl, ap, ◌∙◌, subst, arith}
use Rattle.std.specs.List.Sorted.{IsPermutation}
use Rattle.std.proofs.lemmas.List.{length-take-le, length-map, length-append, take_more}
use Rattle.std.proofs.lemmas.List.Sorted.{length_permutation}
use Rattle.std.proofs.ByRecursion.{all_shuffled}
use Rattle.stations.specs.declared.station.Station.{Station}
use Rattle.stations.specs.Counting.{bit, count}
use Rattle.books.specs.declared.Entry.{Entry}
use Rattle.heaps.proofs.Laws.{tally_shuffled}
use Rattle.promises.specs.Queries.{Query}
use Rattle.promises.specs.Waiting.{passes}
use Rattle.promises.specs.Turning.{Same}
use Rattle.promises.proofs.Lists.{count_append, count-all, length-kept}
use Rattle.promises.proofs.Places.{count_kept, count_map}
use Rattle.waiting.specs.declared.waiting.Full.{Full}
use Rattle.waiting.specs.declared.waiting.Waiting.{Waiting}
use Rattle.waiting.specs.declared.waiting.Queue.{Queue}
use Rattle.waiting.specs.declared.listed.Listed.{Listed}
use Rattle.waiting.specs.Held.{held, listing, waiting_of, Keyed, entries_of, Put, Puts, Filled, Fills}

pub held-length : (w : Queue) → length (held w) ≡ w.used
held-length w = length-take-le w.used w.items (omega arith)

pub listing-length : (l : Listed) → length (listing l) ≡ l.len
listing-length l = length-take-le l.len l.stations (omega arith)

-- shuffled keys, as tests count their entries
pub same_shuffled : (xs ys : List Waiting) → IsPermutation xs ys → Same (entries_of ys) (entries_of xs)
same_shuffled xs ys s t = count_map t (λ w. w.entry) ys ∙ tally_shuffled (λ w. bit (t w.entry)) (count (λ w. t w.entry)) refl (λ x xs. refl) xs ys s ∙ sym (count_map t (λ w. w.entry) xs)

-- the same members are as many
pub same_length : {A : Type 0} (xs ys : List A) → Same xs ys → length xs ≡ length ys
same_length xs ys s = sym (count-all xs) ∙ s (λ _. true) ∙ count-all ys

pub entries-length : (xs : List Waiting) → length (entries_of xs) ≡ length xs
entries-length xs = length-map xs (λ w. w.entry)

module _ (q : Query) (ss : List Station) where
  -- how often a test holds of what is filled in
  pub count-filled : (t : Entry → Bool) (es rest : List Entry) → count t (filter (passes q ss) es ++ rest) ≡ count (λ e. passes q ss e && t e) es + count t rest
  count-filled t es rest = count_append t (filter (passes q ss) es) rest ∙ ap (λ n. n + count t rest) (count_kept t (passes q ss) es)

  pub filled-one : (e : Entry) (xs : List Waiting) (w : Waiting) (ys : List Waiting) → passes q ss e ≡ true → w ≡ waiting_of q e → Put xs w ys → Filled q ss (e ∷ []) xs ys
  filled-one e xs w ys h i p = record {
    same = λ t. same_shuffled (w ∷ xs) ys p.holds t ∙ sym (count-filled t (e ∷ []) (entries_of xs) ∙ omega (arith, ap (λ s. bit (s && t e)) h, ap (λ w. bit (t w.entry)) i));
    keys = λ k. all_shuffled (Keyed q) (w ∷ xs) ys p.holds (subst (Keyed q) (sym i) refl, k);
    heap = p.heap;
  }

  pub filled_more : (es : List Entry) (e : Entry) (xs ys zs : List Waiting) → Filled q ss es xs ys → Filled q ss (e ∷ []) ys zs → Filled q ss (es ++ e ∷ []) xs zs
  filled_more es e xs ys zs f g = record {
    same = λ t. g.same t ∙ omega (arith, count-filled t (e ∷ []) (entries_of ys), f.same t, count-filled t es (entries_of xs), count-filled t (es ++ e ∷ []) (entries_of xs), count_append (λ e. passes q ss e && t e) es (e ∷ []));
    keys = λ k. g.keys (f.keys k);
    heap = λ h. g.heap (f.heap h);
  }

  -- as many more as pass
  pub filled-count : (es : List Entry) (xs : List Waiting) → length (filter (passes q ss) es ++ entries_of xs) ≡ length xs + count (passes q ss) es
  filled-count es xs = omega (arith, length-append (filter (passes q ss) es) (entries_of xs), length-kept (passes q ss) es, entries-length xs)

  pub filled-length : (es : List Entry) (xs ys : List Waiting) → Filled q ss es xs ys → length ys ≡ length xs + count (passes q ss) es
  filled-length es xs ys f = sym (entries-length ys) ∙ same_length (entries_of ys) (filter (passes q ss) es ++ entries_of xs) f.same ∙ filled-count es xs

  -- an entry that passes is put where there is room
  pub fills-put : (e : Entry) (xs : List Waiting) (w : Waiting) (r : Result (Unit {0}) Full) (ys : List Waiting) → passes q ss e ≡ true → w ≡ waiting_of q e → Puts 1024 xs w r ys → Fills 1024 q ss (e ∷ []) xs r ys × (length ys ≤ length xs + 1)
  fills-put e xs w (Ok u) ys h i p = (filled-one e xs w ys h i p, omega (arith, length_permutation (w ∷ xs) ys p.holds))
  fills-put e xs w (Err full) ys h i p = (omega (arith, p.0, ap bit h), omega (arith, ap length p.1))

  module _ (all : List Entry) (i : ℕ) (d : Entry) (lt : i < length all) where
    abbrev e : Entry
    e = get_or all i d

    next-entry : take (i + 1) all ≡ take i all ++ e ∷ []
    next-entry = take_more all i d lt

    pub fills-more : (xs ys zs : List Waiting) → Filled q ss (take i all) xs ys → Filled q ss (e ∷ []) ys zs → Filled q ss (take (i + 1) all) xs zs
    fills-more xs ys zs f g = subst (λ es. Filled q ss es xs zs) (sym next-entry) (filled_more (take i all) e xs ys zs f g)

    pub fills-full : (full : Full) (xs ys zs : List Waiting) → Filled q ss (take i all) xs ys → Fills 1024 q ss (e ∷ []) ys (Err full) zs → 1024 < length xs + count (passes q ss) all
    fills-full full xs ys zs f g = omega (arith, filled-length (take i all) xs ys f, g, ap (count (passes q ss)) next-entry, count_append (passes q ss) (take i all) (e ∷ []), count-take (passes q ss) (i + 1) all)
      where
        count-take : {A : Type 0} (t : A → Bool) (i : ℕ) (xs : List A) → count t (take i xs) ≤ count t xs
        count-take t zero xs = omega arith
        count-take t (suc i) [] = omega arith
        count-take t (suc i) (x ∷ xs) = omega (arith, count-take t i xs)
