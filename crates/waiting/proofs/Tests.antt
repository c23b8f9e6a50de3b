-- Steps of the tests and the keys of entries.
use Rattle.std.proofs.Common.{◌≡◌, ℕ, zero, suc, ◌+◌, ◌<◌, ◌≤◌, Bool, true, false, cond, ◌&&◌, List, [], ◌∷◌, length, get_or, take, count_by, sym, refl, ap, ◌∙◌, arith}
use Rattle.std.proofs.lemmas.List.{take_more}
use Rattle.std.proofs.lemmas.List.Recursion.{is_count_by}
use Rattle.stations.specs.declared.measures.Measures.{Measures}
use Rattle.stations.specs.declared.station.Station as stated
use Rattle.stations.specs.declared.key.Key.{Key}
use Rattle.stations.specs.declared.key.Kind.TheVariants as kind
use Rattle.stations.specs.declared.question.Question.{Question}
use Rattle.stations.specs.Beating.{at_most}
use Rattle.stations.specs.Counting.{bit, count}
use Rattle.books.specs.declared.Child.{Child}
use Rattle.books.specs.declared.Entry.{Entry}
use Rattle.books.specs.declared.Entry.TheVariants.{Page, Station}
use Rattle.promises.specs.Bands.{bands}
use Rattle.promises.specs.Queries.{Query, key_at}
use Rattle.promises.specs.Waiting.{measures_of, counts, key_of}
use Rattle.promises.proofs.Lists.{count_append}

-- std's count is this one
pub counted : {A : Type 0} (t : A → Bool) (xs : List A) → count_by t xs ≡ count t xs
counted t xs = sym (is_count_by (count t) t refl (λ x xs. one-more (t x) (count t xs)) xs)
  where
    one-more : (b : Bool) (n : ℕ) → bit b + n ≡ cond b (1 + n) n
    one-more true n = refl
    one-more false n = omega arith

-- one more element of a list is counted
pub count-more : {A : Type 0} (t : A → Bool) (xs : List A) (i : ℕ) (d : A) (r : Bool) → i < length xs → r ≡ t (get_or xs i d) → count t (take (i + 1) xs) ≡ count t (take i xs) + bit r
count-more t xs i d r h f = omega (arith, ap (count t) (take_more xs i d h), count_append t (take i xs) (get_or xs i d ∷ []), ap bit f)

-- a front counts no more than the whole
pub count-front : {A : Type 0} (t : A → Bool) (xs : List A) (i : ℕ) → count t (take i xs) ≤ count t xs
count-front t xs zero = omega arith
count-front t [] (suc i) = omega arith
count-front t (x ∷ xs) (suc i) = omega (arith, count-front t xs i)

-- a test that goes on where the first part holds
pub both-parts : (t s r u : Bool) → t ≡ true → t ≡ s → r ≡ u → r ≡ (s && u)
both-parts t s r u h e f = rw (sym e, h) f

-- and one that ends where the first part fails
pub first-part : (t s u : Bool) → t ≡ false → t ≡ s → t ≡ (s && u)
first-part t s u h e = rw (sym e, h) refl

-- a page counts where its corner is in its box and in the region
pub page-counts : (rank : Measures → ℕ) (question : Question) (e : Entry) (p : Measures) (c : Child) → p ≡ measures_of (bands rank question) (Page c) → e ≡ Page c → (r : Bool) → r ≡ (at_most p c.bounds.high && at_most p question.region.high) → r ≡ counts (bands rank question) e
page-counts rank question e p c m h r f = f ∙ ap (λ p. at_most p c.bounds.high && at_most p question.region.high) m ∙ ap (counts (bands rank question)) (sym h)

module _ (q : Query) (e : Entry) (p : Measures) (k : Key) (m : p ≡ measures_of q e) where
  pub key-page : (c : Child) → e ≡ Page c → k ≡ key_at q p kind.Page c.page → k ≡ key_of q e
  key-page c h i = i ∙ ap (λ p. key_at q p kind.Page c.page) (m ∙ ap (measures_of q) h) ∙ ap (key_of q) (sym h)

  pub key-station : (s : stated.Station) → e ≡ Station s → k ≡ key_at q p kind.Station s.number → k ≡ key_of q e
  key-station s h i = i ∙ ap (λ p. key_at q p kind.Station s.number) (m ∙ ap (measures_of q) h) ∙ ap (key_of q) (sym h)
