-- Sorting puts in order and keeps what there is.
use Rattle.std.proofs.Common.{◌≡◌, Bool, true, false, cond, ◌&&◌, ◌⊎◌, List, [], ◌∷◌, refl, ◌∙◌, ⊎_elim}
use Rattle.std.specs.List.{AllByRecursion as Each}
use Rattle.std.proofs.lemmas.Bool.{both_ways, cases_Bool}
use Rattle.stations.specs.declared.key.Key.{Key}
use Rattle.stations.specs.declared.station.Station.{Station}
use Rattle.stations.specs.Play.{in_play}
use Rattle.stations.specs.Keys.{before, station_key}
use Rattle.stations.specs.Counting.{insert, sort}
use Rattle.stations.specs.Answers.{field, few, band, earlier}
use Rattle.books.specs.Lists.{Pairwise}
use Rattle.promises.specs.Answering.{AnswersAreBands}
use Rattle.promises.proofs.Lists.{count-sort}
use Rattle.promises.proofs.Keys.{before_trans, before_same, before-between}
use Rattle.promises.proofs.Places.{count_kept}

-- a test of order that never holds both ways, and that holds of one of two neighbours where it holds of the ends
module _ {A : Type 0} (lt : A → A → Bool) (one_way : (x y : A) → lt x y ≡ true → lt y x ≡ false) (between : (x y z : A) → lt x z ≡ true → (lt x y ≡ true) ⊎ (lt y z ≡ true)) where
  abbrev Late : A → A → Type 0
  Late x y = lt y x ≡ false

  all_insert : (P : A → Type 0) (x : A) (ys : List A) → P x → Each P ys → Each P (insert lt x ys)
  all_insert P x [] h k = (h, tt)
  all_insert P x (y ∷ ys) h k = go (lt y x) (all_insert P x ys h k.1)
    where
      go : (t : Bool) → Each P (insert lt x ys) → Each P (cond t (y ∷ insert lt x ys) (x ∷ y ∷ ys))
      go true m = (k.0, m)
      go false m = (h, k)

  -- what is late for one that is late is late
  late_all : (x y : A) (zs : List A) → Late x y → Each (Late y) zs → Each (Late x) zs
  late_all x y [] h k = tt
  late_all x y (z ∷ zs) h k = (⊎_elim (λ e. ⊎_elim (λ l. absurd (both_ways (lt z y) k.0 l)) (λ l. absurd (both_ways (lt y x) h l)) (between z y x e)) (λ e. e) (cases_Bool (lt z x)), late_all x y zs h k.1)

  in_order_insert : (x : A) (ys : List A) → Pairwise Late ys → Pairwise Late (insert lt x ys)
  in_order_insert x [] h = (tt, tt)
  in_order_insert x (y ∷ ys) h = go (lt y x) refl (in_order_insert x ys h.1)
    where
      go : (t : Bool) → lt y x ≡ t → Pairwise Late (insert lt x ys) → Pairwise Late (cond t (y ∷ insert lt x ys) (x ∷ y ∷ ys))
      go true e m = (all_insert (Late y) x ys (one_way y x e) h.0, m)
      go false e m = ((e, late_all x y ys e h.0), h)

  pub in_order_sort : (xs : List A) → Pairwise Late (sort lt xs)
  in_order_sort [] = tt
  in_order_sort (x ∷ xs) = in_order_insert x (sort lt xs) (in_order_sort xs)

pub answers_are_bands : AnswersAreBands
answers_are_bands rank q row = record {
  ordered = in_order_sort (earlier rank) one_way (λ s t u h. before-between (key s) (key t) (key u) h) (band q row);
  holds = λ t. count-sort (earlier rank) t (band q row) ∙ count_kept t (λ s. few q.k (field q row) s.at) (field q row) ∙ count_kept (λ s. few q.k (field q row) s.at && t s) (in_play q) row;
}
  where
    key : Station → Key
    key s = station_key (rank s.at) s

    one_way : (s t : Station) → earlier rank s t ≡ true → earlier rank t s ≡ false
    one_way s t h = ⊎_elim (λ e. absurd (both_ways (before (key s) (key s)) (before_same (key s)) (before_trans (key s) (key t) (key s) h e))) (λ e. e) (cases_Bool (earlier rank t s))
