-- The heap's words, as what waits says them.
use Rattle.std.proofs.Common.{◌≡◌, ℕ, ◌+◌, ◌-◌, Bool, true, false, cond, ◌&&◌, ◌||◌, eqb, ltb, List, take, Ordering, Less, Equal, Greater, sym, refl, ap, ◌∙◌, subst}
use Rattle.std.specs.Ordering.{is_lt, ordering_then, nat_cmp}
use Rattle.std.proofs.ByRecursion.{All-weaker}
use Rattle.stations.specs.declared.key.Kind as kinds
use Rattle.stations.specs.declared.key.Kind.TheVariants as variants
use Rattle.stations.specs.contracts.key.KindOrd.TheImpl.{ghosts as kind_ghosts}
use Rattle.stations.specs.Keys.{before, lex, kind_number}
use Rattle.heaps.specs.Heap.{earlier, Pushed, Popped}
use Rattle.heaps.proofs.Laws.{popped-first}
use Rattle.waiting.specs.declared.waiting.Waiting.{Waiting}
use Rattle.waiting.specs.contracts.waiting.WaitingOrd.TheImpl.{ghosts}
use Rattle.waiting.specs.Orders.{by_key}
use Rattle.waiting.specs.Held.{Put, Taken}

by_tests : (a b : Bool) (o : Ordering) → is_lt (ordering_then (cond a Less (cond b Equal Greater)) o) ≡ (a || (b && is_lt o))
by_tests true b o = refl
by_tests false true o = refl
by_tests false false o = refl

first-less : (a b : Bool) → is_lt (cond a Less (cond b Equal Greater)) ≡ a
first-less true b = refl
first-less false true = refl
first-less false false = refl

kinds-ranked : (k l : kinds.Kind) → kind_ghosts.cmp k l ≡ nat_cmp (kind_number k) (kind_number l)
kinds-ranked variants.Page variants.Page = refl
kinds-ranked variants.Page variants.Station = refl
kinds-ranked variants.Station variants.Page = refl
kinds-ranked variants.Station variants.Station = refl

part : (m n : ℕ) (o : Ordering) (t : Bool) → is_lt o ≡ t → is_lt (ordering_then (nat_cmp m n) o) ≡ lex m n t
part m n o t e = by_tests (ltb m n) (eqb m n) o ∙ ap (λ s. ltb m n || (eqb m n && s)) e

-- what waits is taken in the order of its keys
pub told : (v w : Waiting) → earlier by_key v w ≡ before v.key w.key
told v w =
    let j = v.key in
    let k = w.key in
    let numbers = first-less (ltb j.number k.number) (eqb j.number k.number) in
    let of-kind = ap (λ o. is_lt (ordering_then o (nat_cmp j.number k.number))) (kinds-ranked j.kind k.kind) ∙ part (kind_number j.kind) (kind_number k.kind) (nat_cmp j.number k.number) _ numbers in
    part j.rank k.rank _ _ (part j.sum k.sum _ _ of-kind)

module _ (old : List Waiting) (used : ℕ) (key : Waiting) (new : List Waiting) where
  pub put-from : (n : ℕ) → n ≡ used + 1 → Pushed ghosts.cmp old used key new → Put (take used old) key (take n new)
  put-from n e p = subst (λ m. Put (take used old) key (take m new)) (sym e) record {
    holds = p.holds;
    heap = p.heap by_key;
  }

  pub taken-from : Popped ghosts.cmp old used key new → Taken (take used old) key (take (used - 1) new)
  taken-from p = record {
    holds = p.holds;
    heap = p.heap by_key;
    least = λ h. All-weaker (λ v. earlier by_key v key ≡ false) (λ v. before v.key key.key ≡ false) (λ v e. sym (told v key) ∙ e) (take (used - 1) new) (popped-first ghosts.cmp old used key new by_key p h);
  }
