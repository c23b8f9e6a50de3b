-- The order of keys.
use Rattle.std.proofs.Common.{◌≡◌, ℕ, ◌<◌, ◌≤◌, Bool, true, false, ltb, ◌⊎◌, refl, ap, ◌∙◌, ⊎_elim, arith}
use Rattle.std.proofs.lemmas.Bool.Decides.{nat_tests}
use Rattle.std.proofs.lemmas.Bool.{cases_Bool, both_ways, not-true, not_from_false}
use Rattle.stations.specs.declared.key.Key.{Key}
use Rattle.stations.specs.declared.key.Kind.{Kind}
use Rattle.stations.specs.declared.key.Kind.TheVariants.{Page, Station}
use Rattle.stations.specs.Keys.{kind_number, lex, before}
use Rattle.promises.specs.Bounds.{Bound, all, below, up_to, within}

pub lex_lt : (a b : ℕ) (t : Bool) → a < b → lex a b t ≡ true
lex_lt a b t h = grind (arith, nat_tests)

pub lex_le : (a b : ℕ) (t : Bool) → a ≤ b → t ≡ true → lex a b t ≡ true
lex_le a b t h k = grind (arith, nat_tests)

lex_trans : (a b c : ℕ) (s t u : Bool) → (s ≡ true → t ≡ true → u ≡ true) → lex a b s ≡ true → lex b c t ≡ true → lex a c u ≡ true
lex_trans a b c s t u f h k = grind (arith, nat_tests)

lex-same : (a : ℕ) (s : Bool) → s ≡ false → lex a a s ≡ false
lex-same a s h = grind (arith, nat_tests)

lex_either : (a b : ℕ) (s t : Bool) → (s ≡ true) ⊎ (t ≡ true) → (lex a b s ≡ true) ⊎ (lex b a t ≡ true)
lex_either a b s t h = grind (arith, nat_tests)

ltb_trans : (a b c : ℕ) → ltb a b ≡ true → ltb b c ≡ true → ltb a c ≡ true
ltb_trans a b c h k = grind (arith, nat_tests)

ltb-same : (a : ℕ) → ltb a a ≡ false
ltb-same a = grind (arith, nat_tests)

ltb_either : (a b : ℕ) → (a ≡ b → ⊥) → (ltb a b ≡ true) ⊎ (ltb b a ≡ true)
ltb_either a b h = grind (arith, nat_tests)

lex-apart : (a b : ℕ) (s t : Bool) → (a ≡ b → ⊥) → (lex a b s ≡ true) ⊎ (lex b a t ≡ true)
lex-apart a b s t h = grind (arith, nat_tests)

pub before_trans : (i j k : Key) → before i j ≡ true → before j k ≡ true → before i k ≡ true
before_trans i j k =
    lex_trans i.rank j.rank k.rank _ _ _ (lex_trans i.sum j.sum k.sum _ _ _ (lex_trans (kind_number i.kind) (kind_number j.kind) (kind_number k.kind) _ _ _ (ltb_trans i.number j.number k.number)))

pub before_same : (k : Key) → before k k ≡ false
before_same k = lex-same k.rank _ (lex-same k.sum _ (lex-same (kind_number k.kind) _ (ltb-same k.number)))

-- of two keys with other numbers one comes before the other
pub before_either : (j k : Key) → (j.number ≡ k.number → ⊥) → (before j k ≡ true) ⊎ (before k j ≡ true)
before_either j k h = lex_either j.rank k.rank _ _ (lex_either j.sum k.sum _ _ (lex_either (kind_number j.kind) (kind_number k.kind) _ _ (ltb_either j.number k.number h)))

-- and so of two keys of other kinds
pub kinds_either : (j k : Key) → (kind_number j.kind ≡ kind_number k.kind → ⊥) → (before j k ≡ true) ⊎ (before k j ≡ true)
kinds_either j k h = lex_either j.rank k.rank _ _ (lex_either j.sum k.sum _ _ (lex-apart (kind_number j.kind) (kind_number k.kind) _ _ h))

-- a bound holds whatever stands before what it holds
pub within-before : (u : Bound) (j k : Key) → before j k ≡ true → within u k ≡ true → within u j ≡ true
within-before all j k h w = refl
within-before (below κ) j k h w = before_trans j k κ h w
within-before (up_to κ) j k h w =
    ⊎_elim (λ e. absurd (both_ways (before κ k) (not-true (before κ k) w) (before_trans κ j k e h))) (λ e. not_from_false (before κ j) e) (cases_Bool (before κ j))

lex-between : (a b c : ℕ) (s t u : Bool) → (u ≡ true → (s ≡ true) ⊎ (t ≡ true)) → lex a c u ≡ true → (lex a b s ≡ true) ⊎ (lex b c t ≡ true)
lex-between a b c s t u f h = grind (arith, nat_tests)

ltb-between : (a b c : ℕ) → ltb a c ≡ true → (ltb a b ≡ true) ⊎ (ltb b c ≡ true)
ltb-between a b c h = grind (arith, nat_tests)

-- where one key comes before another, a third comes after the first or before the second
pub before-between : (i j k : Key) → before i k ≡ true → (before i j ≡ true) ⊎ (before j k ≡ true)
before-between i j k =
    lex-between i.rank j.rank k.rank _ _ _ (lex-between i.sum j.sum k.sum _ _ _ (lex-between (kind_number i.kind) (kind_number j.kind) (kind_number k.kind) _ _ _ (ltb-between i.number j.number k.number)))

-- a bound that holds a key holds what does not come after it
pub within-up_to : (u : Bound) (κ k : Key) → within u κ ≡ true → within (up_to κ) k ≡ true → within u k ≡ true
within-up_to all κ k h w = refl
within-up_to (below μ) κ k h w = ⊎_elim (λ e. absurd (both_ways (before κ k) (not-true (before κ k) w) e)) (λ e. e) (before-between κ k μ h)
within-up_to (up_to μ) κ k h w =
    ⊎_elim (λ e. absurd (⊎_elim (λ l. both_ways (before μ κ) (not-true (before μ κ) h) l) (λ l. both_ways (before κ k) (not-true (before κ k) w) l) (before-between μ κ k e))) (λ e. not_from_false (before μ k) e) (cases_Bool (before μ k))

-- the order of keys is total
lex-total : (a b : ℕ) (s t : Bool) → lex a b s ≡ false → lex b a t ≡ false → (a ≡ b) × (s ≡ false) × (t ≡ false)
lex-total a b s t h k = grind (arith, nat_tests)

ltb-total : (a b : ℕ) → ltb a b ≡ false → ltb b a ≡ false → a ≡ b
ltb-total a b h k = grind (arith, nat_tests)

same_kind : (i j : Kind) → kind_number i ≡ kind_number j → i ≡ j
same_kind Page Page e = refl
same_kind Page Station e = absurd (omega arith)
same_kind Station Page e = absurd (omega arith)
same_kind Station Station e = refl

abbrev key : ℕ → ℕ → Kind → ℕ → Key
key a b c d = record { rank = a; sum = b; kind = c; number = d }

pub before-total : (j k : Key) → before j k ≡ false → before k j ≡ false → j ≡ k
before-total j k h l =
    let x = lex-total j.rank k.rank _ _ h l in
    let y = lex-total j.sum k.sum _ _ x.1 x.2 in
    let z = lex-total (kind_number j.kind) (kind_number k.kind) _ _ y.1 y.2 in
    ap (λ n. key n j.sum j.kind j.number) x.0 ∙ ap (λ n. key k.rank n j.kind j.number) y.0 ∙ ap (λ n. key k.rank k.sum n j.number) (same_kind j.kind k.kind z.0) ∙ ap (λ n. key k.rank k.sum k.kind n) (ltb-total j.number k.number z.1 z.2)
