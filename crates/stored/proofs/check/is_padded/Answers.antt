use Rattle.std.proofs.Common.{◌≡◌, ℕ, ◌+◌, ◌%◌, ◌<◌, ◌≤◌, Bool, true, ◌&&◌, eqb, List, ◌∷◌, length, get_or, take, drop, refl, ap, ◌∙◌, arith}
use Rattle.std.specs.List.{list_all}
use Rattle.std.proofs.lemmas.List.{drop_more}
use Rattle.stored.specs.Layout.{byte_at, is_padded}
use Rattle.stored.proofs.check.is_padded.Goals as goal

-- six tests in a row, from either end
grouped : (a b c d e f : Bool) → a && (b && (c && (d && (e && (f && true))))) ≡ a && b && c && d && e && f
grouped a b c d e f = grind arith

module _ (page : List ℕ) (long : 8 ≤ length page) (fits : (i : ℕ) → get_or page i 0 < 256) where
  at : (i j : ℕ) → i < 8 → i + 1 ≡ j → drop i page ≡ get_or page i 0 % 256 ∷ drop j page
  at i j h next =
      let small = fits i in
      let byte : get_or page i 0 ≡ get_or page i 0 % 256 = omega arith in
      drop_more page i 0 (omega arith) ∙ ap (λ b. b ∷ drop (i + 1) page) byte ∙ ap (λ k. get_or page i 0 % 256 ∷ drop k page) next

  padded : list_all (λ b. eqb b 0) (take 6 (drop 2 page)) ≡ is_padded page
  padded =
      let e2 = at 2 3 (omega arith) refl in
      let e3 = at 3 4 (omega arith) refl in
      let e4 = at 4 5 (omega arith) refl in
      let e5 = at 5 6 (omega arith) refl in
      let e6 = at 6 7 (omega arith) refl in
      let e7 = at 7 8 (omega arith) refl in
      let z : ℕ → Bool = λ i. eqb (byte_at page i) 0 in
      rw (e2, e3, e4, e5, e6, e7) (grouped (z 2) (z 3) (z 4) (z 5) (z 6) (z 7))

pub returns : goal.returns
returns c = c.is_zero.ensures ∙ padded c.args.page.now (omega arith) c.fits-page
