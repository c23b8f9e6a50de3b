-- The band question keeps the laws, and its answer is that of a row of stations.
use Rattle.std.proofs.Common.{◌≡◌, ℕ, ◌+◌, ◌<◌, ◌≤◌, true, ◌&&◌, ◌||◌, ltb, refl, arith}
use Rattle.std.proofs.lemmas.Bool.Decides.{nat_tests}
use Rattle.std.proofs.lemmas.Bool.{and_parts, and_from, lt-ltb, leb-true, le-leb}
use Rattle.stations.specs.declared.measures.Measures.{Measures}
use Rattle.stations.specs.declared.question.Question.{Question}
use Rattle.stations.specs.declared.region.Region.{Region}
use Rattle.stations.specs.Beating.{◌≼◌, at_most, smaller, beats, sum}
use Rattle.books.specs.Books.{Inside}
use Rattle.promises.specs.Bands.{join, bands, BandsKeepLaws, BandsAnswer}
use Rattle.promises.proofs.Keys.{lex_lt, lex_le}

le_at_most : (a b : Measures) → a ≼ b → at_most a b ≡ true
le_at_most a b h = and_from _ _ (and_from _ _ (and_from _ _ (le-leb _ _ h.in1) (le-leb _ _ h.in2)) (le-leb _ _ h.in3)) (le-leb _ _ h.in4)

pub at_most_le : (a b : Measures) → at_most a b ≡ true → a ≼ b
at_most_le a b h =
    let x = and_parts _ _ h in
    let y = and_parts _ _ x.0 in
    let z = and_parts _ _ y.0 in
    record { in1 = leb-true _ _ z.0; in2 = leb-true _ _ z.1; in3 = leb-true _ _ y.1; in4 = leb-true _ _ x.1 }

-- nowhere larger and somewhere smaller is nowhere larger with a smaller sum
four_less : (a b c d e f g h : ℕ) → a ≤ e → b ≤ f → c ≤ g → d ≤ h → (ltb a e || ltb b f || ltb c g || ltb d h) ≡ true → a + b + c + d < e + f + g + h
four_less a b c d e f g h i j k l t = grind (arith, nat_tests)

four_some : (a b c d e f g h : ℕ) → a ≤ e → b ≤ f → c ≤ g → d ≤ h → a + b + c + d < e + f + g + h → (ltb a e || ltb b f || ltb c g || ltb d h) ≡ true
four_some a b c d e f g h i j k l t = grind (arith, nat_tests)

beats-parts : (a b : Measures) → beats a b ≡ true → (a ≼ b) × (sum a < sum b)
beats-parts a b h =
    let p = and_parts (at_most a b) (smaller a b) h in
    let l = at_most_le a b p.0 in
    (l, four_less a.m1 a.m2 a.m3 a.m4 b.m1 b.m2 b.m3 b.m4 l.in1 l.in2 l.in3 l.in4 p.1)

beats-from : (a b : Measures) → a ≼ b → sum a < sum b → beats a b ≡ true
beats-from a b h k = and_from _ _ (le_at_most a b h) (four_some a.m1 a.m2 a.m3 a.m4 b.m1 b.m2 b.m3 b.m4 h.in1 h.in2 h.in3 h.in4 k)

both : (x low high : Measures) → (at_most low x && at_most x high) ≡ true → (low ≼ x) × (x ≼ high)
both x low high h = (at_most_le low x (and_parts _ _ h).0, at_most_le x high (and_parts _ _ h).1)

under : (x a b : Measures) → (at_most x a && at_most x b) ≡ true → (x ≼ a) × (x ≼ b)
under x a b h = (at_most_le x a (and_parts _ _ h).0, at_most_le x b (and_parts _ _ h).1)

pub bands-answer : BandsAnswer
bands-answer rank question b = refl

-- the corner lies in its box and in play
corner-inside : (rank : Measures → ℕ) (question : Question) (b : Region) → (bands rank question).cornered b ≡ true → Inside ((bands rank question).corner b) b × ((bands rank question).in_play ((bands rank question).corner b) ≡ true)
corner-inside rank question b h =
    let c = join b.low question.region.low in
    let p = under c b.high question.region.high h in
    (omega arith, and_from _ _ (le_at_most question.region.low c (omega arith)) (le_at_most c question.region.high p.1))

pub bands-keep-laws : BandsKeepLaws
bands-keep-laws rank question mono = record {
  over_down = λ s a b h l. let p = beats-parts s a h in beats-from s b (omega arith) (omega arith);
  over_key = λ s c h i m j n. let p = beats-parts s c h in lex_le (rank s) (rank c) _ (mono s c p.0) (lex_lt _ _ _ p.1);
  over_trans = λ a b c h l. let p = beats-parts a b h in let r = beats-parts b c l in beats-from a c (omega arith) (omega arith);
  corner_below = λ x b h i.
      let p = both x question.region.low question.region.high i in
      let c = join b.low question.region.low in
      let l : c ≼ x = omega arith in
      (and_from _ _ (le_at_most c b.high (omega arith)) (le_at_most c question.region.high (omega arith)), l);
  corner_inside = corner-inside rank question;
  corner_nested = λ i o h t.
      let c = join i.low question.region.low in
      let d = join o.low question.region.low in
      let p = under c i.high question.region.high t in
      let l : d ≼ c = omega arith in
      (and_from _ _ (le_at_most d o.high (omega arith)) (le_at_most d question.region.high (omega arith)), l);
  page_first = λ a b h p n. lex_le (rank a) (rank b) _ (mono a b h) (lex_le (sum a) (sum b) _ (omega arith) refl);
  page_down = λ a b h m n l. lex_le (rank a) (rank b) _ (mono a b h) (lex_le (sum a) (sum b) _ (omega arith) (lex_le 0 0 _ (omega arith) (lt-ltb m n l)));
}
