-- The band question as a query: the stations of a region that fewer than k others there beat.
use Rattle.std.specs.Prelude.{◌≡◌, ℕ, ◌≤◌, max, ◌&&◌}
use Rattle.stations.specs.declared.measures.Measures.{Measures}
use Rattle.stations.specs.declared.question.Question.{Question}
use Rattle.stations.specs.Beating.{◌≼◌, at_most, beats}
use Rattle.stations.specs.Play.{inside}
use Rattle.stations.specs.Answers as row
use Rattle.books.specs.Books.{Book, stations}
use Rattle.promises.specs.Queries.{Query, Laws, answer}

-- the larger of each two measures
abbrev pub join : Measures → Measures → Measures
join a b = record { m1 = max a.m1 b.m1; m2 = max a.m2 b.m2; m3 = max a.m3 b.m3; m4 = max a.m4 b.m4 }

-- a box's corner is its low, clipped to the region; a box that misses the region has none
abbrev pub bands : (Measures → ℕ) → Question → Query
bands rank question = record {
  over = beats;
  in_play = inside question.region;
  cornered = λ b. at_most (join b.low question.region.low) b.high && at_most (join b.low question.region.low) question.region.high;
  corner = λ b. join b.low question.region.low;
  rank = rank;
  k = question.k;
}

-- a rank that never falls where no measure falls
abbrev pub Monotone : (Measures → ℕ) → Type 0
Monotone rank = (p q : Measures) → p ≼ q → rank p ≤ rank q

-- the band question keeps the laws, under every monotone ranking
abbrev pub BandsKeepLaws : Type 0
BandsKeepLaws = (rank : Measures → ℕ) (question : Question) → Monotone rank → Laws (bands rank question)

-- its answer is the k-skyband of the book's stations, in key order
abbrev pub BandsAnswer : Type 0
BandsAnswer = (rank : Measures → ℕ) (question : Question) (b : Book) → answer (bands rank question) b ≡ row.answer rank question (stations b)
