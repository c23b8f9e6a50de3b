-- What a search is asked, as the theory sees it.
use Rattle.std.specs.Prelude.{ℕ}
use Rattle.stations.specs.declared.measures.Measures.{Measures}
use Rattle.promises.specs.Queries as theory
use Rattle.promises.specs.Bands.{bands}
use Rattle.waiting.specs.declared.query.Query.{Query}

-- the band question, ranked by the ranking's score
abbrev pub bands_of : {R : Type 0} → (R → Measures → ℕ) → Query R → theory.Query
bands_of score q = bands (score q.ranking) q.question
