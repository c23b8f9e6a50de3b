-- Worked cases: small books and questions, with what a search over them comes to.
use Rattle.std.specs.Prelude.{◌≡◌, ℕ, suc, ◌-◌, true, List, [], ◌∷◌, map, length, Some, None, Ok, Err, Option, Result}
use Rattle.std.proofs.Common.{lit≤}
use Rattle.stations.specs.declared.measures.Measures.{Measures}
use Rattle.stations.specs.declared.station.Station.{Station}
use Rattle.stations.specs.declared.region.Region.{Region}
use Rattle.stations.specs.declared.question.Question.{Question}
use Rattle.stations.specs.declared.fault.Fault.{Fault}
use Rattle.stations.specs.declared.fault.Code.TheVariants.{BandCount, DeadPage, WaitingFull, ListFull}
use Rattle.stations.specs.Faults.{fault, placeless, number_of}
use Rattle.stations.specs.Questions.{question_fault}
use Rattle.rankings.specs.Scores.{weighted_sum}
use Rattle.books.specs.declared.Child.{Child}
use Rattle.books.specs.Books.{Slot, dead, leaf, node, Book}
use Rattle.promises.specs.Bands.{bands}
use Rattle.promises.specs.Checking.{worst, every, lawful}
use Rattle.promises.specs.Searching.{Limits, handed, next, opened_after}

-- measures of which the last two are 0
abbrev pub point : ℕ → ℕ → Measures
point a b = record { m1 = a; m2 = b; m3 = 0; m4 = 0 }

-- a station with its number and such measures
abbrev pub station : ℕ → ℕ → ℕ → Station
station n a b = record { number = n; at = point a b }

-- a box or a region, by its low and its high
abbrev pub box : Measures → Measures → Region
box low high = record { low = low; high = high }

-- a page with its box
abbrev pub child : ℕ → Region → Child
child p b = record { page = p; bounds = b }

-- the band of k, with every measure in play
abbrev pub anywhere : ℕ → Question
anywhere k = record { k = k; region = box (point 0 0) worst }

-- the weighted sum with weights 1
abbrev pub ones : Measures → ℕ
ones = weighted_sum record { w1 = 1; w2 = 1; w3 = 1; w4 = 1; small = (lit≤ tt, lit≤ tt, lit≤ tt, lit≤ tt) }

-- and with weights 0
abbrev pub zeros : Measures → ℕ
zeros = weighted_sum record { w1 = 0; w2 = 0; w3 = 0; w4 = 0; small = (lit≤ tt, lit≤ tt, lit≤ tt, lit≤ tt) }

-- what a search comes to: the numbers handed out, the pages opened, and the last reply
pub record Outcome : Type 0 where
  pub numbers : List ℕ
  pub pages : List ℕ
  pub last : Result (Option Station) Fault

-- a search, and what it should come to
pub record Case : Type 0 where
  pub rank : Measures → ℕ
  pub question : Question
  pub limits : Limits
  pub book : Book
  pub gives : Outcome

-- the outcome by the definitions, in as many calls as it takes
abbrev pub outcome : (Measures → ℕ) → Question → Limits → Book → Outcome
outcome rank question limits b =
    let q = bands rank question in
    let n = length (handed q b limits) in
    record { numbers = map (λ s. s.number) (handed q b limits); pages = opened_after q b limits (suc n); last = next q b limits n }

-- so many may wait, and so many be listed
abbrev pub limited : ℕ → ℕ → Limits
limited waiting listed = record { most_waiting = waiting; most_listed = listed }

-- a row of the table
abbrev pub case : (Measures → ℕ) → Question → Limits → Book → List ℕ → List ℕ → Result (Option Station) Fault → Case
case rank question limits b numbers pages last =
    record { rank = rank; question = question; limits = limits; book = b; gives = record { numbers = numbers; pages = pages; last = last } }

-- one with weights 1, every measure in play and room enough
abbrev pub plain : ℕ → Book → List ℕ → List ℕ → Result (Option Station) Fault → Case
plain k = case ones (anywhere k) (limited 64 64)

-- a top with two pages
abbrev pub pair : Region → Slot → Region → Slot → Book
pair box1 page1 box2 page2 = node 0 (child 1 box1 ∷ child 2 box2 ∷ []) ∷ page1 ∷ page2 ∷ []

-- the numbers of the twelve
abbrev pub one_to_twelve : List ℕ
one_to_twelve = 1 ∷ 2 ∷ 3 ∷ 4 ∷ 5 ∷ 6 ∷ 7 ∷ 8 ∷ 9 ∷ 10 ∷ 11 ∷ 12 ∷ []

-- twelve stations of which none beats another
abbrev pub twelve : Slot
twelve = leaf (map (λ i. station i i (13 - i)) one_to_twelve)

-- the page of the thirteenth
abbrev pub thirteenth : Slot
thirteenth = leaf (station 13 20 20 ∷ [])

-- a top over both: each of the twelve beats the thirteenth
abbrev pub thirteen : Slot → Slot → Book
thirteen page1 page2 = pair (box (point 1 1) (point 12 12)) page1 (box (point 20 20) (point 20 20)) page2

-- three stations in a row, each beaten by those before it
abbrev pub three : Book
three = leaf (station 1 1 1 ∷ station 2 2 2 ∷ station 3 3 3 ∷ []) ∷ []

-- the second station beats the first
abbrev pub two : Book
two = leaf (station 1 2 2 ∷ station 2 1 1 ∷ []) ∷ []

-- a page whose own low nothing beats, and whose corner in the region a station beats
abbrev pub clipped : Book
clipped = pair (box (point 6 4) (point 6 4)) (leaf (station 1 6 4 ∷ [])) (box (point 0 5) (point 10 10)) (leaf (station 2 7 7 ∷ []))

-- the first measure is 6 or more
abbrev pub from_six : Question
from_six = record { k = 1; region = box (point 6 0) worst }

-- of the second page's stations the first page's beats all but one
abbrev pub screened : Book
screened = pair (box (point 1 1) (point 1 1)) (leaf (station 1 1 1 ∷ [])) (box (point 0 5) (point 10 10)) (leaf (station 2 7 7 ∷ station 3 0 6 ∷ station 4 8 8 ∷ []))

-- the table
abbrev pub cases : List Case
cases =
    -- no station
    plain 1 (leaf [] ∷ []) [] (0 ∷ []) (Ok None) ∷
    -- the page of the thirteenth stays shut, and so it does where it is dead
    plain 1 (thirteen twelve thirteenth) one_to_twelve (0 ∷ 1 ∷ []) (Ok None) ∷
    plain 1 (thirteen twelve dead) one_to_twelve (0 ∷ 1 ∷ []) (Ok None) ∷
    -- the page of the twelve is dead
    plain 1 (thirteen dead thirteenth) [] (0 ∷ 1 ∷ []) (Err (fault DeadPage 1 0)) ∷
    -- the top is dead
    plain 1 (dead ∷ []) [] (0 ∷ []) (Err (fault DeadPage 0 0)) ∷
    -- bands of one, two and three
    plain 1 three (1 ∷ []) (0 ∷ []) (Ok None) ∷
    plain 2 three (1 ∷ 2 ∷ []) (0 ∷ []) (Ok None) ∷
    plain 3 three (1 ∷ 2 ∷ 3 ∷ []) (0 ∷ []) (Ok None) ∷
    -- all ranks are equal, and the sum decides
    case zeros (anywhere 1) (limited 64 64) two (2 ∷ []) (0 ∷ []) (Ok None) ∷
    case zeros (anywhere 2) (limited 64 64) two (2 ∷ 1 ∷ []) (0 ∷ []) (Ok None) ∷
    -- the corner is beaten and the page stays shut; without the region it is opened
    case ones from_six (limited 64 64) clipped (1 ∷ []) (0 ∷ 1 ∷ []) (Ok None) ∷
    plain 1 clipped (1 ∷ []) (0 ∷ 1 ∷ 2 ∷ []) (Ok None) ∷
    -- two pages wait once the top is opened
    case ones (anywhere 1) (limited 1 64) clipped [] (0 ∷ []) (Err (fault WaitingFull 0 0)) ∷
    -- one of them and twelve stations wait once the other is opened
    case ones (anywhere 1) (limited 12 64) (thirteen twelve thirteenth) [] (0 ∷ 1 ∷ []) (Err (fault WaitingFull 1 0)) ∷
    case ones (anywhere 1) (limited 13 64) (thirteen twelve thirteenth) one_to_twelve (0 ∷ 1 ∷ []) (Ok None) ∷
    -- of three stations one passes its first test and waits
    case ones (anywhere 1) (limited 2 64) screened (1 ∷ 3 ∷ []) (0 ∷ 1 ∷ 2 ∷ []) (Ok None) ∷
    -- the third station finds the list full
    case ones (anywhere 3) (limited 64 2) three (1 ∷ 2 ∷ []) (0 ∷ []) (Err (fault ListFull 3 0)) ∷ []

-- every book of the table is lawful and every search comes to what the table says; the corner of the clipped page; k is 8 at most
pub record WorkedCases : Type 0 where
  pub books : every (λ c. lawful c.book) cases ≡ true
  pub outcomes : map (λ c. outcome c.rank c.question c.limits c.book) cases ≡ map (λ c. c.gives) cases
  pub corner : (bands ones from_six).corner (box (point 0 5) (point 10 10)) ≡ point 6 5
  pub eight : question_fault (anywhere 8) ≡ None
  pub nine : question_fault (anywhere 9) ≡ Some (placeless BandCount)
  pub fourteen : number_of BandCount ≡ 14
