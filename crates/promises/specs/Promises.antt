-- What is promised of every search: for every question that keeps the laws, every lawful book and every pair of limits.
use Rattle.std.specs.Prelude.{◌≡◌, ℕ, suc, ◌≤◌, List, ◌++◌, length, None, Ok, ◌≢◌}
use Rattle.std.specs.List.{AllByRecursion as Each}
use Rattle.stations.specs.declared.key.Key.{Key}
use Rattle.stations.specs.declared.fault.Code.TheVariants.{DeadPage}
use Rattle.stations.specs.Faults.{fault}
use Rattle.books.specs.Lists.{◌∈◌}
use Rattle.books.specs.Books.{Book, dead, slot, Lawful, Whole}
use Rattle.promises.specs.Bounds.{all}
use Rattle.promises.specs.Queries.{Query, Laws, answer}
use Rattle.promises.specs.Opening.{opened}
use Rattle.promises.specs.Settling.{Keeps, Settles}
use Rattle.promises.specs.Searching.{Limits, done, halted, ending, handed, next, handed_after, opened_after, Within}

-- the whole begins with the part
abbrev pub Begins : {A : Type 0} → List A → List A → Type 0
Begins {A} part whole = (rest : List A) × (whole ≡ part ++ rest)

-- after n calls, every whole lawful book with the live pages opened so far has an answer that begins with the stations handed out
abbrev pub Sound : Type 0
Sound = (q : Query) → Laws q → (b : Book) → Lawful b → (limits : Limits) (n : ℕ) (w : Book) → Keeps b (opened_after q b limits n) w →
    Begins (handed_after q b limits n) (answer q w)

-- after done, its answer is exactly those
abbrev pub SoundDone : Type 0
SoundDone = (q : Query) → Laws q → (b : Book) → Lawful b → (limits : Limits) (n : ℕ) → next q b limits n ≡ Ok None → (w : Book) → Keeps b (opened_after q b limits (suc n)) w →
    answer q w ≡ handed_after q b limits n

-- every set of live pages that settles the question holds every page opened so far, and so has at least as many
abbrev pub Frugal : Type 0
Frugal = (q : Query) → Laws q → (b : Book) → Lawful b → (limits : Limits) (n : ℕ) (ps : List ℕ) → Settles q b ps →
    Each (λ p. p ∈ ps) (opened_after q b limits n) × (length (opened_after q b limits n) ≤ length ps)

-- a search is done exactly when some set of live pages settles the question, and otherwise it names a dead page
pub record Decides (q : Query) (b : Book) (limits : Limits) : Type 0 where
  pub done_settles : ending q b limits ≡ done → Settles q b (opened q b all)
  pub settled_done : (ps : List ℕ) → Settles q b ps → ending q b limits ≡ done
  pub names_dead : (ending q b limits ≢ done) → (p : ℕ) × (κ : Key) × (ending q b limits ≡ halted (fault DeadPage p 0) κ) × (slot b p ≡ dead)

-- so it is within the limits
abbrev pub Decisive : Type 0
Decisive = (q : Query) → Laws q → (b : Book) → Lawful b → (limits : Limits) → Within q b limits → Decides q b limits

-- over a whole book and within the limits a search is done, and what it hands out is the answer
abbrev pub Exact : Type 0
Exact = (q : Query) → Laws q → (b : Book) → Lawful b → Whole b → (limits : Limits) → Within q b limits → (ending q b limits ≡ done) × (handed q b limits ≡ answer q b)
