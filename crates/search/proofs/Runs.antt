-- The turns of a run, with the laws of its source and its ranking.
use Rattle.std.proofs.Common.{◌≡◌, ℕ, suc, ◌≤◌, true, false, List, ◌∷◌, length, Some, None, Ok, Err, MatchResult, Option, Result, sym, refl, ap, ◌∙◌, subst, arith}
use Rattle.std.specs.Result.{IsErrAnd}
use Rattle.std.proofs.lemmas.Result.{err_from_is_err_and}
use Rattle.std.proofs.lemmas.List.Sorted.{length_permutation}
use Rattle.stations.specs.declared.measures.Measures.{Measures}
use Rattle.stations.specs.declared.station.Station as stated
use Rattle.stations.specs.declared.fault.Fault.{Fault}
use Rattle.stations.specs.declared.fault.Code.TheVariants.{ListFull}
use Rattle.stations.specs.Beating.{◌≼◌}
use Rattle.stations.specs.Faults.{fault}
use Rattle.rankings.specs.declared.Ranking.{Ghosts as Ranking}
use Rattle.books.specs.declared.Child.{Child}
use Rattle.books.specs.declared.Entry.TheVariants.{Page, Station}
use Rattle.books.specs.Books.{Book, Lawful}
use Rattle.sources.specs.declared.PageSource.{Ghosts as PageSource}
use Rattle.promises.specs.Bounds.{Bound, below, up_to}
use Rattle.promises.specs.Queries.{Query, Laws}
use Rattle.promises.specs.Bands.{bands}
use Rattle.promises.specs.Waiting.{key_of, passes}
use Rattle.promises.specs.Searching.{top_key}
use Rattle.promises.proofs.Bands.{bands-keep-laws}
use Rattle.waiting.specs.declared.waiting.Waiting.{Waiting}
use Rattle.waiting.specs.declared.waiting.Full.{Full}
use Rattle.waiting.specs.declared.waiting.Queue.{Queue}
use Rattle.search.specs.declared.run.Run.{Run}
use Rattle.waiting.specs.Held.{held, listing, Taken, Lists}
use Rattle.waiting.specs.States.{Reply, At, Opens, Turned, Gave}
use Rattle.search.specs.Runs.{Unchanged, Kept, query_of, StandsAt, OpensTo, TurnsTo, RepliesWith}
use Rattle.waiting.proofs.Filling.{held-length}
use Rattle.waiting.proofs.Turns as turns

pub held-few : (w : Queue) → length (held w) ≤ 1024
held-few w = omega (arith, held-length w)

pub popped_used : (w w' : Queue) (v : Waiting) → Taken (held w) v (held w') → length (held w) ≡ suc (length (held w'))
popped_used w w' v t = omega (arith, length_permutation (held w) (v ∷ held w') t.holds)

-- where `map_err` made another refusal, there was one before
pub refused-before : {T E D : Type 0} (Q : E → D → Type 0) (o : Result T E) (m : Result T D) (d : D) → MatchResult o (λ x. m ≡ Ok x) (λ e. IsErrAnd m (Q e)) → m ≡ Err d → (e : E) × (o ≡ Err e) × Q e d
refused-before Q (Ok x) m d h i = cc
refused-before Q (Err e) m d h i = let p = err_from_is_err_and m h in let same : p.0 ≡ d = cc in (e, refl, subst (Q e) same p.2)

-- and where it made none, there was none
pub passed-before : {T E D : Type 0} (Q : E → D → Type 0) (o : Result T E) (m : Result T D) (x : T) → MatchResult o (λ x. m ≡ Ok x) (λ e. IsErrAnd m (Q e)) → m ≡ Ok x → o ≡ Ok x
passed-before Q (Ok y) m x h i = cc
passed-before Q (Err e) m x h i = let p = err_from_is_err_and m h in cc

module _ {S R : Type 0} (source : PageSource S) (ranking : Ranking R) where
  pub same_query : (r r' : Run S R) → Kept source r r' → query_of ranking.score r' ≡ query_of ranking.score r
  same_query r r' k = ap (λ x. bands (ranking.score x) r'.query.question) k.unchanged.ranking ∙ ap (bands (ranking.score r.query.ranking)) k.question

  pub unchanged_then : (r r' r'' : Run S R) → Unchanged source r r' → Unchanged source r' r'' → Unchanged source r r''
  unchanged_then r r' r'' k l = record { same = l.same ∙ k.same; counted = l.counted ∙ k.counted; ranking = l.ranking ∙ k.ranking }

  pub kept_then : (r r' r'' : Run S R) → Kept source r r' → Kept source r' r'' → Kept source r r''
  kept_then r r' r'' k l = record {
    unchanged = unchanged_then r r' r'' k.unchanged l.unchanged;
    question = l.question ∙ k.question;
    metered = λ m h. l.metered m (k.metered m h);
  }

  module _ (r r' : Run S R) (kept : Kept source r r') where
    -- where a run stands is told by its own question and book, which no turn changes
    pub stands-still : (u : Bound) → At (query_of ranking.score r) (source.book r.source) u (held r'.waiting) (listing r'.listed) r'.opened → StandsAt source ranking u r'
    stands-still u a =
        subst (λ q. At q (source.book r'.source) u (held r'.waiting) (listing r'.listed) r'.opened) (sym (same_query r r' kept))
        (subst (λ b. At (query_of ranking.score r) b u (held r'.waiting) (listing r'.listed) r'.opened) (sym kept.unchanged.same) a)

    -- so is what a turn comes to, while nothing more is listed
    pub turns-still : (r'' : Run S R) (o : Option Reply) → listing r'.listed ≡ listing r.listed → TurnsTo source ranking r' o r'' → TurnsTo source ranking r o r''
    turns-still r'' o l t =
        subst (λ ss. Turned (query_of ranking.score r) (source.book r.source) ss o (held r''.waiting) (listing r''.listed) r''.opened) l
        (subst (λ b. Turned (query_of ranking.score r) b (listing r'.listed) o (held r''.waiting) (listing r''.listed) r''.opened) kept.unchanged.same
        (subst (λ q. Turned q (source.book r'.source) (listing r'.listed) o (held r''.waiting) (listing r''.listed) r''.opened) (same_query r r' kept) t))

  -- a run that stood somewhere stands somewhere after turns
  abbrev pub Come : Run S R → Run S R → Type 0
  Come r r' = (u : Bound) → StandsAt source ranking u r → (v : Bound) × StandsAt source ranking v r'

  module _ (r r' r'' : Run S R) (come : Come r r') (o : Option Reply) (turned : (u : Bound) → StandsAt source ranking u r' → TurnsTo source ranking r' o r'') where
    pub comes-on : o ≡ None → Kept source r' r'' → Come r r''
    comes-on on kept u h =
        let a = come u h in
        let t = subst (λ o. TurnsTo source ranking r' o r'') on (turned a.0 a.1) in
        (t.1.0, stands-still r' r'' kept t.1.0 t.1.1)

    pub replies_then : (reply : Reply) → o ≡ Some reply → Kept source r r' → listing r'.listed ≡ listing r.listed → (u : Bound) → StandsAt source ranking u r → RepliesWith source ranking r reply r''
    replies_then reply end kept l u h =
        let a = come u h in
        turns-still r r' kept r'' (Some reply) l (subst (λ o. TurnsTo source ranking r' o r'') end (turned a.0 a.1))

module _ {S R : Type 0} (source : PageSource S) (ranking : Ranking R) (mono : (s : R) (p q : Measures) → p ≼ q → ranking.score s p ≤ ranking.score s q) (r : Run S R) where
  abbrev q : Query
  q = query_of ranking.score r

  abbrev b : Book
  b = source.book r.source

  laws : Laws q
  laws = bands-keep-laws (ranking.score r.query.ranking) r.query.question (mono r.query.ranking)

  lawful : Lawful b
  lawful = source.laws.lawful r.source

  some : 1 ≤ length b
  some = omega (arith, source.laws.some r.source, source.laws.sized r.source)

  few : (u : Bound) → length (Rattle.promises.specs.Opening.opened q b u) ≤ 256
  few u = omega (arith, turns.few-opened q laws b lawful some u, source.laws.sized r.source, source.laws.fits r.source, source.laws.few)

  -- the page count is the book's length
  opens-sized : (p : ℕ) (ss : List stated.Station) (xs ys : List Waiting) (n m : ℕ) (o : Result (Unit {0}) Fault) → Opens q b (source.pages r.source) p ss xs ys n m o → Opens q b (length b) p ss xs ys n m o
  opens-sized p ss xs ys n m o h = subst (λ k. Opens q b k p ss xs ys n m o) (sym (source.laws.sized r.source)) h

  module _ (u : Bound) (at-u : StandsAt source ranking u r) where
    pub ended : (ys : List Waiting) → length (held r.waiting) ≡ 0 → Turned q b (listing r.listed) (Some (Ok None)) ys (listing r.listed) r.opened
    ended ys h = turns.ended q laws b lawful u (held r.waiting) (listing r.listed) r.opened at-u ys h

    module _ (w : Waiting) (ys : List Waiting) (taken : Taken (held r.waiting) w ys) where
      pub aside : false ≡ passes q (listing r.listed) w.entry → Turned q b (listing r.listed) None ys (listing r.listed) r.opened
      aside h = turns.aside q laws b lawful u (held r.waiting) (listing r.listed) r.opened at-u w ys taken (sym h)

      module _ (passed : true ≡ passes q (listing r.listed) w.entry) where
        pub handed : (s : stated.Station) → w.entry ≡ Station s → (ss : List stated.Station) (o : Result (Unit {0}) Full) → o ≡ Ok tt → Lists 512 (listing r.listed) s o ss → Turned q b (listing r.listed) (Some (Ok (Some s))) ys ss r.opened
        handed s is ss o e l = let k = subst (λ o. Lists 512 (listing r.listed) s o ss) e l in turns.handed q laws b lawful u (held r.waiting) (listing r.listed) r.opened at-u w ys taken s is (sym passed) k.0 ss k.1

        pub list_full : (s : stated.Station) → w.entry ≡ Station s → (ss : List stated.Station) (o : Result (Unit {0}) Full) (full : Full) → o ≡ Err full → Lists 512 (listing r.listed) s o ss → Turned q b (listing r.listed) (Some (Err (fault ListFull s.number 0))) ys ss r.opened
        list_full s is ss o full e l = let k = subst (λ o. Lists 512 (listing r.listed) s o ss) e l in subst (λ ss. Turned q b (listing r.listed) (Some (Err (fault ListFull s.number 0))) ys ss r.opened) (sym k.1) (turns.list_full q laws b lawful u (held r.waiting) (listing r.listed) r.opened at-u w ys taken s is (sym passed) k.0)

        module _ (c : Child) (is : w.entry ≡ Page c) (p : ℕ) (page : p ≡ c.page) (r' : Run S R) (l : r'.listed ≡ r.listed) where
          named : (o : Result (Unit {0}) Fault) → Opens q b (source.pages r.source) p (listing r.listed) ys (held r'.waiting) r.opened r'.opened o → Opens q b (length b) c.page (listing r.listed) ys (held r'.waiting) r.opened r'.opened o
          named o h = opens-sized c.page (listing r.listed) ys (held r'.waiting) r.opened r'.opened o (subst (λ p. Opens q b (source.pages r.source) p (listing r.listed) ys (held r'.waiting) r.opened r'.opened o) page h)

          pub entered : Opens q b (source.pages r.source) p (listing r.listed) ys (held r'.waiting) r.opened r'.opened (Ok tt) → TurnsTo source ranking r None r'
          entered h = subst (λ l. Turned q b (listing r.listed) None (held r'.waiting) (listing l) r'.opened) (sym l) (turns.entered q laws b lawful u (held r.waiting) (listing r.listed) r.opened at-u w ys taken c is (sym passed) (held r'.waiting) r'.opened (held-few r'.waiting) (named (Ok tt) h))

          pub refused : (f : Fault) → Opens q b (source.pages r.source) p (listing r.listed) ys (held r'.waiting) r.opened r'.opened (Err f) → TurnsTo source ranking r (Some (Err f)) r'
          refused f h = subst (λ l. Turned q b (listing r.listed) (Some (Err f)) (held r'.waiting) (listing l) r'.opened) (sym l) (turns.refused q laws b lawful u (held r.waiting) (listing r.listed) r.opened at-u w ys taken c is (sym passed) (held r'.waiting) r'.opened (few (up_to (key_of q w.entry))) f (named (Err f) h))

  -- the top is opened, and then turn follows turn
  module _ (fresh : (r.opened ≡ 0) × (length (held r.waiting) ≡ 0) × (length (listing r.listed) ≡ 0)) (r' : Run S R) (l : r'.listed ≡ r.listed) where
    at_first : (o : Result (Unit {0}) Fault) → OpensTo source ranking r 0 o r' → Opens q b (length b) 0 (listing r.listed) (held r.waiting) (held r'.waiting) 0 r'.opened o
    at_first o h = subst (λ n. Opens q b (length b) 0 (listing r.listed) (held r.waiting) (held r'.waiting) n r'.opened o) fresh.0 (opens-sized 0 (listing r.listed) (held r.waiting) (held r'.waiting) r.opened r'.opened o h)

    pub top-refused : (f : Fault) → OpensTo source ranking r 0 (Err f) r' → RepliesWith source ranking r (Err f) r'
    top-refused f h = subst (λ l. Gave q b (listing r.listed) (Err f) (held r'.waiting) (listing l) r'.opened) (sym l) (turns.top-refused q laws b lawful (held r.waiting) (listing r.listed) (fresh.1, fresh.2) (held r'.waiting) r'.opened some f (at_first (Err f) h))

    begun : Kept source r r' → OpensTo source ranking r 0 (Ok tt) r' → StandsAt source ranking (below top_key) r'
    begun kept h = stands-still source ranking r r' kept (below top_key) (subst (λ l. At q b (below top_key) (held r'.waiting) (listing l) r'.opened) (sym l) (turns.begun q laws b lawful (held r.waiting) (listing r.listed) (fresh.1, fresh.2) (held r'.waiting) r'.opened (held-few r'.waiting) (at_first (Ok tt) h)))

    pub begun-then : Kept source r r' → OpensTo source ranking r 0 (Ok tt) r' → (r'' : Run S R) (reply : Reply) → ((u : Bound) → StandsAt source ranking u r' → RepliesWith source ranking r' reply r'') → RepliesWith source ranking r reply r''
    begun-then kept h r'' reply gives = turns-still source ranking r r' kept r'' (Some reply) (ap listing l) (gives (below top_key) (begun kept h))
