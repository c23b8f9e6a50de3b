-- A search that stands halts for three reasons only.
use Rattle.std.proofs.Common.{◌≡◌, ℕ, zero, suc, Bool, true, false, ltb, leb, ◌⊎◌, List, [], ◌∷◌, length, Some, None, Ok, Err, Option, Result, sym, refl, ap, subst, inl, inr, ⊎_elim, arith}
use Rattle.stations.specs.declared.station.Station as stated
use Rattle.stations.specs.declared.key.Key.{Key}
use Rattle.stations.specs.declared.fault.Fault.{Fault}
use Rattle.stations.specs.declared.fault.Code.TheVariants.{DeadPage, WaitingFull, ListFull}
use Rattle.stations.specs.Faults.{fault, refuse_if}
use Rattle.books.specs.declared.Entry.{Entry}
use Rattle.books.specs.declared.Entry.TheVariants.{Page, Station}
use Rattle.books.specs.Books.{Book, slot, is_dead}
use Rattle.promises.specs.Bounds.{Bound, below, up_to}
use Rattle.promises.specs.Queries.{Query, station_key, page_key}
use Rattle.promises.specs.Opening.{listed}
use Rattle.promises.specs.Waiting.{key_of, waiting}
use Rattle.promises.specs.Searching.{Limits, top_key, Ending, done, halted, halt_or, last_reply, reply_at, row, open_fault, halt_at, first_halt, ending, handed}
use Rattle.promises.proofs.Rows.{one_fails, same_some, some-none}
use Rattle.promises.specs.Halting.{HaltsOnly}

abbrev Known : Fault → Type 0
Known f = (f.code ≡ DeadPage) ⊎ ((f.code ≡ WaitingFull) ⊎ (f.code ≡ ListFull))

abbrev KnownEnd : Ending → Type 0
KnownEnd done = Unit {0}
KnownEnd (halted f κ) = Known f

ended : {P : Type 0} {s : Option stated.Station} {f : Fault} → ◌≡◌ {A = Result (Option stated.Station) Fault} (Ok s) (Err f) → P
ended h = let z : ◌≡◌ {A = ℕ} 0 1 = cc in absurd (omega arith)

known_reply : (end : Ending) (f : Fault) → KnownEnd end → last_reply end ≡ Err f → Known f
known_reply done f k h = ended h
known_reply (halted g κ) f k h = let e : g ≡ f = cc in subst Known e k

known_at : (xs : List stated.Station) (end : Ending) (n : ℕ) (f : Fault) → KnownEnd end → reply_at xs end n ≡ Err f → Known f
known_at [] end n f k h = known_reply end f k h
known_at (s ∷ xs) end zero f k h = ended h
known_at (s ∷ xs) end (suc n) f k h = known_at xs end n f k h

known_or : (o : Option Fault) (κ : Key) (later : Ending) → ((f : Fault) → o ≡ Some f → Known f) → KnownEnd later → KnownEnd (halt_or o κ later)
known_or (Some f) κ later here rest = here f refl
known_or None κ later here rest = rest

full_known : (t : Bool) (n : ℕ) (f : Fault) → refuse_if t (fault ListFull n 0) ≡ Some f → Known f
full_known true n f h = inr (inr (ap (λ x. x.code) (sym (same_some h))))
full_known false n f h = some-none (sym h)

module _ (q : Query) (b : Book) (limits : Limits) where
  open_known : (p : ℕ) (u : Bound) (f : Fault) → open_fault q b limits p u ≡ Some f → Known f
  open_known p u f h = ⊎_elim (λ k. inl (ap (λ x. x.code) k.1)) (λ k. inr (inl (ap (λ x. x.code) k.1))) (one_fails (is_dead (slot b p)) (ltb limits.most_waiting (length (waiting q b u))) (fault DeadPage p 0) (fault WaitingFull p 0) f h)

  halt_known : (e : Entry) (f : Fault) → halt_at q b limits e ≡ Some f → Known f
  halt_known (Page c) f h = open_known c.page (up_to (page_key q c)) f h
  halt_known (Station s) f h = full_known (leb limits.most_listed (length (listed q b (below (station_key q s))))) s.number f h

  first_known : (es : List Entry) → KnownEnd (first_halt q b limits es)
  first_known [] = tt
  first_known (e ∷ es) = known_or (halt_at q b limits e) (key_of q e) (first_halt q b limits es) (halt_known e) (first_known es)

  end_known : KnownEnd (ending q b limits)
  end_known = known_or (open_fault q b limits 0 (below top_key)) top_key (first_halt q b limits (row q b)) (open_known 0 (below top_key)) (first_known (row q b))

pub halts-only : HaltsOnly
halts-only q b limits n f h = known_at (handed q b limits) (ending q b limits) n f (end_known q b limits) h
