-- The law of a whole search, said from the book alone: what it meets, where it ends, and what each call of `next` gives.
use Rattle.std.specs.Prelude.{ℕ, zero, suc, List, [], ◌∷◌, ◌++◌, map, length, take, Some, None, Ok, Err, Option, Result, ◌≢◌, nat_le, nat_lt}
use Rattle.stations.specs.declared.station.Station as stated
use Rattle.stations.specs.declared.key.Key.{Key}
use Rattle.stations.specs.declared.key.Kind.TheVariants as kind
use Rattle.stations.specs.declared.fault.Fault.{Fault}
use Rattle.stations.specs.declared.fault.Code.TheVariants.{DeadPage, WaitingFull, ListFull}
use Rattle.stations.specs.Faults.{fault, refuse_if, or_else}
use Rattle.stations.specs.Keys.{before}
use Rattle.stations.specs.Counting.{sort}
use Rattle.books.specs.declared.Entry.{Entry}
use Rattle.books.specs.declared.Entry.TheVariants.{Page, Station}
use Rattle.books.specs.Books.{Book, slot, is_dead}
use Rattle.promises.specs.Bounds.{Bound, all, below, up_to}
use Rattle.promises.specs.Queries.{Query, station_key, page_key, answer}
use Rattle.promises.specs.Opening.{called_for, opened, listed}
use Rattle.promises.specs.Waiting.{key_of, waiting}

-- how many entries may wait, and how many stations may be listed
pub record Limits : Type 0 where
  pub most_waiting : ℕ
  pub most_listed : ℕ

-- the top is met first: no key comes before this one
abbrev pub top_key : Key
top_key = record { rank = 0; sum = 0; kind = kind.Page; number = 0 }

-- how a search ends: at its goal, or halted, with the reason and the key of the page or station that it was halted at
pub data Ending : Type 0 where
  done : Ending
  halted : Fault → Key → Ending

-- a halt here, if there is a reason, or else what follows
abbrev pub halt_or : Option Fault → Key → Ending → Ending
halt_or (Some f) κ later = halted f κ
halt_or None κ later = later

-- it does not end at a limit
abbrev pub Unhindered : Ending → Type 0
Unhindered done = Unit {0}
Unhindered (halted f κ) = (f.code ≢ WaitingFull) × (f.code ≢ ListFull)

-- what lies before the end is listed
abbrev pub listed_bound : Ending → Bound
listed_bound done = all
listed_bound (halted f κ) = below κ

-- the page that halts a search was opened too
abbrev pub opened_bound : Ending → Bound
opened_bound done = all
opened_bound (halted f κ) = up_to κ

-- what `next` gives once the search has ended
abbrev pub last_reply : Ending → Result (Option stated.Station) Fault
last_reply done = Ok None
last_reply (halted f κ) = Err f

-- the stations one after the other, and then the end
abbrev pub reply_at : List stated.Station → Ending → ℕ → Result (Option stated.Station) Fault
reply_at [] end n = last_reply end
reply_at (s ∷ ss) end zero = Ok (Some s)
reply_at (s ∷ ss) end (suc n) = reply_at ss end n

-- how far pages are opened when that reply is given
abbrev pub bound_at : Query → List stated.Station → Ending → ℕ → Bound
bound_at q [] end n = opened_bound end
bound_at q (s ∷ ss) end zero = below (station_key q s)
bound_at q (s ∷ ss) end (suc n) = bound_at q ss end n

module _ (q : Query) (b : Book) where
  -- what a search meets after the top, in rising key order: the pages called for and the stations of the answer
  abbrev pub row : List Entry
  row = sort (λ e f. before (key_of q e) (key_of q f)) (map Page (called_for q b) ++ map Station (answer q b))

  module _ (limits : Limits) where
    -- why the search halts at the page p, if it does: the page is dead, or leaves too many waiting
    abbrev pub open_fault : ℕ → Bound → Option Fault
    open_fault p u = or_else (refuse_if (is_dead (slot b p)) (fault DeadPage p 0)) (refuse_if (nat_lt limits.most_waiting (length (waiting q b u))) (fault WaitingFull p 0))

    -- why it halts at an entry of the row: so at a page, and at a station that finds the list full
    abbrev pub halt_at : Entry → Option Fault
    halt_at (Page c) = open_fault c.page (up_to (page_key q c))
    halt_at (Station s) = refuse_if (nat_le limits.most_listed (length (listed q b (below (station_key q s))))) (fault ListFull s.number 0)

    -- the first halt along the entries
    abbrev pub first_halt : List Entry → Ending
    first_halt [] = done
    first_halt (e ∷ es) = halt_or (halt_at e) (key_of q e) (first_halt es)

    -- how the search ends
    abbrev pub ending : Ending
    ending = halt_or (open_fault 0 (below top_key)) top_key (first_halt row)

    -- the stations that it hands out, one at each call of `next`
    abbrev pub handed : List stated.Station
    handed = listed q b (listed_bound ending)

    -- what `next` gives after n calls of it
    abbrev pub next : ℕ → Result (Option stated.Station) Fault
    next n = reply_at handed ending n

    -- the stations handed out in n calls
    abbrev pub handed_after : ℕ → List stated.Station
    handed_after n = take n handed

    -- the pages opened in n calls: the first one opens the top
    abbrev pub opened_after : ℕ → List ℕ
    opened_after zero = []
    opened_after (suc n) = opened q b (bound_at q handed ending n)

    -- driven on, the search passes neither limit before it says done or refuses
    abbrev pub Within : Type 0
    Within = Unhindered ending
