-- What the exported calls reply.
use Rattle.std.specs.Prelude.{◌≡◌, ℕ, List, length, Some, None, Ok, Err, Option, Result}
use Rattle.stations.specs.declared.fault.Fault.{Fault}
use Rattle.stations.specs.Faults.{number_of}
use Rattle.stations.specs.Rows.{most_stations}
use Rattle.logs.specs.Checks.{log_fault, row_in}
use Rattle.stored.specs.Loading.{load_fault, page_count}
use Rattle.printing.specs.declared.report.Report.{Report}
use Rattle.printing.specs.Printed.{Prints}
use Rattle.picking.specs.Picks.{pick_fault, pick_lines, ask_fault, ask_lines}
use Rattle.binding.specs.Binding.{Binds}
use Rattle.panel.specs.declared.reply.Reply.{Reply}

-- nothing is refused: code and places are 0
abbrev pub accepting : ℕ → Reply
accepting n = record { code = 0; first = 0; second = 0; length = n }

-- a refusal, by the number of its code and its two places
abbrev pub refusing : Fault → ℕ → Reply
refusing f n = record { code = number_of f.code; first = f.first; second = f.second; length = n }

-- the reply to a call that counts or writes; a refusal has the length 0
abbrev pub reply_to : Result ℕ Fault → Reply
reply_to (Ok n) = accepting n
reply_to (Err f) = refusing f 0

-- so many bytes were printed, and this refusal among them, if any
abbrev pub reported : Option Fault → ℕ → Reply
reported None n = accepting n
reported (Some f) n = refusing f n

-- the reply to a call that prints: the bytes of a refusal count too, and only a buffer that is too short has the length 0
abbrev pub reply_of : Result Report Fault → Reply
reply_of (Ok r) = reported r.refusal r.len
reply_of (Err f) = refusing f 0

-- the reply to a check: how many there are, or the refusal
abbrev pub check_reply : Option Fault → ℕ → Reply
check_reply None n = accepting n
check_reply (Some f) n = refusing f 0

-- the reply to a log's text counts its stations
abbrev pub log_reply : List ℕ → Reply
log_reply text = check_reply (log_fault most_stations text) (length (row_in text))

-- the reply to a book's bytes counts its pages
abbrev pub book_reply : List ℕ → Reply
book_reply bytes = check_reply (load_fault bytes) (page_count bytes)

-- the buffer begins with the book of the log's stations, of so many bytes; or the reply refuses and the buffer is as it was
abbrev pub BookBound : List ℕ → List ℕ → List ℕ → Reply → Type 0
BookBound text was is r = (a : Result ℕ Fault) × Binds text was is a × (r ≡ reply_to a)

-- the buffer begins with these bytes, and the reply says how many and why they end, if it is not done; or it is too short, and as it was
abbrev pub Told : Option Fault → List ℕ → List ℕ → List ℕ → Reply → Type 0
Told why bytes was is r = (a : Result Report Fault) × Prints why bytes was is a × (r ≡ reply_of a)

-- what is picked of a log's stations is told
abbrev pub LogPicked : List ℕ → List ℕ → List ℕ → Reply → Type 0
LogPicked text was is r = Told (pick_fault text) (pick_lines text) was is r

-- what is asked of a book is told
abbrev pub BookAsked : List ℕ → List ℕ → List ℕ → List ℕ → Reply → Type 0
BookAsked book question was is r = Told (ask_fault book question) (ask_lines book question) was is r
