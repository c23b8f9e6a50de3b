-- The pages of a roll, read and written one after the other.
use Rattle.std.proofs.Common.{◌≡◌, ℕ, ◌+◌, ◌*◌, ◌<◌, ◌≤◌, List, [], ◌++◌, length, take, None, Err, MatchBool, Result, sym, ap, ◌∙◌, subst, arith}
use borrow.Rule.Slice.PartMut.{put_mid}
use Rattle.std.specs.List.{flat_map}
use Rattle.std.proofs.lemmas.List.{take_more, flat_map_more}
use Rattle.std.proofs.lemmas.Slice.{take-put_mid}
use Rattle.std.proofs.lemmas.Bool.{lt-ltb}
use Rattle.stations.specs.declared.fault.Fault.{Fault}
use Rattle.stations.specs.declared.fault.Code.TheVariants.{PageNumber}
use Rattle.stations.specs.declared.station.Station.{Station}
use Rattle.stations.specs.Faults.{fault}
use Rattle.stations.specs.Rows.{row_fault}
use Rattle.books.specs.Books.{Slot, dead, leaf, node, Book, slot, level, IsLive}
use Rattle.sources.specs.declared.page.Page.{Page}
use Rattle.sources.specs.Sources.{Shows, Seen, Gives, Reads}
use Rattle.rolls.specs.declared.roll.Roll.{Roll}
use Rattle.rolls.specs.Rolls.{roll_book}
use Rattle.rolls.specs.Source.{row_in, book_of, taken}
use Rattle.writer.specs.Bytes.{page_with, slot_bytes, book_bytes}

-- a roll that took a row reads it
pub loaded : (roll : Roll) (row former : List Station) → row_fault row ≡ None → row_in roll ≡ taken (row_fault row) row former → book_of roll ≡ roll_book row
loaded roll row former fine e = ap roll_book (e ∙ ap (λ o. taken o row former) fine)

-- a live page comes, and is shown
seen : (p : ℕ) (s : Slot) (r : Result Page Fault) → IsLive s → Gives p s r → Seen s r
seen p dead r alive g = absurd alive
seen p (leaf ss) r alive g = g
seen p (node l cs) r alive g = g

pub read-seen : (b : Book) (n p : ℕ) (r : Result Page Fault) → p < n → IsLive (slot b p) → Reads b n p r → Seen (slot b p) r
read-seen b n p r below alive h = seen p (slot b p) r alive (subst (λ t. MatchBool t (Gives p (slot b p) r) (r ≡ Err (fault PageNumber p 0))) (lt-ltb p n below) h)

pub shown-bytes : (s : Slot) (page : Page) → Shows s page → page_with page.level (take page.len page.entries) ≡ slot_bytes s
shown-bytes s page h = ap (λ l. page_with l (take page.len page.entries)) h.levels ∙ ap (page_with (level s)) h.shown

module _ (b : Book) (p : ℕ) (below : p < length b) where
  bytes-more : book_bytes (take (p + 1) b) ≡ book_bytes (take p b) ++ slot_bytes (slot b p)
  unfolding book_bytes
  bytes-more = ap (flat_map slot_bytes) (take_more b p dead below) ∙ sym (flat_map_more slot_bytes [] (take p b) (slot b p))

  -- one more page is written
  pub page-more : (book page : List ℕ) (k : ℕ) → page ≡ slot_bytes (slot b p) → length page ≡ 256 → k ≡ 256 → 256 * length b ≤ length book
      → take (256 * p) book ≡ book_bytes (take p b) → take (256 * (p + 1)) (put_mid (256 * p) k book page) ≡ book_bytes (take (p + 1) b)
  page-more book page k is full k-is room inv =
      take-put_mid (256 * p) k book page (256 * (p + 1)) (omega arith) (omega arith)
      ∙ ap (λ front. front ++ page) inv ∙ ap (λ x. book_bytes (take p b) ++ x) is ∙ sym bytes-more
