-- What a page holds at its level, by the bytes of its entries.
use Rattle.std.proofs.Common.{◌≡◌, ℕ, suc, ◌-◌, ◌<◌, true, List, Option, sym, ap, ◌∙◌, arith}
use Rattle.books.specs.Books.{leaf, node}
use Rattle.stored.specs.declared.naming.Naming.{Naming}
use Rattle.stored.specs.Layout.{level_byte, entry_bytes, stations_of, children_of, live_slot, live}
use Rattle.stored.specs.Notes.{Notes}
use Rattle.stored.specs.Checks.{is_fair_header, is_below, entries_fault, page_fault}
use Rattle.stored.proofs.Chunks.{stations_are, children_are}

module _ (page : List ℕ) (chunks : List (List ℕ)) where
  pub live_leaf : level_byte page ≡ 0 → chunks ≡ entry_bytes 12 page → live page ≡ leaf (stations_of chunks)
  live_leaf low same = ap (λ l. live_slot l page) low ∙ ap leaf (sym (ap stations_of same ∙ stations_are page))

  pub live_node : 0 < level_byte page → chunks ≡ entry_bytes 18 page → live page ≡ node (level_byte page - 1) (children_of chunks)
  live_node high same =
      let up : level_byte page ≡ suc (level_byte page - 1) = omega arith in
      ap (λ k. live_slot k page) up ∙ ap (node (level_byte page - 1)) (sym (ap children_of same ∙ children_are page))

-- a page with a fair header and at its level is refused for its entries only
pub entries_decide : (pages p : ℕ) (nm : Option Naming) (notes : Notes) (numbers page : List ℕ) → is_fair_header p page ≡ true → is_below nm (level_byte page) ≡ true
    → page_fault pages p nm notes numbers page ≡ entries_fault pages p nm notes numbers (live page)
entries_decide pages p nm notes numbers page fair below = grind arith
