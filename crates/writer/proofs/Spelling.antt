-- The bytes of a page spell the page.
use Rattle.std.proofs.Common.{◌≡◌, ℕ, zero, suc, ◌+◌, ◌-◌, ◌*◌, ◌/◌, ◌%◌, ◌^◌, ◌<◌, ◌≤◌, true, false, List, [], ◌∷◌, ◌++◌, map, length, get_or, drop, replicate, sym, refl, ap, ◌∙◌, mul-zero, mul-suc, arith}
use Rattle.std.specs.List.{range_with_len, flat_map, AllByRecursion as Each}
use Rattle.std.proofs.lemmas.List.{append_assoc, drop-drop, drop_at, drop_more, get_or-drop, same_lists, length-append, length-replicate, length-map}
use Rattle.std.proofs.ByRecursion.{All-get_or}
use Rattle.std.proofs.lemmas.List.FromFn.{length-map-range_with_len, get_or-map-range_with_len}
use Rattle.std.proofs.lemmas.Bool.{ne_eqb}
use Rattle.stations.specs.declared.measures.Measures.{Measures}
use Rattle.stations.specs.declared.station.Station.{Station}
use Rattle.stations.specs.Beating.{Ordinary}
use Rattle.books.specs.declared.Child.{Child}
use Rattle.books.specs.declared.Entry.TheVariants as entries
use Rattle.books.specs.Books.{Slot, dead, leaf, node, level, size, stations_on, children_on, entries_on, IsLive}
use Rattle.rolls.proofs.Parts.{joined_map}
use Rattle.stored.specs.Layout.{short_at, long_at, measures_at, station_at, child_at, level_byte, count_byte, is_marked_dead, is_padded, live_slot, live}
use Rattle.stored.proofs.Counts.{all_of}
use Rattle.writer.specs.Bytes.{station_bytes, child_bytes, entry_bytes, filled, slot_bytes}

-- lists of equally many bytes, one after the other
module _ {X : Type 0} (f : X → List ℕ) (w : ℕ) where
  pub length_joined : (xs : List X) → Each (λ x. length (f x) ≡ w) xs → length (flat_map f xs) ≡ w * length xs
  length_joined [] even = sym (mul-zero w)
  length_joined (x ∷ xs) even =
      let more = mul-suc w (length xs) in
      let one = even.0 in
      let rest = length_joined xs even.1 in
      let whole = length-append (f x) (flat_map f xs) in
      omega arith

  pub drop_joined : (i : ℕ) (xs : List X) (z : List ℕ) → Each (λ x. length (f x) ≡ w) xs → i ≤ length xs → drop (w * i) (flat_map f xs ++ z) ≡ flat_map f (drop i xs) ++ z
  drop_joined zero xs z even h = ap (λ k. drop k (flat_map f xs ++ z)) (mul-zero w)
  drop_joined (suc i) [] z even h = let no_way : ⊥ = omega arith in absurd no_way
  drop_joined (suc i) (x ∷ xs) z even h =
      let more = mul-suc w i in
      let next : w * suc i ≡ w + w * i = omega arith in
      let inside : i ≤ length xs = omega arith in
      ap (λ k. drop k ((f x ++ flat_map f xs) ++ z)) next
      ∙ sym (drop-drop (w * i) w ((f x ++ flat_map f xs) ++ z))
      ∙ ap (drop (w * i)) (ap (drop w) (append_assoc (f x) (flat_map f xs) z) ∙ drop_at (f x) (flat_map f xs ++ z) w even.0)
      ∙ drop_joined i xs z even.1 inside

  -- what stands from place i on
  pub from_joined : (i : ℕ) (xs : List X) (d : X) (z : List ℕ) → Each (λ x. length (f x) ≡ w) xs → i < length xs → drop (w * i) (flat_map f xs ++ z) ≡ f (get_or xs i d) ++ (flat_map f (drop (i + 1) xs) ++ z)
  from_joined i xs d z even h =
      let inside : i ≤ length xs = omega arith in
      drop_joined i xs z even inside ∙ ap (λ ys. flat_map f ys ++ z) (drop_more xs i d h) ∙ append_assoc (f (get_or xs i d)) (flat_map f (drop (i + 1) xs)) z

  -- entries that are read where they were put come back
  module _ (at' : List ℕ → ℕ → X) (Fine : X → Type 0) (reads : (bytes : List ℕ) (n : ℕ) (x : X) (rest : List ℕ) → drop n bytes ≡ f x ++ rest → Fine x → at' bytes n ≡ x) (even : (x : X) → length (f x) ≡ w) where
    pub read_all : (bytes : List ℕ) (xs : List X) (z : List ℕ) (n : ℕ) → drop 8 bytes ≡ flat_map f xs ++ z → n ≡ length xs → Each Fine xs → map (λ i. at' bytes (8 + w * i)) (range_with_len 0 n) ≡ xs
    read_all bytes xs z n e m fine =
        same_lists (map (λ i. at' bytes (8 + w * i)) (range_with_len 0 n)) xs
        (length-map-range_with_len (λ i. at' bytes (8 + w * i)) 0 n ∙ m)
        (λ k d h.
        let counted = length-map-range_with_len (λ i. at' bytes (8 + w * i)) 0 n in
        let below : k < n = omega arith in
        let inside : k < length xs = omega arith in
        let same : 0 + k ≡ k = omega arith in
        get_or-map-range_with_len (λ i. at' bytes (8 + w * i)) 0 n k k d below same
        ∙ reads bytes (8 + w * k) (get_or xs k d) (flat_map f (drop (k + 1) xs) ++ z) (sym (drop-drop (w * k) 8 bytes) ∙ ap (drop (w * k)) e ∙ from_joined k xs d z (all_of (λ x. length (f x) ≡ w) even xs) inside) (All-get_or Fine xs k d inside fine))

-- numbers that are read where they were put
back : (x : ℕ) → x < 2 ^ 16 → x / 256 % 256 % 256 * 256 + x % 256 % 256 ≡ x
back x h = omega arith

back_wide : (x : ℕ) → x < 2 ^ 32 → (x / 65536 / 256 % 256 % 256 * 256 + x / 65536 % 256 % 256) * 65536 + (x / 256 % 256 % 256 * 256 + x % 256 % 256) ≡ x
back_wide x h =
    let high : x / 65536 / 256 % 256 % 256 * 256 + x / 65536 % 256 % 256 ≡ x / 65536 = back (x / 65536) (omega arith) in
    let low : x / 256 % 256 % 256 * 256 + x % 256 % 256 ≡ x % 65536 = omega arith in
    let split : x / 65536 * 65536 + x % 65536 ≡ x = omega arith in
    cc

short-from : (bytes : List ℕ) (n k m : ℕ) → n + k ≡ m → short_at bytes m ≡ short_at (drop n bytes) k
short-from bytes n k m e =
    let first : get_or bytes m 0 ≡ get_or (drop n bytes) k 0 = ap (λ j. get_or bytes j 0) (sym e) ∙ sym (get_or-drop n bytes k 0) in
    let next : m + 1 ≡ n + (k + 1) = omega arith in
    let second : get_or bytes (m + 1) 0 ≡ get_or (drop n bytes) (k + 1) 0 = ap (λ j. get_or bytes j 0) next ∙ sym (get_or-drop n bytes (k + 1) 0) in
    ap (λ x. x % 256 * 256 + get_or bytes (m + 1) 0 % 256) first ∙ ap (λ y. get_or (drop n bytes) k 0 % 256 * 256 + y % 256) second

module _ (bytes : List ℕ) (n : ℕ) (put : List ℕ) (is : drop n bytes ≡ put) where
  read : (k m v : ℕ) → n + k ≡ m → short_at put k ≡ v → short_at bytes m ≡ v
  read k m v e h = short-from bytes n k m e ∙ ap (λ xs. short_at xs k) is ∙ h

  read-measures : (k m : ℕ) (p : Measures) → n + k ≡ m → short_at put k ≡ p.m1 → short_at put (k + 2) ≡ p.m2 → short_at put (k + 4) ≡ p.m3 → short_at put (k + 6) ≡ p.m4 → measures_at bytes m ≡ p
  read-measures k m p e h1 h2 h3 h4 =
      let e1 = read k m p.m1 e h1 in
      let e2 = read (k + 2) (m + 2) p.m2 (omega arith) h2 in
      let e3 = read (k + 4) (m + 4) p.m3 (omega arith) h3 in
      let e4 = read (k + 6) (m + 6) p.m4 (omega arith) h4 in
      λ i. record { m1 = e1 i; m2 = e2 i; m3 = e3 i; m4 = e4 i }

-- a station that two, four and more bytes can hold
pub record StationFits (s : Station) : Type 0 where
  pub number : s.number < 2 ^ 32
  pub measures : Ordinary s.at

pub record ChildFits (c : Child) : Type 0 where
  pub page : c.page < 2 ^ 16
  pub low : Ordinary c.bounds.low
  pub high : Ordinary c.bounds.high

station-back : (bytes : List ℕ) (n : ℕ) (s : Station) (rest : List ℕ) → drop n bytes ≡ station_bytes s ++ rest → StationFits s → station_at bytes n ≡ s
station-back bytes n s rest is fits =
    let put = station_bytes s ++ rest in
    let p = s.at in
    let high = read bytes n put is 0 n (short_at put 0) (omega arith) refl in
    let low = read bytes n put is 2 (n + 2) (short_at put 2) refl refl in
    let number : long_at bytes n ≡ s.number = ap (λ x. x * 65536 + short_at bytes (n + 2)) high ∙ ap (λ y. short_at put 0 * 65536 + y) low ∙ back_wide s.number fits.number in
    let measures = read-measures bytes n put is 4 (n + 4) p refl (back p.m1 fits.measures.in1) (back p.m2 fits.measures.in2) (back p.m3 fits.measures.in3) (back p.m4 fits.measures.in4) in
    λ i. record { number = number i; at = measures i }

child-back : (bytes : List ℕ) (n : ℕ) (c : Child) (rest : List ℕ) → drop n bytes ≡ child_bytes c ++ rest → ChildFits c → child_at bytes n ≡ c
child-back bytes n c rest is fits =
    let put = child_bytes c ++ rest in
    let p = c.bounds.low in
    let q = c.bounds.high in
    let page = read bytes n put is 0 n c.page (omega arith) (back c.page fits.page) in
    let low = read-measures bytes n put is 2 (n + 2) p refl (back p.m1 fits.low.in1) (back p.m2 fits.low.in2) (back p.m3 fits.low.in3) (back p.m4 fits.low.in4) in
    let high = read-measures bytes n put is 10 (n + 10) q refl (back q.m1 fits.high.in1) (back q.m2 fits.high.in2) (back q.m3 fits.high.in3) (back q.m4 fits.high.in4) in
    λ i. record { page = page i; bounds = record { low = low i; high = high i } }

-- a page that 256 bytes can hold
pub record SlotFits (s : Slot) : Type 0 where
  pub alive : IsLive s
  pub levels : level s ≤ 7
  pub sizes : size s ≤ 12
  pub stations : Each StationFits (stations_on s)
  pub children : Each ChildFits (children_on s)

-- the entries come back
spelled-entries : (s : Slot) → SlotFits s → live_slot (level s) (slot_bytes s) ≡ s
spelled-entries dead fits = absurd fits.alive
spelled-entries (leaf ss) fits =
    let few = fits.sizes in
    let many = length-map ss entries.Station in
    let z : List ℕ = replicate (256 - length (0 ∷ length (map entries.Station ss) ∷ 0 ∷ 0 ∷ 0 ∷ 0 ∷ 0 ∷ 0 ∷ flat_map entry_bytes (map entries.Station ss))) 0 in
    let counted : count_byte (slot_bytes (leaf ss)) ≡ length ss = omega arith in
    ap leaf (read_all station_bytes 12 station_at StationFits station-back (λ s. refl) (slot_bytes (leaf ss)) ss z (count_byte (slot_bytes (leaf ss))) (ap (λ x. x ++ z) (joined_map entry_bytes entries.Station ss)) counted fits.stations)
spelled-entries (node l cs) fits =
    let few = fits.sizes in
    let many = length-map cs entries.Page in
    let z : List ℕ = replicate (256 - length (suc l ∷ length (map entries.Page cs) ∷ 0 ∷ 0 ∷ 0 ∷ 0 ∷ 0 ∷ 0 ∷ flat_map entry_bytes (map entries.Page cs))) 0 in
    let counted : count_byte (slot_bytes (node l cs)) ≡ length cs = omega arith in
    ap (node l) (read_all child_bytes 18 child_at ChildFits child-back (λ c. refl) (slot_bytes (node l cs)) cs z (count_byte (slot_bytes (node l cs))) (ap (λ x. x ++ z) (joined_map entry_bytes entries.Page cs)) counted fits.children)

module _ (s : Slot) (fits : SlotFits s) where
  level-back : level_byte (slot_bytes s) ≡ level s
  level-back = let low = fits.levels in omega arith

  pub not_marked : is_marked_dead (slot_bytes s) ≡ false
  not_marked = let low = fits.levels in let e = level-back in ne_eqb (level_byte (slot_bytes s)) 255 (λ x. omega arith)

  -- the bytes of a page spell the page
  pub spelled_back : live (slot_bytes s) ≡ s
  spelled_back = ap (λ l. live_slot l (slot_bytes s)) level-back ∙ spelled-entries s fits

  pub padded-back : is_padded (slot_bytes s) ≡ true
  padded-back = refl

-- a page takes 256 bytes
entries-length : (s : Slot) → length (flat_map entry_bytes (entries_on s)) ≤ 18 * size s
entries-length dead = omega arith
entries-length (leaf ss) =
    let same = ap length (joined_map entry_bytes entries.Station ss) in
    let e = length_joined station_bytes 12 ss (all_of (λ (x : Station). length (station_bytes x) ≡ 12) (λ x. refl) ss) in omega arith
entries-length (node l cs) =
    let same = ap length (joined_map entry_bytes entries.Page cs) in
    let e = length_joined child_bytes 18 cs (all_of (λ (x : Child). length (child_bytes x) ≡ 18) (λ x. refl) cs) in omega arith

filled-length : (bytes : List ℕ) → length bytes ≤ 256 → length (filled bytes) ≡ 256
filled-length bytes h =
    let a = length-append bytes (replicate (256 - length bytes) 0) in
    let b = length-replicate {A = ℕ} (256 - length bytes) 0 in
    omega arith

pub slot-length : (s : Slot) → size s ≤ 12 → length (slot_bytes s) ≡ 256
slot-length s h =
    let e = entries-length s in
    filled-length (level s ∷ length (entries_on s) ∷ 0 ∷ 0 ∷ 0 ∷ 0 ∷ 0 ∷ 0 ∷ flat_map entry_bytes (entries_on s)) (omega arith)
