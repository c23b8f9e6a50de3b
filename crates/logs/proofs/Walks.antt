-- A line taken off a text in one walk.
use Rattle.std.proofs.Common.{◌≡◌, ℕ, ◌+◌, ◌<◌, true, ◌&&◌, List, [], ◌∷◌, ◌++◌, length, get_or, take, drop, set, sym, refl, ap, ◌∙◌, append_assoc, arith}
use Rattle.std.proofs.lemmas.List.{drop_more, drop_all, take_all, take_more_set, length-set}
use Rattle.std.proofs.ByRecursion.{All-append}
use Rattle.logs.specs.Pieces.{comma, line_end, fields_of}
use Rattle.logs.specs.Tokens.{front}
use Rattle.logs.specs.Lines.{Free}
use Rattle.logs.specs.Fields.{spells, reading, admits, paired, pass}
use Rattle.logs.specs.Values.{Closed}
use Rattle.logs.specs.Checks.{numbers_of}
use Rattle.logs.specs.Walks.{Taken}
use Rattle.logs.specs.declared.field.FieldKind.{FieldKind}
use Rattle.logs.specs.declared.field.FieldKind.TheVariants.{Letter}
use Rattle.logs.proofs.Cuts.{cut, whole, front-no-comma, front-no-end}
use Rattle.logs.proofs.Verdicts.{fine-none}

-- j fields are read, each with its comma, and whatever follows decides the rest
pub record Walk (text : List ℕ) (kinds : List FieldKind) (ns : List ℕ) (j : ℕ) (rest : List ℕ) : Type 0 where
  pub done : List ℕ
  pub parted : text ≡ done ++ rest
  pub free : Free line_end done
  pub places : length ns ≡ length kinds
  pub count : (ys : List ℕ) → length (fields_of (done ++ ys)) ≡ j + length (fields_of ys)
  pub written : (ys : List ℕ) → pass spells kinds (fields_of (done ++ ys)) ≡ pass spells (drop j kinds) (fields_of ys)
  pub admitted : (ys : List ℕ) → pass admits kinds (take j ns ++ ys) ≡ pass admits (drop j kinds) ys
  pub numbers : (ys : List ℕ) → numbers_of kinds (done ++ ys) ≡ take j ns ++ numbers_of (drop j kinds) ys

pub walk_none : (text : List ℕ) (kinds : List FieldKind) (ns : List ℕ) → length ns ≡ length kinds → Walk text kinds ns 0 text
walk_none text kinds ns places = record {
  done = [];
  parted = refl;
  free = tt;
  places = places;
  count = λ ys. omega arith;
  written = λ ys. refl;
  admitted = λ ys. refl;
  numbers = λ ys. refl;
}

module _ (text : List ℕ) (kinds : List FieldKind) (ns : List ℕ) (j : ℕ) (rest : List ℕ) (w : Walk text kinds ns j rest) (more : j < length kinds) (n : ℕ) (after : List ℕ) where
  abbrev kind : FieldKind
  kind = get_or kinds j Letter

  plain : Free comma (front rest)
  plain = front-no-comma rest

  place : j < length ns
  place = omega (arith, w.places)

  -- a comma follows
  pub walk_more : Closed kind rest comma n after → Walk text kinds (set ns j n) (j + 1) after
  walk_more c =
      let f = front rest in
      let split : (ys : List ℕ) → (w.done ++ (f ++ comma ∷ [])) ++ ys ≡ w.done ++ (f ++ comma ∷ ys) =
      λ ys. append_assoc w.done (f ++ comma ∷ []) ys ∙ ap (λ xs. w.done ++ xs) (append_assoc f (comma ∷ []) ys) in
      record {
        done = w.done ++ (f ++ comma ∷ []);
        parted = w.parted ∙ ap (λ xs. w.done ++ xs) c.whole ∙ sym (split after);
        free = All-append _ w.done (f ++ comma ∷ []) w.free (All-append _ f (comma ∷ []) (front-no-end rest) (refl, tt));
        places = length-set ns j n ∙ w.places;
        count = λ ys. omega (arith, ap (λ xs. length (fields_of xs)) (split ys), w.count (f ++ comma ∷ ys), ap length (cut comma f ys plain));
        written = λ ys.
            ap (λ xs. pass spells kinds (fields_of xs)) (split ys) ∙ w.written (f ++ comma ∷ ys) ∙ ap (pass spells (drop j kinds)) (cut comma f ys plain)
            ∙ ap (λ ks. pass spells ks (f ∷ fields_of ys)) (drop_more kinds j Letter more) ∙ ap (λ t. t && pass spells (drop (j + 1) kinds) (fields_of ys)) c.written;
        admitted = λ ys.
            ap (λ xs. pass admits kinds (xs ++ ys)) (take_more_set ns j n place) ∙ ap (pass admits kinds) (append_assoc (take j ns) (n ∷ []) ys) ∙ w.admitted (n ∷ ys)
            ∙ ap (λ ks. pass admits ks (n ∷ ys)) (drop_more kinds j Letter more) ∙ ap (λ t. t && pass admits (drop (j + 1) kinds) ys) c.admitted;
        numbers = λ ys.
            let later = numbers_of (drop (j + 1) kinds) ys in
            ap (numbers_of kinds) (split ys) ∙ w.numbers (f ++ comma ∷ ys) ∙ ap (λ xs. take j ns ++ paired reading (drop j kinds) xs) (cut comma f ys plain)
            ∙ ap (λ ks. take j ns ++ paired reading ks (f ∷ fields_of ys)) (drop_more kinds j Letter more) ∙ ap (λ m. take j ns ++ m ∷ later) (sym c.says)
            ∙ sym (append_assoc (take j ns) (n ∷ []) later) ∙ ap (λ xs. xs ++ later) (sym (take_more_set ns j n place));
      }

  -- the line's end follows, after the last kind
  pub walk_end : length kinds ≡ j + 1 → Closed kind rest line_end n after → (line : ℕ) → Taken line kinds text (set ns j n) after
  walk_end last c line =
      let f = front rest in
      let bytes = w.done ++ f in
      let one : drop j kinds ≡ kind ∷ [] = drop_more kinds j Letter more ∙ ap (λ ks. kind ∷ ks) (drop_all (j + 1) kinds (omega arith)) in
      let all : take (j + 1) (set ns j n) ≡ set ns j n = take_all (j + 1) (set ns j n) (omega (arith, length-set ns j n, w.places)) in
      let says : set ns j n ≡ numbers_of kinds bytes =
      sym (w.numbers f ∙ ap (λ xs. take j ns ++ paired reading (drop j kinds) xs) (whole comma f plain)
      ∙ ap (λ ks. take j ns ++ paired reading ks (f ∷ [])) one ∙ ap (λ m. take j ns ++ m ∷ []) (sym c.says)
      ∙ sym (take_more_set ns j n place) ∙ all) in
      record {
        bytes = bytes;
        found = record {
          whole = w.parted ∙ ap (λ xs. w.done ++ xs) c.whole ∙ sym (append_assoc w.done f (line_end ∷ after));
          free = All-append _ w.done f w.free (front-no-end rest);
        };
        accepted = fine-none line kinds bytes (record {
          count = omega (arith, w.count f, ap length (whole comma f plain));
          spelled =
              w.written f ∙ ap (pass spells (drop j kinds)) (whole comma f plain)
              ∙ ap (λ ks. pass spells ks (f ∷ [])) one ∙ ap (λ t. t && true) c.written;
          admitted =
              ap (pass admits kinds) (sym says ∙ sym all ∙ take_more_set ns j n place) ∙ w.admitted (n ∷ [])
              ∙ ap (λ ks. pass admits ks (n ∷ [])) one ∙ ap (λ t. t && true) c.admitted;
        });
        says = says;
      }
