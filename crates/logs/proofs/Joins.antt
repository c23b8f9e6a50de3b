-- Cutting and joining undo each other.
use Rattle.std.proofs.Common.{◌≡◌, ℕ, false, eqb, List, [], ◌∷◌, ap, ◌∙◌}
use Rattle.std.specs.List.{AllByRecursion as Each}
use Rattle.std.proofs.ByRecursion.{All-append}
use Rattle.logs.specs.Pieces.{pieces, join}
use Rattle.logs.specs.Lines.{Free}
use Rattle.logs.proofs.Cuts.{cut, whole}

-- parts that hold no separator come back
pub pieces-join : (sep : ℕ) (p : List ℕ) (ps : List (List ℕ)) → Free sep p → Each (Free sep) ps → pieces sep (join sep (p ∷ ps)) ≡ p ∷ ps
pieces-join sep p [] f fs = whole sep p f
pieces-join sep p (q ∷ ps) f fs = cut sep p (join sep (q ∷ ps)) f ∙ ap (λ xs. p ∷ xs) (pieces-join sep q ps fs.0 fs.1)

-- a joined text is free of what its parts and the separator are free of
pub join_free : (other sep : ℕ) (p : List ℕ) (ps : List (List ℕ)) → eqb sep other ≡ false → Free other p → Each (Free other) ps → Free other (join sep (p ∷ ps))
join_free other sep p [] e f fs = f
join_free other sep p (q ∷ ps) e f fs = All-append _ p (sep ∷ join sep (q ∷ ps)) f (e, join_free other sep q ps e fs.0 fs.1)
