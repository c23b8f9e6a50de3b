-- The order of what waits: by key.
use Rattle.std.specs.Ordering.{ordering_then, nat_cmp}
use Rattle.std.specs.Cmp.{IsTotalOrder}
use Rattle.stations.specs.contracts.key.KindOrd.TheImpl.{ghosts as kind_ghosts}
use Rattle.waiting.specs.declared.waiting.Waiting.{Waiting}
use Rattle.waiting.specs.contracts.waiting.WaitingOrd.TheImpl.Laws.{total-law}

-- rank, sum, kind and number of the key, part by part; the entry does not count
abbrev pub by_key : IsTotalOrder (λ (v w : Waiting). ordering_then (nat_cmp v.key.rank w.key.rank) (ordering_then (nat_cmp v.key.sum w.key.sum) (ordering_then (kind_ghosts.cmp v.key.kind w.key.kind) (nat_cmp v.key.number w.key.number))))
by_key = total-law
