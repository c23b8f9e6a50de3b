use Rattle.std.proofs.Common.{◌/◌, false, lit<}
use Rattle.std.proofs.lemmas.Nat.{mod_below}
use Rattle.std.proofs.lemmas.List.{get_or-replicate}
use Rattle.stations.specs.Marks.{low_of, high_of}
use Rattle.stations.proofs.marks.Marks.new.Goals as goal

pub returns : goal.returns
returns c = record {
  lows = λ n. get_or-replicate 16384 (low_of n) false false (mod_below n 16384 (lit< tt));
  highs = λ n. get_or-replicate 16384 (high_of n) false false (mod_below (n / 16384) 16384 (lit< tt));
}
