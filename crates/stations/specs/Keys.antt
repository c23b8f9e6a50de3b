-- Keys: rank, sum, kind (page 0, station 1) and number, compared part by part.
use Rattle.std.specs.Prelude.{ℕ, Bool, ◌&&◌, ◌||◌, ◌==◌, nat_lt}
use Rattle.stations.specs.declared.key.Key.{Key}
use Rattle.stations.specs.declared.key.Kind as kinds
use Rattle.stations.specs.declared.key.Kind.TheVariants as variants
use Rattle.stations.specs.declared.station.Station.{Station}
use Rattle.stations.specs.Beating.{sum}

-- the third part of a key
abbrev pub kind_number : kinds.Kind → ℕ
kind_number variants.Page = 0
kind_number variants.Station = 1

-- the first parts decide, unless they are equal
abbrev pub lex : ℕ → ℕ → Bool → Bool
lex m n rest = nat_lt m n || (m == n && rest)

-- the key j comes before k
abbrev pub before : Key → Key → Bool
before j k = lex j.rank k.rank (lex j.sum k.sum (lex (kind_number j.kind) (kind_number k.kind) (nat_lt j.number k.number)))

-- the key of a station whose measures have this rank
abbrev pub station_key : ℕ → Station → Key
station_key rank s = record { rank = rank; sum = sum s.at; kind = variants.Station; number = s.number }
