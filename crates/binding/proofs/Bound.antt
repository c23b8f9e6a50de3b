-- From what was read and written to what is bound.
use Rattle.std.proofs.Common.{◌≡◌, ℕ, List, length, take, Some, Ok, Err, Result, subst, inr}
use Rattle.stations.specs.declared.fault.Fault.{Fault}
use Rattle.stations.specs.declared.station.Station.{Station}
use Rattle.stations.specs.Rows.{most_stations}
use Rattle.logs.specs.declared.log.Log.{Log}
use Rattle.logs.specs.Reading.{Accepted}
use Rattle.logs.specs.Rendering.{Rendered}
use Rattle.writer.specs.declared.keys.CodeKey.{CodeKey}
use Rattle.writer.specs.Writing.{write_fault, Writes}
use Rattle.binding.specs.Binding.{Binds}

module _ {text : List ℕ} {before after : List Station} {log : Log} (a : Accepted text before after log) where
  abbrev rendered : Rendered most_stations text
  rendered = record {
    ranker = log.ranking;
    question = log.question;
    row = take log.count after;
    valid = a.valid;
    shown = a.shown;
    fits = a.valid.few;
  }

  pub bound : (work work' : List CodeKey) (was is : List ℕ) → length work ≡ most_stations → (r : Result ℕ Fault) → Writes (take log.count after) work work' was is r → Binds text was is r
  bound work work' was is room (Ok n) w = (rendered, work, work', w.1)
  bound work work' was is room (Err f) w = (inr (rendered, subst (λ n. write_fault (take log.count after) n (length was) ≡ Some f) room w.0), w.2)
