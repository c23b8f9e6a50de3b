-- From what was read of a log to how many stations it has.
use Rattle.std.proofs.Common.{◌≡◌, ℕ, ◌≤◌, List, length, take, None, Option, sym, ap, ◌∙◌, arith}
use Rattle.std.proofs.lemmas.List.{length-take-le}
use Rattle.stations.specs.declared.fault.Fault.{Fault}
use Rattle.stations.specs.declared.station.Station.{Station}
use Rattle.stations.specs.Rows.{most_stations}
use Rattle.logs.specs.declared.log.Log.{Log}
use Rattle.logs.specs.Checks.{row_in}
use Rattle.logs.specs.Reading.{Accepted}
use Rattle.logs.specs.Rendering.{Rendered}
use Rattle.logs.proofs.Laws.{says}
use Rattle.panel.specs.declared.reply.Reply.{Reply}
use Rattle.panel.specs.Replies.{accepting, check_reply}

module _ {text : List ℕ} {before after : List Station} {log : Log} (a : Accepted text before after log) (few : log.count ≤ most_stations) (long : length after ≡ most_stations) where
  abbrev rendered : Rendered most_stations text
  rendered = record {
    ranker = log.ranking;
    question = log.question;
    row = take log.count after;
    valid = a.valid;
    shown = a.shown;
    fits = a.valid.few;
  }

  pub counted : log.count ≡ length (row_in text)
  counted = sym (ap length (says most_stations text rendered).row ∙ length-take-le log.count after (omega (arith, few, long)))

pub checked : (o : Option Fault) (n m : ℕ) (r : Reply) → o ≡ None → m ≡ n → r ≡ accepting m → r ≡ check_reply o n
checked o n m r none e p = p ∙ ap accepting e ∙ ap (λ o. check_reply o n) (sym none)
