-- From what was read and printed to what is reported.
use Rattle.std.proofs.Common.{◌≡◌, ℕ, List, take, Some, None, Ok, Err, Result, sym, refl, ap, ◌∙◌, subst}
use Rattle.stations.specs.declared.fault.Fault.{Fault}
use Rattle.stations.specs.declared.station.Station.{Station}
use Rattle.stations.specs.Rows.{most_stations}
use Rattle.stations.specs.Answers.{answer}
use Rattle.logs.specs.declared.log.Log.{Log}
use Rattle.logs.specs.Checks.{log_fault, score_in, question_in, row_in}
use Rattle.logs.specs.Reading.{Accepted}
use Rattle.logs.specs.Rendering.{Rendered}
use Rattle.logs.proofs.ReadAs.{read_as}
use Rattle.printing.specs.declared.report.Report.{Report}
use Rattle.printing.specs.Printed.{listing, refusal, refused_or, Printed, Prints}
use Rattle.reports.specs.Reports.{answer_lines, report_lines, length_in, answered, refused, Tells, Reported}

module _ {text : List ℕ} {before after : List Station} {log : Log} (a : Accepted text before after log) where
  abbrev rendered : Rendered most_stations text
  rendered = record {
    ranker = log.ranking;
    question = log.question;
    row = take log.count after;
    valid = a.valid;
    shown = a.shown;
    fits = a.valid.few;
  }

  module _ (was is : List ℕ) where
    pub reported_done : (n : ℕ) → Printed (answer_lines log.ranking log.question (take log.count after)) was is (Ok n) → Tells text was is None n
    reported_done n p = (rendered, p)

    pub reported_short : (f : Fault) → Printed (answer_lines log.ranking log.question (take log.count after)) was is (Err f) → Reported text was is (Err f)
    reported_short f p = (answer_lines log.ranking log.question (take log.count after), answered rendered refl, p)

-- the answer to an accepted log is what its bytes say is printed
pub lines_answered : {text : List ℕ} {before after : List Station} {log : Log} (a : Accepted text before after log) → log_fault most_stations text ≡ None → (was is : List ℕ) (r : Result ℕ Fault) → Printed (answer_lines log.ranking log.question (take log.count after)) was is r → Printed (report_lines text) was is r
lines_answered {text} a none was is r p =
    subst (λ bytes. Printed bytes was is r)
    (sym (ap (λ o. refused_or o (listing (score_in text) (answer (score_in text) (question_in text) (row_in text)))) none ∙ read_as a (λ rank q row. listing rank (answer rank q row)))) p

-- the refusal of a refused log is reported
pub reported_refused : (text : List ℕ) (f : Fault) → log_fault most_stations text ≡ Some f → (was is : List ℕ) (r : Result Report Fault) → Prints (Some f) (refusal f) was is r → Reported text was is r
reported_refused text f some was is (Ok r) p = subst (λ o. Tells text was is o r.len) p.0 (some, p.1)
reported_refused text f some was is (Err e) p = (refusal f, refused f some refl, p)

-- and it is what the bytes say is printed
pub lines_refused : (text : List ℕ) (f : Fault) → log_fault most_stations text ≡ Some f → (was is : List ℕ) (r : Result Report Fault) → Prints (Some f) (refusal f) was is r → Printed (report_lines text) was is (length_in r)
lines_refused text f some was is r p =
    subst (λ bytes. Printed bytes was is (length_in r))
    (sym (ap (λ o. refused_or o (listing (score_in text) (answer (score_in text) (question_in text) (row_in text)))) some)) (printed r p)
  where
    printed : (r : Result Report Fault) → Prints (Some f) (refusal f) was is r → Printed (refusal f) was is (length_in r)
    printed (Ok r) p = p.1
    printed (Err e) p = p
