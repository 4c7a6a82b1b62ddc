use Rattle.schedule_windows.proofs.Common.{arith, ◌≡◌, ◌∙◌, pos, nanos_of_seconds, signed_arith}
use Rattle.jiff_core.specs.DateTime.{civil_nanos}
use Rattle.jiff_core.proofs.DateLemmas.{civil}
use Rattle.jiff_tz.proofs.YearLemmas.{back_year, year_of_nanos-civil}
use Rattle.schedule_windows.proofs.rule.year_of.Goals as goal

pub returns : goal.returns
returns c =
    let dt = c.to_datetime.result in
    let year_in = (civil dt.date).0 in
    let back = back_year dt.date.year year_in in
    let at = c.instant.ensures in
    let same : civil_nanos dt ≡ nanos_of_seconds (pos c.args.moment) = c.to_datetime.ensures ∙ omega (arith, signed_arith) in
    record {
      value = back ∙ year_of_nanos-civil dt (nanos_of_seconds (pos c.args.moment)) same;
      range = rw back year_in;
    }
