use Rattle.schedule_windows.proofs.Common.{◌≡◌, ◌∙◌, sym, ap, arith, signed_casts}
use Rattle.jiff_core.specs.Date.{epoch_day}
use Rattle.schedule_windows.specs.RunDays.{date_of}
use Rattle.schedule_windows.proofs.Dates.{date_of-date}
use Rattle.schedule_windows.proofs.calendar.date_of.Goals as goal

pub returns : goal.returns
returns c =
    let date = c.from_days_since_min.result in
    let same : epoch_day date ≡ c.args.day = omega (arith, signed_casts) in
    sym (date_of-date date) ∙ ap date_of same
