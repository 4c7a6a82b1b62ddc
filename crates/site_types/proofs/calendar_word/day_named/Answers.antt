use Rattle.site_types.proofs.Common.{◌≡◌, rules}
use Rattle.site_types.proofs.CalendarLemmas.{date_of-made}
use Rattle.site_types.proofs.calendar_word.day_named.Goals as goal

pub returns : goal.returns
returns c =
    let month : c.in_ok-ok.field-0 ≡ c.args.month = search rules in
    let day : c.in_ok-ok-2.field-0 ≡ c.args.day = search rules in
    date_of-made c.args.year c.args.month c.args.day c.new.result (rw month at (rw day at c.new.ensures))
