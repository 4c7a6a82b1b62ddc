use Rattle.site_types.proofs.Common.{◌≡◌, rules}
use Rattle.site_types.proofs.WindowLemmas.{window_at-made}
use Rattle.site_types.proofs.window_word.window_at.Goals as goal

pub returns : goal.returns
returns c =
    let length : c.in_ok-ok.field-0 ≡ c.args.length = search rules in
    window_at-made c.args.weekday c.args.start c.args.length c.new.result (rw length at c.new.ensures)
