use Rattle.site_types.proofs.Common.{rules, arith, ◌≡◌, ◌∷◌}
use Rattle.site_types.proofs.JoinedTextLemmas.{all_joined}
use Rattle.site_types.proofs.joined.push_joined.Goals as goal

pub returns : goal.returns
returns g c =
    let list : c.args.values.now ≡ c.in-Some.first.now ∷ c.in-Some.rest.now = search rules in
    all_joined g.T.Written.written 43 c.args.text.now.items c.push_to.new.text.items c.loop-value.text.items c.in-Some.first.now c.in-Some.rest.now c.args.values.now c.loop-value.value-index list (search rules) (search rules) (omega arith)
