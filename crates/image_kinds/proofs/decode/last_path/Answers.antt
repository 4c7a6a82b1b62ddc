use Rattle.image_kinds.proofs.Common.{[], arith, ◌∙◌}
use Rattle.image_kinds.proofs.Fronts.{last_at}
use Rattle.image_kinds.proofs.decode.last_path.Goals as goal

pub returns-in-Some : goal.returns-in-Some
returns-in-Some c =
    let found = c.in-Some.ensures.item.3 in
    c.path.ensures ∙ last_at [] c.args.items.now c.in-Some.item.now c.in-Some.item.now (omega (arith, found.0)) (found.1 c.in-Some.item.now)
