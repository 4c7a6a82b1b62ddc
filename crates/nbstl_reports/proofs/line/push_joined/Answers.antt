use Rattle.std.proofs.Common.{rules, arith, ◌≡◌, ◌∷◌}
use Rattle.site_types.proofs.JoinedTextLemmas.{all_joined}
use Rattle.nbstl_reports.specs.Fields.{StartsWith}
use Rattle.nbstl_reports.proofs.LineLemmas.{starts_before}
use Rattle.nbstl_reports.proofs.line.push_joined.Goals as goal

pub returns-in_err-push_to-2-clause-begun : goal.returns-in_err-push_to-2-clause-begun
returns-in_err-push_to-2-clause-begun g c =
    let begun : StartsWith c.args.out.now.items c.push_to-in-loop-value.new.out.items =
    starts_before _ _ _ _ c.in_ok-push_to.ensures.written (starts_before _ _ _ _ c.loop-value.invariant (starts_before _ _ _ _ c.in_ok-push.ensures.items c.in_err-push_to-2.ensures.begun)) in
    search rules

pub returns-clause-written : goal.returns-clause-written
returns-clause-written g c =
    let list : c.args.values.now ≡ c.in-Some.first.now ∷ c.in-Some.rest.now = search rules in
    all_joined g.T.Written.written c.args.between c.args.out.now.items c.push_to.new.out.items c.loop-value.out.items c.in-Some.first.now c.in-Some.rest.now c.args.values.now c.loop-value.value-index list (search rules) (search rules) (omega arith)
