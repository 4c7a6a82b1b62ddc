use Rattle.std.proofs.Common.{◌≡◌, rules, refl, true}
use Rattle.nbstl_reports.specs.Fields.{StartsWith}
use Rattle.nbstl_reports.proofs.LineLemmas.{starts_before}
use Rattle.std.proofs.iter.runs.Made.{run, to_end}
use Rattle.nbstl_reports.proofs.images.push_images.Goals as goal

pub returns-in_err-push_image-clause-begun : goal.returns-in_err-push_image-clause-begun
returns-in_err-push_image-clause-begun g c =
    let begun : StartsWith c.args.out.now.items c.push_image.new.out.items = starts_before _ _ _ _ c.loop-image.invariant c.in_err-push_image.ensures.begun in
    search rules

-- the run that the loop made
pub returns-clause-written : goal.returns-clause-written
returns-clause-written g c =
    let steps = g.I.Iterator.next_gives in
    let source : c.into_iter-image-iterator.result ≡ c.args.images = search rules in
    (run steps _ c.loop-image.yielded true (to_end steps _ c.loop-image.yielded (_, (_, c.loop-image.yielded_by, c.in-None.ensures.steps))), source, refl, c.loop-image.invariant)
