use Rattle.nbstl_reports.specs.ImageLines.{image_lines, listed}
use Rattle.nbstl_reports.proofs.LineLemmas.{whole_run}
use Rattle.nbstl_reports.proofs.images.image_lines.Goals as goal

pub returns-clause-written : goal.returns-clause-written
returns-clause-written g c =
    whole_run _ _ (λ items. image_lines (listed items)) c.args.out.now.items c.push_images-written.new.out.items c.whole_or_none.new.out.items c.push_images-written.result c.whole_or_none.result c.whole_or_none.ensures.same c.whole_or_none.ensures.whole c.push_images-written.ensures.written
