use Rattle.std.proofs.Common.{rules}
use Rattle.nbstl_reports.specs.Fields.{StartsWith}
use Rattle.nbstl_reports.proofs.LineLemmas.{starts_before, line_counted}
use Rattle.nbstl_reports.specs.MediaLines.{fragment_fields}
use Rattle.nbstl_reports.proofs.media.push_fragments.Goals as goal

pub returns-in_err-push_fragment-clause-begun : goal.returns-in_err-push_fragment-clause-begun
returns-in_err-push_fragment-clause-begun c =
    let begun : StartsWith c.args.out.now.items c.push_fragment.new.out.items = starts_before _ _ _ _ c.loop-before.invariant c.in_err-push_fragment.ensures.begun in
    search rules

pub loop-before-preserved : goal.loop-before-preserved
loop-before-preserved c =
    line_counted c.args.out.now.items c.loop-before.out.items c.push_fragment.new.out.items (fragment_fields c.args.image.now c.args.copy.now c.args.size) c.loop-before.before c.loop-before.invariant c.in_ok-push_fragment.ensures.written
