use Rattle.std.proofs.Common.{◌∙◌, rules, ap, length, get_or, List, arith}
use Rattle.nbstl_reports.specs.Fields.{StartsWith}
use Rattle.nbstl_reports.proofs.LineLemmas.{starts_before, rows_taken}
use Rattle.site_types.specs.declared.image.CopyRecord.{CopyRecord}
use Rattle.nbstl_reports.specs.MediaLines.{fragments_of, unit_named}
use Rattle.nbstl_reports.proofs.media.push_media.Goals as goal

pub returns-in_err-push_copy-clause-begun : goal.returns-in_err-push_copy-clause-begun
returns-in_err-push_copy-clause-begun c =
    let begun : StartsWith c.args.out.now.items c.push_copy.new.out.items = starts_before _ _ _ _ c.loop-copy.invariant c.in_err-push_copy.ensures.begun in
    search rules

pub loop-copy-preserved : goal.loop-copy-preserved
loop-copy-preserved c =
    let same = c.as_slice-copy-items.ensures in
    let here = c.loop-copy.copy-index in
    let within = c.loop-copy-test.true in
    rows_taken c.args.out.now.items c.loop-copy.out.items c.push_copy.new.out.items (λ copy. fragments_of c.args.image.now copy (unit_named copy.unit c.args.units.now)) c.args.image.now.copies here c.copy-item.result
    (omega (arith, within, ap (λ (copies : List CopyRecord). length copies) same))
    (c.copy-item.is ∙ ap (λ (copies : List CopyRecord). get_or copies here c.copy-item.result) same) c.loop-copy.invariant c.in_ok-push_copy.ensures.written
