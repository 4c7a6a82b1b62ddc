use Rattle.image_kinds.proofs.Common.{err_from_is_err_and}
use Rattle.image_kinds.proofs.Fronts.{has_more, falls, item_fault}
use Rattle.image_kinds.proofs.decode.read_items.Goals as goal

pub returns-in_err-item-clause-fault : goal.returns-in_err-item-clause-fault
returns-in_err-item-clause-fault c =
    let p = err_from_is_err_and c.from_residual-in_err-item.result c.from_residual-in_err-item.ensures.1 in
    let read = rw (c.last_path.ensures, c.deref.ensures.value) at c.in_err-item.ensures in
    rw (p.1, p.2) (item_fault c.args.format c.args.bytes.now c.loop-items.items.items c.loop-items.cursor c.in_err-item.field-0.0 c.item.new.self c.loop-items.invariant read)

pub loop-items-smaller : goal.loop-items-smaller
loop-items-smaller c = falls c.args.format c.last_path.result.now c.loop-items.cursor c.in-Some.item c.item.new.self c.loop-items.invariant.rest_fits (rw c.in-Some.is at c.in_ok-item.ensures)

pub loop-items-preserved : goal.loop-items-preserved
loop-items-preserved c =
    let read = rw (c.last_path.ensures, c.deref.ensures.value, c.in-Some.is) at c.in_ok-item.ensures in
    rw c.in_ok-push.ensures.items (has_more c.args.format c.args.bytes.now c.loop-items.items.items c.loop-items.cursor c.in-Some.item c.item.new.self c.loop-items.invariant read)
