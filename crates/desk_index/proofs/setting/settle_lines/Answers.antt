use Rattle.std.proofs.Common.{arith}
use Rattle.vault_ledger.specs.Ledger.{with_outline}
use Rattle.desk_index.proofs.LineLemmas.{all_settled, next_settled, none_settled, unsettled}
use Rattle.desk_index.proofs.setting.settle_lines.Goals as goal

pub loop-line-init : goal.loop-line-init
loop-line-init c l is = none_settled l c.args.lines.now c.args.index.now is

pub settle_line-requires : goal.settle_line-requires
settle_line-requires c =
    let known = c.requires.known in
    let far = c.loop-line.invariant known.0 known.1 in
    record { known = (with_outline known.0 far.outline, far.reached) }

pub returns-then-not-branch : goal.returns-then-not-branch
returns-then-not-branch c l is =
    let far = c.loop-line.invariant l is in
    unsettled l _ c.args.lines.now c.loop-line.line-index c.line-item.result c.bytes.result.now c.loop-line.index c.settle_line.new.index c.in_ok-settle_line.field-0 far (omega arith) c.line-item.is c.bytes.ensures c.if-not-branch.true
    (c.in_ok-settle_line.ensures (with_outline l far.outline) far.reached)

pub loop-line-preserved : goal.loop-line-preserved
loop-line-preserved c l is =
    let far = c.loop-line.invariant l is in
    next_settled l _ c.args.lines.now c.loop-line.line-index c.line-item.result c.bytes.result.now c.loop-line.index c.settle_line.new.index c.in_ok-settle_line.field-0 far (omega arith) c.line-item.is c.bytes.ensures c.if-not-branch.false
    (c.in_ok-settle_line.ensures (with_outline l far.outline) far.reached)

pub returns : goal.returns
returns c l is = all_settled l _ c.args.lines.now c.loop-line.line-index c.loop-line.index (omega arith) (c.loop-line.invariant l is)
