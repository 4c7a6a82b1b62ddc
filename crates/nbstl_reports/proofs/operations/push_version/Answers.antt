use Rattle.std.proofs.Common.{ℕ, sym, take, ◌∙◌, ◌++◌, rules, ap, List, map}
use Rattle.nbstl_reports.specs.Fields.{StartsWith}
use Rattle.nbstl_reports.proofs.LineLemmas.{line_more, paired, paired_more, starts_before}
use Rattle.site_types.specs.declared.lifecycle.Operation.{Operation}
use Rattle.site_types.specs.declared.lifecycle.OpState.{OpState}
use Rattle.nbstl_reports.specs.Lines.{lines}
use Rattle.nbstl_reports.specs.OperationLines.{operation_fields}
use Rattle.nbstl_reports.proofs.operations.push_version.Goals as goal

pub returns-in_err-push_operation-clause-begun : goal.returns-in_err-push_operation-clause-begun
returns-in_err-push_operation-clause-begun c =
    let begun : StartsWith c.args.out.now.items c.push_operation.new.out.items = starts_before _ _ _ _ c.loop-op.invariant c.in_err-push_operation.ensures.begun in
    search rules

-- one pair of a state and an operation more
pub loop-op-preserved : goal.loop-op-preserved
loop-op-preserved c =
    let old = c.args.out.now.items in
    let states = c.args.image.now.states in
    let operations = c.args.version.now.operations in
    let op = c.loop-op.op in
    let more = paired_more op states operations c.in-Some.state c.in-Some-operation.operation.now (sym c.in-Some.ensures) (sym c.in-Some-operation.ensures) in
    line_more old c.loop-op.out.items c.push_operation.new.out.items (operation_fields c.args.image.now) (take op (paired 0 states operations)) (op, (c.in-Some.state, c.in-Some-operation.operation.now)) c.loop-op.invariant c.in_ok-push_operation.ensures.written
    ∙ ap (λ (entries : List (ℕ × (OpState × Operation))). old ++ lines (map (operation_fields c.args.image.now) entries)) (sym more)
