use Rattle.std.proofs.Common.{◌∙◌, subst, sym}
use Rattle.desk_index.specs.Index.{IsIndexOf, IsSet}
use Rattle.desk_index.proofs.Changing.{ready_here, refused_here, setting_plain}
use Rattle.desk_index.proofs.change.prepare_change.Goals as goal

pub returns-in-Ok-None-clause-ready : goal.returns-in-Ok-None-clause-ready
returns-in-Ok-None-clause-ready c l payload moment known =
    let set = subst (IsSet l c.args.request.now c.args.index.now c.set.new.self) c.in-Ok-None.field-0-is (c.in-Ok-None.ensures.set l known) in
    ready_here l c.args.request.now payload moment c.requires.setting known.follows.order c.requires.formed set.0 c.in-Ok.staged c.from_vec.result c.set.new.self c.in-Ok.ensures (c.from_vec.ensures ∙ c.new.ensures.items) set.1

pub returns-in-Ok-Some-clause-refused : goal.returns-in-Ok-Some-clause-refused
returns-in-Ok-Some-clause-refused c l payload moment known =
    refused_here l c.args.request.now payload moment c.requires.setting c.in-Ok-Some.refusal (subst (IsSet l c.args.request.now c.args.index.now c.set.new.self) c.in-Ok-Some.field-0-is (c.in-Ok-Some.ensures.set l known)).0

pub returns-in-Ok-Some-clause-plain : goal.returns-in-Ok-Some-clause-plain
returns-in-Ok-Some-clause-plain c =
    let l = c.requires.known.0 in
    setting_plain c.args.request.now l.outline c.in-Ok-Some.refusal (subst (IsSet l c.args.request.now c.args.index.now c.set.new.self) c.in-Ok-Some.field-0-is (c.in-Ok-Some.ensures.set l c.requires.known.1)).0

pub returns-in-Ok-Some-clause-kept : goal.returns-in-Ok-Some-clause-kept
returns-in-Ok-Some-clause-kept c l known =
    let set = subst (IsSet l c.args.request.now c.args.index.now c.set.new.self) c.in-Ok-Some.field-0-is (c.in-Ok-Some.ensures.set l known) in
    subst (IsIndexOf l) (sym set.1) known

pub returns-in-Ok-Some-clause-unchanged : goal.returns-in-Ok-Some-clause-unchanged
returns-in-Ok-Some-clause-unchanged c =
    let l = c.requires.known.0 in
    let set = subst (IsSet l c.args.request.now c.args.index.now c.set.new.self) c.in-Ok-Some.field-0-is (c.in-Ok-Some.ensures.set l c.requires.known.1) in
    record { site = λ i. (set.1 i).site; catalogue = λ i. (set.1 i).catalogue }
