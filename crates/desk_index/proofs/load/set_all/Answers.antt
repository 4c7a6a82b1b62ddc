use Rattle.std.proofs.Common.{◌∙◌, inl, inr, refl, subst, sym}
use Rattle.desk_model.specs.Settings.{all_set}
use Rattle.desk_index.specs.Answers.{IsStepRefusal}
use Rattle.desk_index.specs.Changes.{AreRefused, AreSet}
use Rattle.desk_index.proofs.Loading.{each_plain, few_set}
use Rattle.desk_index.proofs.SettingLines.{writable}
use Rattle.desk_index.proofs.load.set_all.Goals as goal
use Rattle.desk_index.proofs.load.set_all.Goals.{in-Ok-None+in-Err-stage_requests, in-Ok-Some, in-Err}

pub stage_requests-requires : goal.stage_requests-requires
stage_requests-requires c =
    let l = c.requires.known.0 in
    writable c.args.requests.now c.requires.formed (few_set c.args.requests.now l c.set_each.new.index c.requires.file (
    subst (AreSet l (all_set c.args.requests.now l.outline) c.set_each.new.index) c.in-Ok-None.field-0-is (c.in-Ok-None.ensures.set l c.requires.known.1)))

pub returns-in-Ok-stage_requests-clause-set : goal.returns-in-Ok-stage_requests-clause-set
returns-in-Ok-stage_requests-clause-set c l known = subst (AreSet l (all_set c.args.requests.now l.outline) c.set_each.new.index) c.in-Ok-None.field-0-is (c.in-Ok-None.ensures.set l known)

pub put_back-requires : goal.put_back-requires
put_back-requires c =
    let known = c.requires.known in
    record { there = (known.0, known.1.follows.order, sym (c.in-Ok.ensures ∙ known.1.site), c.set_each.ensures.back known.0 known.1) }

pub returns-clause-refused : goal.returns-clause-refused
returns-clause-refused c l known = elim c.match-set_each.branch [
  | in-Ok-None+in-Err-stage_requests w ↦ subst (AreRefused (all_set c.args.requests.now l.outline)) (sym w.refusal-is) (inl refl)
  | in-Ok-Some w ↦ subst (AreRefused (all_set c.args.requests.now l.outline)) (sym w.refusal-is) (inr (
      subst (AreSet l (all_set c.args.requests.now l.outline) c.set_each.new.index) w.in-Ok-Some.field-0-is (w.in-Ok-Some.ensures.set l known)))
  | in-Err w ↦ subst (AreRefused (all_set c.args.requests.now l.outline)) (sym w.refusal-is) (inl refl)
]

pub returns-clause-plain : goal.returns-clause-plain
returns-clause-plain c = elim c.match-set_each.branch [
  | in-Ok-None+in-Err-stage_requests w ↦ subst IsStepRefusal (sym w.refusal-is) (tt, tt)
  | in-Ok-Some w ↦
      let l = c.requires.known.0 in
      subst IsStepRefusal (sym w.refusal-is) (each_plain c.args.requests.now l.outline w.in-Ok-Some.refusal (
      subst (AreSet l (all_set c.args.requests.now l.outline) c.set_each.new.index) w.in-Ok-Some.field-0-is (w.in-Ok-Some.ensures.set l c.requires.known.1)))
  | in-Err w ↦ subst IsStepRefusal (sym w.refusal-is) (tt, tt)
]

pub returns-clause-kept : goal.returns-clause-kept
returns-clause-kept c l known = c.put_back.ensures.back l c.args.index.now known c.in-Ok.ensures c.set_each.ensures.catalogue c.set_each.ensures.copies (c.set_each.ensures.back l known)

pub returns-clause-unchanged : goal.returns-clause-unchanged
returns-clause-unchanged c = record { site = c.put_back.ensures.site ∙ c.in-Ok.ensures; catalogue = c.put_back.ensures.catalogue ∙ c.set_each.ensures.catalogue }
