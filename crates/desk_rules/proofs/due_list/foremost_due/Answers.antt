use Rattle.desk_rules.proofs.Common.{◌≡◌, ◌<◌, ◌∙◌, sym, ap, List, length, map, get_or, Bor, get_or-map, length-map, Schedule, is_due_for}
use Rattle.desk_rules.proofs.ForemostLemmas.{foremost_passed}
use Rattle.desk_rules.proofs.due_list.foremost_due.Goals.{then-branch, else-branch}
use Rattle.desk_rules.proofs.ForemostLemmas as lemmas
use Rattle.desk_rules.proofs.due_list.foremost_due.Goals as goal

pub loop-schedule-preserved : goal.loop-schedule-preserved
loop-schedule-preserved c =
    let P = is_due_for c.args.moment.now.zone.now c.args.moment.now.images c.args.moment.now.time c.args.policy.now c.args.client.now in
    let read = λ (s : Bor Schedule). s.now in
    let all : List (Bor Schedule) = c.args.schedules.now in
    let here : Bor Schedule = c.schedule-item.result in
    let tested : P here.now ≡ c.in_ok-is_due_for.field-0 = sym c.in_ok-is_due_for.ensures in
    let inside : c.loop-schedule.schedule-index < length (map read all) = rw length-map c.loop-schedule-test.true in
    let is : here.now ≡ get_or (map read all) c.loop-schedule.schedule-index here.now =
    ap read c.schedule-item.is ∙ sym (get_or-map read all c.loop-schedule.schedule-index here here.now c.loop-schedule-test.true) in
    elim c.if-branch.branch [
      | then-branch w ↦ rw w.found-is (lemmas.foremost_due P (map read all) c.loop-schedule.schedule-index here.now inside is c.loop-schedule.found w.foremost_of.result (tested ∙ w.if-branch.true) c.loop-schedule.invariant w.foremost_of.ensures)
      | else-branch w ↦ rw w.found-is (foremost_passed P (map read all) c.loop-schedule.schedule-index here.now inside is _ (tested ∙ w.if-branch.false) c.loop-schedule.invariant)
    ]
