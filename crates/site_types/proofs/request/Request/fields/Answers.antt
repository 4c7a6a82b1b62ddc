use Rattle.site_types.proofs.Common.{arith, inl, inr}
use Rattle.site_types.proofs.LineLemmas.{appends}
use Rattle.site_types.proofs.request.Request.fields.Goals as goal

pub returns-in_ok-number_if-in-UnitChange : goal.returns-in_ok-number_if-in-UnitChange
returns-in_ok-number_if-in-UnitChange c = rw c.in-UnitChange.is (grind (arith, appends))

pub returns-in_ok-name-in-ScheduleRemove : goal.returns-in_ok-name-in-ScheduleRemove
returns-in_ok-name-in-ScheduleRemove c = rw c.in-ScheduleRemove.is (grind (arith, appends))

pub returns-in_ok-name_if-in-Backup-2 : goal.returns-in_ok-name_if-in-Backup-2
returns-in_ok-name_if-in-Backup-2 c = rw c.in-Backup.is (grind (arith, appends))

pub returns-in_ok-word_if-in-PolicyChange : goal.returns-in_ok-word_if-in-PolicyChange
returns-in_ok-word_if-in-PolicyChange c = rw c.in-PolicyChange.is (grind (arith, appends))

pub returns-in_ok-name-in-PolicyClientAdd : goal.returns-in_ok-name-in-PolicyClientAdd
returns-in_ok-name-in-PolicyClientAdd c = elim c.in-PolicyClientAdd.is [ inl add ↦ rw add (grind (arith, appends)) | inr remove ↦ rw remove (grind (arith, appends)) ]

pub returns-in_ok-name-in-RestoreAt-2 : goal.returns-in_ok-name-in-RestoreAt-2
returns-in_ok-name-in-RestoreAt-2 c = rw c.in-RestoreAt.is (grind (arith, appends))
