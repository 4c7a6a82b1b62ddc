use Rattle.desk_rules.proofs.Common.{sym, ◌∙◌, ap, refl, class_seen, asked_by}
use Rattle.desk_rules.proofs.DecisionLemmas.{backup_decided, file_decided, restore_at_decided, restore_decided, setting_decided}
use Rattle.desk_rules.proofs.deciding.decide.Goals as goal

pub returns-in-SiteChange : goal.returns-in-SiteChange
returns-in-SiteChange c = record {
  decided = setting_decided c.args.site.now c.args.images.now c.args.request.now _ c.args.payload c.args.moment c.decide_setting.result (ap class_seen (sym c.in-SiteChange.is) ∙ c.by_class.ensures) c.decide_setting.ensures;
}

pub returns-in-SiteFile : goal.returns-in-SiteFile
returns-in-SiteFile c = record {
  decided = λ s bytes state size. file_decided c.args.request.now c.args.payload c.args.moment _ (ap class_seen (sym c.in-SiteFile.is) ∙ c.by_class.ensures) (cc (c.from_vec.ensures, c.new.ensures.items)) refl s bytes size;
}

pub returns-in_ok-asked-in-Backup : goal.returns-in_ok-asked-in-Backup
returns-in_ok-asked-in-Backup c = record {
  decided = backup_decided c.args.site.now c.args.images.now c.args.request.now (asked_by c.in_ok-asked-in-Backup.asked) c.args.payload c.args.moment _ _ _ _ c.decide_backup.result (ap class_seen (sym c.in-Backup.is) ∙ c.by_class.ensures) c.in_ok-asked-in-Backup.ensures c.decide_backup.ensures;
}

pub returns-in-RestoreAt : goal.returns-in-RestoreAt
returns-in-RestoreAt c = record {
  decided = restore_at_decided c.args.site.now c.args.images.now c.args.request.now c.args.payload c.args.moment _ _ _ c.unwrap_or-before.result c.decide_restore_at.result (ap class_seen (sym c.in-RestoreAt.is) ∙ c.by_class.ensures) c.unwrap_or-before.ensures c.decide_restore_at.ensures;
}

pub returns-in-Restore : goal.returns-in-Restore
returns-in-Restore c = record {
  decided = restore_decided c.args.site.now c.args.images.now c.args.request.now c.args.payload c.args.moment _ _ c.decide_restore.result (ap class_seen (sym c.in-Restore.is) ∙ c.by_class.ensures) c.decide_restore.ensures;
}
