use Rattle.std.proofs.Common.{◌∙◌, List, sym, ap, subst, rules}
use Rattle.std.specs.Prelude.{Contains}
use Rattle.std.proofs.lemmas.List.{take_all}
use Rattle.site_types.specs.declared.id.BackupId.{BackupId}
use Rattle.vault_disk.specs.Disk.{Image as DiskImage}
use Rattle.vault_disk.proofs.Moments.{same_on}
use Rattle.desk_index.specs.Index.{IsIndexOf}
use Rattle.desk_steps.specs.Asked.{ReadsFail}
use Rattle.desk_steps.proofs.AskedImages.{fails_before, one_fails}
use Rattle.desk_steps.specs.Readings.{IsUndamaged, IsWholeImage, bytes_over}
use Rattle.desk_steps.proofs.ReadImages.{each_more, err_is, item_among, read_more, same_seen, undamaged_read}
use Rattle.desk_steps.proofs.StepCases.{looked_after}
use Rattle.desk_steps.proofs.reading.read_images.Goals as goal

pub returns-in_err-bytes-clause-undamaged : goal.returns-in_err-bytes-clause-undamaged
returns-in_err-bytes-clause-undamaged g c l is there told all =
    let i = c.loop-id.invariant in
    let among = item_among c.args.ids.now c.loop-id.id-index c.id-item.result c.loop-id-test.true c.id-item.is in
    err_is c.from_residual.result c.in_err-bytes.field-0.0 IsUndamaged (search rules)
    (undamaged_read l is.follows.order c.id-item.result (there c.id-item.result among) (g.V.Vault.disk c.args.vault.now) (g.V.Vault.disk c.loop-id.vault) (i.looked told) all c.in_err-bytes.field-0.0
    (λ image copy of. c.in_err-bytes.ensures.fails l image copy (subst (IsIndexOf l) (sym i.index) is) of (i.same.tells told)))

pub loop-id-preserved : goal.loop-id-preserved
loop-id-preserved g c =
    let i = c.loop-id.invariant in
    record {
      index = c.read_image.ensures.index ∙ i.index;
      same = same_on i.same c.read_image.ensures.same;
      looked = λ told. looked_after _ _ _ (i.looked told) (c.read_image.ensures.looked (i.same.tells told)) i.same;
      bytes = λ k is there told.
          c.in_ok-add.ensures
          ∙ read_more (bytes_over (g.V.Vault.disk c.args.vault.now).seen k) c.args.ids.now c.loop-id.id-index c.id-item.result c.loop-id.images.items c.in_ok-bytes.bytes c.loop-id-test.true c.id-item.is (i.bytes k is there told)
          (c.in_ok-bytes.ensures.bytes k (subst (IsIndexOf k) (sym i.index) is) (there c.id-item.result (item_among c.args.ids.now c.loop-id.id-index c.id-item.result c.loop-id-test.true c.id-item.is)) (i.same.tells told)
          ∙ ap (λ (d : DiskImage). bytes_over d k c.id-item.result) (same_seen (g.V.Vault.disk c.args.vault.now) (g.V.Vault.disk c.loop-id.vault) (i.looked told)));
      whole = λ k is told.
          each_more (λ id. IsWholeImage (g.V.Vault.disk c.args.vault.now).seen k id) c.args.ids.now c.loop-id.id-index c.id-item.result c.loop-id-test.true c.id-item.is (i.whole k is told)
          (subst (λ (d : DiskImage). IsWholeImage d k c.id-item.result) (same_seen (g.V.Vault.disk c.args.vault.now) (g.V.Vault.disk c.loop-id.vault) (i.looked told)) (c.in_ok-bytes.ensures.whole k (subst (IsIndexOf k) (sym i.index) is) (i.same.tells told)));
    }

pub returns-clause-whole : goal.returns-clause-whole
returns-clause-whole g c l is told id among =
    c.loop-id.invariant.whole l is told id (subst (λ (ids : List BackupId). Contains ids id) (sym (take_all c.loop-id.id-index c.args.ids.now c.loop-id-test.false)) among)

pub returns-in_err-bytes-clause-fails : goal.returns-in_err-bytes-clause-fails
returns-in_err-bytes-clause-fails g c l is there told =
    let i = c.loop-id.invariant in
    let among = item_among c.args.ids.now c.loop-id.id-index c.id-item.result c.loop-id-test.true c.id-item.is in
    err_is c.from_residual.result c.in_err-bytes.field-0.0 (ReadsFail (g.V.Vault.disk c.args.vault.now).seen l c.args.ids.now) (search rules)
    (fails_before (g.V.Vault.disk c.args.vault.now) (g.V.Vault.disk c.loop-id.vault) (i.looked told) l c.args.ids.now c.in_err-bytes.field-0.0
    (one_fails (g.V.Vault.disk c.loop-id.vault).seen l is.follows.order c.id-item.result (there c.id-item.result among) c.args.ids.now among c.in_err-bytes.field-0.0
    (λ image copy of. c.in_err-bytes.ensures.fails l image copy (subst (IsIndexOf l) (sym i.index) is) of (i.same.tells told))))
