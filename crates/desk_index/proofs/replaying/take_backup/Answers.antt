use Rattle.std.proofs.Common.{◌∙◌, ap, refl, sym}
use Rattle.desk_model.specs.declared.site.Site.{Site}
use Rattle.desk_model.specs.Backups.{operations_in, unit_at, unit_of}
use Rattle.desk_index.proofs.AdmittedImages.{backup_taken, fresh_in}
use Rattle.desk_index.proofs.replaying.take_backup.Goals as goal

pub admit_image-requires-clause-new : goal.admit_image-requires-clause-new
admit_image-requires-clause-new c =
    let known = c.requires.known in
    fresh_in known.0 c.args.image.now c.args.index.now known.1 (sym (c.image_fits.ensures known.0 known.1) ∙ c.if-not-image_fits.false)

pub returns : goal.returns
returns c l of =
    let fits = sym (c.image_fits.ensures l of) ∙ c.if-not-image_fits.false in
    let unit_is = c.unit_for-unit.ensures ∙ ap (λ (s : Site). unit_at (unit_of (operations_in c.args.image.now.lifecycle c.args.image.now.version s.book)) s.book) of.site in
    backup_taken l c.args.image.now c.args.segments.now c.args.index.now (record (c.args.index.now) { storage = c.take_backup.new.self }) c.admit_image.new.index c.in_ok-take_backup.field-0 of (record { site = refl; catalogue = refl })
    (c.in_ok-take_backup.ensures.taken l of.follows (record { fits = fits; unit_is = unit_is }))
    c.if-not-branch.false c.in_ok-admit_image.ensures.admitted
