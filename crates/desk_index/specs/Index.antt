-- The index of a ledger.
use Rattle.std.specs.Prelude.{◌≡◌, Option, Some, None}
use Rattle.site_types.specs.declared.answer.Answer.{Answer}
use Rattle.site_types.specs.declared.request.Request.{Request}
use Rattle.pool_journal.specs.declared.entry.WholeImage.{WholeImage}
use Rattle.policy_book.specs.Changes.{client_sealed}
use Rattle.image_catalogue.specs.Images.{with_record}
use Rattle.desk_model.specs.State.{entries}
use Rattle.desk_model.specs.Refusals.{first_refusal}
use Rattle.desk_model.specs.Settings.{set_by, setting_refusals}
use Rattle.vault_ledger.specs.Fitting.{whole_entry}
use Rattle.vault_ledger.specs.Ledger.{Ledger, with_outline}
use Rattle.vault_ledger.specs.Storage.{Follows}
use Rattle.desk_index.specs.declared.index.Index.{Index}

-- the site and the records of the images are those of the ledger, and the storage follows it
pub record IsIndexOf (l : Ledger) (index : Index) : Type 0 where
  pub site : index.site ≡ l.outline.site
  pub listed : index.catalogue ≡ entries l.outline.images
  pub follows : Follows l index.storage

-- two indices have the same site and catalogue
pub record SameLists (old new : Index) : Type 0 where
  pub site : new.site ≡ old.site
  pub catalogue : new.catalogue ≡ old.catalogue

-- the image of a record was taken in, whatever the storage has of it
pub record IsAdmitted (w : WholeImage) (old new : Index) : Type 0 where
  pub site : new.site ≡ record (old.site) { book = client_sealed w.id.client w.id.time old.site.book }
  pub catalogue : new.catalogue ≡ with_record (whole_entry old.site.book w) old.catalogue
  pub storage : new.storage ≡ old.storage

-- a request that changes the site was carried out, or refused so
abbrev pub IsSet : Ledger → Request → Index → Index → Option Answer → Type 0
IsSet l request old new None = (first_refusal (setting_refusals request l.outline) ≡ None) × IsIndexOf (with_outline l (set_by request l.outline)) new
IsSet l request old new (Some refusal) = (first_refusal (setting_refusals request l.outline) ≡ Some refusal) × (new ≡ old)
