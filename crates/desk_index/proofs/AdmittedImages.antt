-- An image that an index takes in.
use Rattle.std.proofs.Common.{◌≡◌, ℕ, List, [], Bool, true, false, Some, None, refl, sym, ◌∙◌, ap, subst}
use Rattle.std.specs.Prelude.{Option, is_some}
use Rattle.std.proofs.lemmas.Bool.{false≢true}
use Rattle.site_types.specs.declared.image.ImageRecord.{ImageRecord}
use Rattle.pool_journal.specs.declared.entry.Entry.TheVariants as entry
use Rattle.pool_journal.specs.declared.entry.WholeImage.{WholeImage}
use Rattle.pool_journal.specs.declared.segments.Segments.{Segments}
use Rattle.policy_book.specs.Book.{Book}
use Rattle.policy_book.specs.Changes.{client_sealed, last_known}
use Rattle.image_catalogue.specs.Images.{record_named, with_record}
use Rattle.desk_model.specs.declared.site.Site.{Site}
use Rattle.desk_model.specs.State.{Image, entries}
use Rattle.desk_model.proofs.ImageLists.{entries-with, has_entry}
use Rattle.vault_ledger.specs.Fitting.{image_fits, whole_entry}
use Rattle.vault_ledger.specs.Ledger.{Ledger, recorded, with_backup}
use Rattle.vault_ledger.specs.Storage.{Follows, IsTaken}
use Rattle.vault_ledger.proofs.FittingImages.{fits_by}
use Rattle.desk_index.specs.Index.{IsAdmitted, IsIndexOf, SameLists}
use Rattle.desk_index.specs.Replays.{IsReached}
use Rattle.desk_index.specs.declared.index.Index.{Index}

none_of : {A : Type 0} (o : Option A) → is_some o ≡ false → o ≡ None
none_of None none = refl
none_of (Some a) none = absurd (false≢true (sym none))

-- an image that fits isn't in the catalogue
pub fresh_in : (l : Ledger) (w : WholeImage) (index : Index) → IsIndexOf l index → image_fits l.outline w ≡ true → record_named w.id index.catalogue ≡ None
fresh_in l w index of fits = none_of (record_named w.id index.catalogue) (ap (λ (records : List ImageRecord). is_some (record_named w.id records)) of.listed ∙ has_entry w.id l.outline.images ∙ (fits_by l.outline w fits).fresh)

-- an index whose storage follows a backup more, and which took its image in, is that of the ledger with it
pub admitted_index : (l : Ledger) (w : WholeImage) (segments : Segments) (old middle new : Index) → IsIndexOf l old → SameLists old middle → IsAdmitted w middle new → Follows (with_backup w segments l) new.storage → IsIndexOf (with_backup w segments l) new
admitted_index l w segments old middle new of same admitted follows = record {
  site = admitted.site ∙ ap (λ (s : Site). record s { book = client_sealed w.id.client w.id.time s.book }) site_is;
  listed = admitted.catalogue ∙ (λ i. with_record (whole_entry (site_is i).book w) (catalogue_is i)) ∙ sym (entries-with image l.outline.images);
  follows = follows;
}
  where
    site_is : middle.site ≡ l.outline.site
    site_is = same.site ∙ of.site

    catalogue_is : middle.catalogue ≡ entries l.outline.images
    catalogue_is = same.catalogue ∙ of.listed

    image : Image
    image = record { entry = whole_entry l.outline.site.book w; bytes = [] }

-- so is one at an opening, whose storage took the record of a backup in
pub backup_taken : (l : Ledger) (w : WholeImage) (segments : Segments) (old middle new : Index) (taken : Bool) → IsIndexOf l old → SameLists old middle → IsTaken l w segments middle.storage taken → taken ≡ true → IsAdmitted w middle new → IsReached (recorded l (entry.BackupSealed w segments)) new true
backup_taken l w segments old middle new taken of same is good admitted =
    let so : IsTaken l w segments middle.storage true = subst (IsTaken l w segments middle.storage) good is in
    (with_backup w segments l, so.0, admitted_index l w segments old middle new of same admitted (subst (Follows (with_backup w segments l)) (sym admitted.storage) so.1))

-- a site whose book noted an image of a client, and then took that back, is the site before
pub site_back : (old before : Site) (after : Book) (name client : List ℕ) (time : ℕ) (last : Option ℕ) → ((book : Book) (noted : ℕ) → old.book ≡ client_sealed name noted book → last ≡ last_known name book → after ≡ book)
    → name ≡ client → old ≡ record before { book = client_sealed client time before.book } → last ≡ last_known client before.book → record old { book = after } ≡ before
site_back old before after name client time last back same was known =
    let sealed : old.book ≡ client_sealed name time before.book = ap (λ (s : Site). s.book) was ∙ ap (λ (n : List ℕ). client_sealed n time before.book) (sym same) in
    let last_is : last ≡ last_known name before.book = known ∙ ap (λ (n : List ℕ). last_known n before.book) (sym same) in
    λ j. record (was j) { book = back before.book time sealed last_is j }
