-- What a request that changes the site makes of the index.
use Rattle.std.proofs.Common.{◌≡◌, ◌∙◌, None, sym, ap, subst}
use Rattle.std.specs.Prelude.{Result, Ok, Err, OnOk, OnErr}
use Rattle.site_types.specs.Lines.{IsFormed}
use Rattle.site_types.specs.declared.request.Request.{Request}
use Rattle.policy_book.specs.Book.{Book}
use Rattle.desk_model.specs.declared.site.Site.{Site}
use Rattle.desk_model.specs.Refusals.{first_refusal}
use Rattle.desk_model.specs.Settings.{setting_refusals, set_by, site_after}
use Rattle.desk_model.proofs.Asking.{formed_asks}
use Rattle.desk_rules.specs.declared.decision.SiteChange.{SiteChange}
use Rattle.desk_rules.specs.SiteChanges.{IsSiteChange, site_made}
use Rattle.vault_ledger.specs.Ledger.{Ledger, with_outline}
use Rattle.vault_ledger.specs.Storage.{ArePools, Follows, HavePools, StorageState}
use Rattle.vault_ledger.specs.Wellformed.{IsLedger}
use Rattle.vault_ledger.proofs.FollowedSettings.{set_followed}
use Rattle.vault_ledger.proofs.KeptSettings.{set_kept}
use Rattle.desk_index.specs.Index.{IsIndexOf}
use Rattle.desk_index.specs.declared.index.Index.{Index}

-- There is a ledger with this book and these pools.
abbrev pub HasLedger : Book → StorageState → Type 0
HasLedger book storage = (l : Ledger) × IsLedger l × (l.outline.site.book ≡ book) × HavePools l storage.pools

-- these pools, with the copies of a storage, which are the same
with_pools : (l : Ledger) (storage new : StorageState) → new.copies ≡ storage.copies → Follows l (record { pools = new.pools; copies = storage.copies }) → Follows l new
with_pools l storage new same follows = subst (Follows l) (λ i. record { pools = new.pools; copies = sym same i }) follows

-- the pools were made those of any ledger with this book whose units had theirs
abbrev pub FitsLedgers : Book → StorageState → StorageState → Type 0
FitsLedgers book mid fitted = (l : Ledger) → IsLedger l → l.outline.site.book ≡ book → HavePools l mid.pools → ArePools l fitted.pools

module _ (l : Ledger) (old : Index) (is : IsIndexOf l old) where
  pub book_is : old.site.book ≡ l.outline.site.book
  book_is = ap (λ (site : Site). site.book) is.site

  book_before : (site : Site) → site ≡ old.site → l.outline.site.book ≡ site.book
  book_before site same = sym (ap (λ (site : Site). site.book) same ∙ book_is)

  module _ (r : Request) (change : SiteChange) (formed : IsFormed r) (none : first_refusal (setting_refusals r l.outline) ≡ None) (of : IsSiteChange old.site r change) where
    abbrev after : Ledger
    after = with_outline l (set_by r l.outline)

    site_so : (site : Site) → site ≡ site_made change old.site → site ≡ after.outline.site
    site_so site made = made ∙ of.made ∙ ap (site_after r) is.site

    book_after : (site : Site) → site ≡ site_made change old.site → after.outline.site.book ≡ site.book
    book_after site made = sym (ap (λ (site : Site). site.book) (site_so site made))

    order_after : IsLedger after
    order_after = set_kept l is.follows.order r (formed_asks r formed) none

    -- whether there was memory for it or not
    pub ledger_there : {T E : Type 0} (site : Site) (mid : StorageState) (result : Result T E) → OnOk result (site ≡ site_made change old.site) → OnErr result (site ≡ old.site) → HavePools after mid.pools → HavePools l mid.pools → HasLedger site.book mid
    ledger_there site mid (Ok done) made same more have = (after, order_after, book_after site made, more)
    ledger_there site mid (Err fault) made same more have = (l, is.follows.order, book_before site same, have)

    pub set_so : (new : Index) (mid : StorageState) → new.site ≡ site_made change old.site → new.catalogue ≡ old.catalogue → HavePools after mid.pools → FitsLedgers new.site.book mid new.storage → new.storage.copies ≡ old.storage.copies → IsIndexOf after new
    set_so new mid made catalogue_is have fits copies_are = record {
      site = site_so new.site made;
      listed = catalogue_is ∙ is.listed;
      follows = with_pools after old.storage new.storage copies_are (set_followed l old.storage new.storage.pools r is.follows (formed_asks r formed) none (fits after order_after (book_after new.site made) have));
    }
