-- The unit to which the backup of an image goes that fits.
use Rattle.std.proofs.Common.{◌≡◌, ◌<◌, ℕ, List, [], ◌∷◌, length, true, Some, None, sym, ◌∙◌, ap, subst, arith}
use Rattle.std.specs.Prelude.{Option, map, is_some, unwrap_or, option_map, slice_get}
use Rattle.std.proofs.lemmas.Bool.{false≢true}
use Rattle.site_types.specs.declared.lifecycle.Operation.{Operation}
use Rattle.site_types.specs.declared.unit.Unit.{Unit as StorageUnit}
use Rattle.pool_journal.specs.declared.entry.WholeImage.{WholeImage}
use Rattle.slp_tree.specs.Trees.{Version}
use Rattle.slp_tree.specs.Lifecycles.{version_named}
use Rattle.policy_book.specs.Lists.{named, has}
use Rattle.policy_book.specs.Book.{Book, disk0, unit_name}
use Rattle.desk_model.specs.Backups.{operations_in, operations_of, unit_at, unit_of}
use Rattle.desk_model.proofs.RuleLemmas.{AreSealed, are_sealed, rules_hold}
use Rattle.vault_ledger.specs.Fitting.{image_fits}
use Rattle.vault_ledger.specs.Ledger.{Ledger}
use Rattle.vault_ledger.specs.Wellformed.{IsLedger}
use Rattle.vault_ledger.proofs.FittingImages.{fits_by}
use Rattle.desk_index.proofs.ImageLemmas.{unit_found}

none_there : {A : Type 0} (o : Option A) → is_some o ≡ true → o ≡ None → ⊥
none_there o there none = false≢true (sym (ap is_some none) ∙ there)

-- a list of operations that has a unit isn't empty
some_there : (os : List Operation) (unit : List ℕ) → option_map (λ (o : Operation). o.unit) (slice_get os 0) ≡ Some unit → 0 < length os
some_there [] unit is = absurd (cc is)
some_there (o ∷ os) unit is = omega arith

module _ (l : Ledger) (order : IsLedger l) (w : WholeImage) (book : Book) (book_is : l.outline.site.book ≡ book) (fits : image_fits l.outline w ≡ true) where
  abbrev operations : List Operation
  operations = operations_in w.lifecycle w.version book

  -- its version keeps the rules
  kept : AreSealed book.units operations
  kept = subst (λ (b : Book). AreSealed b.units (operations_in w.lifecycle w.version b)) book_is (are_sealed l.outline.site.book.units (operations_in w.lifecycle w.version l.outline.site.book) (rules_hold l.outline.site.book order.shape.sound.site.lifecycles w.lifecycle w.version (fits_by l.outline w fits).version))

  module _ (version : Version) (version_is : version_named w.lifecycle w.version book.lifecycles ≡ Some version) where
    operations_are : operations ≡ version.operations
    operations_are = ap operations_of version_is

    pub operation_there : 0 < length version.operations
    operation_there = subst (λ (os : List Operation). 0 < length os) operations_are (some_there operations _ kept.unit)

    module _ (name : List ℕ) (name_is : slice_get (map (λ (o : Operation). o.unit) version.operations) 0 ≡ Some name) where
      unit_is : unit_of operations ≡ name
      unit_is = ap unit_of operations_are ∙ unit_found version.operations name name_is

      pub unit_there : named unit_name name book.units ≡ None → ⊥
      unit_there none = none_there _ (ap (λ (n : List ℕ). has unit_name n book.units) (sym unit_is) ∙ kept.there) none

      pub unit_so : (unit : StorageUnit) → named unit_name name book.units ≡ Some unit → unit ≡ unit_at (unit_of operations) book
      unit_so unit is = sym (ap (λ (n : List ℕ). unit_at n book) unit_is ∙ ap (λ (o : Option StorageUnit). unwrap_or o disk0) is)
