-- The pools of a ledger in order are true exactly where that of each unit of the book is.
use Rattle.desk_model.proofs.Common.{◌≡◌, ◌∙◌, zero, suc, true, List, [], ◌∷◌, sym, refl, ap, subst, arith, ℕ, ◌&&◌, Contains, and_parts, has, unit_name, Stored}
use Rattle.vault_disk.specs.Disk.{Image as DiskImage}
use Rattle.vault_ledger.specs.Ledger.{Ledger, are_true, is_true_unit}
use Rattle.vault_ledger.specs.Wellformed.{IsLedger}
use Rattle.vault_ledger.proofs.LedgerUnits.{set_there, unit_of_set}

module _ (c : DiskImage) (l : Ledger) where
  -- where all pools are true, that of each set is
  true_at : (sets : List Stored) → are_true c l sets ≡ true → (set : Stored) → Contains sets set → is_true_unit c l set.unit ≡ true
  true_at [] all set (k, lt, is) = absurd (omega arith)
  true_at (s ∷ sets) all set (zero, lt, is) = ap (λ (t : Stored). is_true_unit c l t.unit) (sym is) ∙ (and_parts (is_true_unit c l s.unit) (are_true c l sets) all).0
  true_at (s ∷ sets) all set (suc k, lt, is) = true_at sets (and_parts (is_true_unit c l s.unit) (are_true c l sets) all).1 set (k, omega arith, is)

  true_each : (sets : List Stored) → ((set : Stored) → Contains sets set → is_true_unit c l set.unit ≡ true) → are_true c l sets ≡ true
  true_each [] each = refl
  true_each (set ∷ sets) each =
      let first = each set (zero, omega arith, refl) in
      let rest = true_each sets (λ other among. each other (suc among.0, omega (arith, among.1), among.2)) in
      λ i. first i && rest i

  module _ (kept : IsLedger l) where
    pub true_unit : are_true c l l.outline.stored ≡ true → (unit : List ℕ) → has unit_name unit l.outline.site.book.units ≡ true → is_true_unit c l unit ≡ true
    true_unit all unit there =
        let set = set_there l kept unit there in
        subst (λ (u : List ℕ). is_true_unit c l u ≡ true) set.2 (true_at l.outline.stored all set.0 set.1)

    pub true_pools : ((unit : List ℕ) → has unit_name unit l.outline.site.book.units ≡ true → is_true_unit c l unit ≡ true) → are_true c l l.outline.stored ≡ true
    true_pools each = true_each l.outline.stored (λ set among. each set.unit (unit_of_set l kept set among))
