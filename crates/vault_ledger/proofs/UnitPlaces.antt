-- No change of the site moves a pool.
use Rattle.desk_model.proofs.Common.{◌≡◌, ◌∙◌, ℕ, Bool, true, false, List, length, refl, sym, ap, Option, Some, None, unwrap_or, if◌then◌else◌, bytes_eq, false≢true, Request, StorageUnit, named, has, Book, unit_name, disk0, unit_at, unit_of, unit_with, text_is, named-put, State, first_refusal, setting_refusals}
use Rattle.site_types.specs.declared.request.Request.TheVariants as request
use Rattle.policy_book.specs.declared.units.UnitChange.{UnitChange}
use Rattle.policy_book.specs.Requests.{book_after}
use Rattle.desk_model.proofs.NamedLemmas.{has-put, has-changed, named-changed, some_named}
use Rattle.desk_model.proofs.Passing.{all_passed}

-- where a unit's pool is, the size of its segments, and how many a fragment has
abbrev pub place : StorageUnit → ℕ × ℕ × ℕ
place u = (u.number, u.segment, u.fragment)

-- units that were there still are, and have their pools where they were
abbrev pub PlacesStay : Book → Book → Type 0
PlacesStay old new = (name : List ℕ) → has unit_name name old.units ≡ true → (has unit_name name new.units ≡ true) × (place (unit_at name new) ≡ place (unit_at name old))

-- no change of the site moves a pool
pub places_stay : (r : Request) (s : State) → first_refusal (setting_refusals r s) ≡ None → PlacesStay s.site.book (book_after r s.site.book)
places_stay (request.UnitAdd name capacity segment fragment slots high low) s none other there =
    (has-put unit_name new other s.site.book.units there, ap (λ (o : Option StorageUnit). place (unwrap_or o disk0)) (named-put unit_name new other s.site.book.units) ∙ at (bytes_eq name other) refl)
  where
    new : StorageUnit
    new = unit_of name (length s.site.book.units) (record { capacity = capacity; segment = segment; fragment = fragment; slots = slots; high = high; low = low })

    fresh : has unit_name name s.site.book.units ≡ false
    fresh = (all_passed (setting_refusals (request.UnitAdd name capacity segment fragment slots high low) s) none).1.0

    at : (b : Bool) → bytes_eq name other ≡ b → place (unwrap_or (if b then Some new else named unit_name other s.site.book.units) disk0) ≡ place (unit_at other s.site.book)
    at true same = absurd (false≢true (sym fresh ∙ ap (λ (n : List ℕ). has unit_name n s.site.book.units) (text_is name other same) ∙ there))
    at false differs = refl
places_stay (request.UnitChange name capacity slots high low) s none other there =
    let one = some_named unit_name other s.site.book.units there in (
      has-changed unit_name name (unit_with change) (λ u. refl) other s.site.book.units ∙ there,
      ap (λ (o : Option StorageUnit). place (unwrap_or o disk0)) (named-changed unit_name name (unit_with change) (λ u. refl) other s.site.book.units one.0 one.1)
          ∙ at (bytes_eq one.0.name name) one.0
          ∙ ap (λ (o : Option StorageUnit). place (unwrap_or o disk0)) (sym one.1),
    )
  where
    change : UnitChange
    change = record { capacity = capacity; slots = slots; high = high; low = low }

    at : (b : Bool) (u : StorageUnit) → place (if b then unit_with change u else u) ≡ place u
    at true u = refl
    at false u = refl
places_stay r s none other there = (there, refl)
