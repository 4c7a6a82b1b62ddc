-- What is known where an option has a value.
use Rattle.site_types.proofs.Common.{◌≡◌, Bool, true, false, refl, option_and_then}
use Rattle.std.specs.Prelude.{Some, None, Option, option_map, if◌then◌else◌}

-- a test that guards a value has passed where there is one
pub guarded : {A : Type 0} (b : Bool) (o : Option A) (x : A) → (if b then o else None) ≡ Some x → (b ≡ true) × (o ≡ Some x)
guarded true o x is = (refl, is)
guarded false o x is = absurd (cc is)

pub chained : {A B : Type 0} (f : A → Option B) (o : Option A) (y : B) → option_and_then f o ≡ Some y → (x : A) × (o ≡ Some x) × (f x ≡ Some y)
chained f None y is = absurd (cc is)
chained f (Some x) y is = (x, refl, is)

pub same_value : {A : Type 0} (x y : A) → Some x ≡ Some y → x ≡ y
same_value x y is = cc is

pub mapped : {A B : Type 0} (f : A → B) (o : Option A) (y : B) → option_map f o ≡ Some y → (x : A) × (o ≡ Some x) × (f x ≡ y)
mapped f None y is = absurd (cc is)
mapped f (Some x) y is = (x, refl, same_value (f x) y is)
