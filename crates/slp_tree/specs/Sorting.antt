-- Lists in an order.
use Rattle.std.specs.Prelude.{List, [], ◌∷◌, if◌then◌else◌}
use Rattle.std.specs.Ordering.{is_gt}
use Rattle.std.specs.declared.cmp.Ordering.{Ordering}

-- a value is put before the first one that it doesn't come after
abbrev pub put_in_order : {X : Type 0} → (X → X → Ordering) → X → List X → List X
put_in_order order x [] = x ∷ []
put_in_order order x (y ∷ ys) = if is_gt (order x y) then y ∷ put_in_order order x ys else x ∷ y ∷ ys

-- the values in order
abbrev pub in_order : {X : Type 0} → (X → X → Ordering) → List X → List X
in_order order [] = []
in_order order (x ∷ xs) = put_in_order order x (in_order order xs)
