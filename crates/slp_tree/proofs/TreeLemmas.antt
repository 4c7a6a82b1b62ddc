-- Valid trees.
use Rattle.slp_tree.proofs.Common.{◌≡◌, ℕ, List, [], ◌∷◌, ◌++◌, map, append_assoc, Bool, true, false, not, Option, None, refl, sym, ap, subst, find, is_none, list_any, bytes_eq, bytes_eq-Decides, is_without_operations, begins_with_duplication, has_late_source, has_childless_after_copy, has_over_ten_operations, has_unknown_unit, has_later_backup, broken_rule, is_tree, option_map}
use Rattle.std.proofs.lemmas.Bool.{or_from, or_left, or_right}
use Rattle.site_types.specs.declared.lifecycle.Operation.{Operation}

-- the units that the operations name themselves are known
is_named : List ℕ → List Operation → Bool
is_named unit operations = list_any (λ known. bytes_eq known unit) (map (λ o. o.unit) operations)

own_unit : (before after : List Operation) (o : Operation) → is_named o.unit (before ++ o ∷ after) ≡ true
unfolding is_named
own_unit [] after o = or_left (bytes_eq o.unit o.unit) _ ((bytes_eq-Decides o.unit o.unit).1 refl)
own_unit (p ∷ before) after o = or_right (bytes_eq p.unit o.unit) _ (own_unit before after o)

own_units_from : (before operations : List Operation) → list_any (λ o. not (is_named o.unit (before ++ operations))) operations ≡ false
own_units_from before [] = refl
own_units_from before (o ∷ operations) =
    or_from (not (is_named o.unit (before ++ o ∷ operations))) _
    (ap not (own_unit before operations o))
    (subst (λ (all : List Operation). list_any (λ p. not (is_named p.unit all)) operations ≡ false) (append_assoc before (o ∷ []) operations) (own_units_from (before ++ o ∷ []) operations))

own_units : (operations : List Operation) → has_unknown_unit (map (λ o. o.unit) operations) operations ≡ false
unfolding is_named
own_units operations = own_units_from [] operations

answer : (one two three four five six seven : Bool) → Option ℕ
answer one two three four five six seven = option_map (λ (rule : ℕ × Bool). rule.0) (find (λ (rule : ℕ × Bool). rule.1) ((1, one) ∷ (2, two) ∷ (3, three) ∷ (4, four) ∷ (5, five) ∷ (6, six) ∷ (7, seven) ∷ []))

unbroken : (one two three four five six seven : Bool) → answer one two three four five six seven ≡ None → is_none (answer one two three four five false seven) ≡ true
unfolding answer
unbroken true two three four five six seven none = absurd (cc)
unbroken false true three four five six seven none = absurd (cc)
unbroken false false true four five six seven none = absurd (cc)
unbroken false false false true five six seven none = absurd (cc)
unbroken false false false false true six seven none = absurd (cc)
unbroken false false false false false true seven none = absurd (cc)
unbroken false false false false false false true none = absurd (cc)
unbroken false false false false false false false none = refl

-- a list that breaks no rule on some units is a tree
pub tree_of : (units : List (List ℕ)) (operations : List Operation) → broken_rule units operations ≡ None → is_tree operations ≡ true
unfolding answer
tree_of units operations none =
    subst (λ (six : Bool). is_none (answer (is_without_operations operations) (begins_with_duplication operations) (has_late_source operations) (has_childless_after_copy operations) (has_over_ten_operations operations) six (has_later_backup operations)) ≡ true)
    (sym (own_units operations))
    (unbroken (is_without_operations operations) (begins_with_duplication operations) (has_late_source operations) (has_childless_after_copy operations) (has_over_ten_operations operations) (has_unknown_unit units operations) (has_later_backup operations) none)
