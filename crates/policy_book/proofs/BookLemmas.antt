-- Books with another list.
use Rattle.policy_book.proofs.Common.{◌≡◌, ◌∙◌, ℕ, List, get_or, set, ap, sym, refl, AreByName, Book, Policy, policy_name, with_policy, changed_in_place, stands_as}
use Rattle.policy_book.specs.declared.book.Book.TheInside.{Inside}
use Rattle.slp_tree.specs.Places.{StandsAt}

-- what contracts see of these fields
abbrev pub seen : Inside → Book
seen b = record { units = b.units.items; clients = b.clients.items; lifecycles = b.lifecycles; policies = b.policies.items }

-- a policy that was changed in its place
pub policy_in_place : (b : Inside) (now : Book) (name : List ℕ) (change : Policy → Policy) (i : ℕ) (x new : Policy) → seen b ≡ now → AreByName policy_name b.policies.items → StandsAt policy_name now.policies name i → x ≡ get_or b.policies.items i x → new ≡ change x → record (seen b) { policies = set b.policies.items i new } ≡ with_policy name change now
policy_in_place b now name change i x new is rising at found made =
    ap (λ (policies : List Policy). record (seen b) { policies = policies })
    (changed_in_place policy_name b.policies.items name change i x new rising
    (stands_as policy_name b.policies.items now.policies name name i (ap (λ (c : Book). c.policies) (sym is)) refl at) found made)
    ∙ ap (with_policy name change) is
