-- The rules of operations, and the states of an image that is sealed under them.
use Rattle.desk_model.proofs.Common.{◌≡◌, ◌≢◌, ◌≤◌, ◌-◌, ◌∙◌, ℕ, zero, suc, Bool, true, false, List, [], ◌∷◌, length, refl, sym, ap, arith, Option, Some, None, if◌then◌else◌, cond, is_some, unwrap_or, not, ◌||◌, ◌==◌, map, find, option_map, slice_get, Contains, AllByRecursion, list_any, bytes_eq, false≢true, not-false, not_from_true, or_parts, or_from, nat_tests, length-map, StorageUnit, Operation, named, has, Book, unit_name, has_lifecycle, operations_of, operations_in, latest_version, states_of, IsSoundLifecycle, has_version, HasSource}
use Rattle.std.proofs.lemmas.Option.{slice_get_within, get_or_from_slice_get}
use Rattle.site_types.specs.declared.lifecycle.OpState.{OpState}
use Rattle.site_types.specs.declared.lifecycle.OpState.TheVariants.{Waiting, Cancelled}
use Rattle.slp_tree.specs.Trees.{Version, broken_rule, broken_rules, has_unknown_unit, waits, completed, children, needed}
use Rattle.slp_tree.specs.Lifecycles.{Lifecycle, lifecycle_named, version_in}
use Rattle.desk_model.specs.Backups.{unit_of}
use Rattle.desk_model.proofs.NamedLemmas.{found_named}

pub get_contains : {A : Type 0} (xs : List A) (k : ℕ) (x : A) → slice_get xs k ≡ Some x → Contains xs x
get_contains xs k x is = (k, slice_get_within xs k x is, get_or_from_slice_get xs k x x is)

-- no rule of a list is broken
none_breaks : (rules : List (ℕ × Bool)) → option_map (λ (r : ℕ × Bool). r.0) (find (λ (r : ℕ × Bool). r.1) rules) ≡ None → AllByRecursion (λ (r : ℕ × Bool). r.1 ≡ false) rules
none_breaks [] none = tt
none_breaks ((n, b) ∷ rules) none = at b (none_breaks rules) none
  where
    at : (b : Bool) → (option_map (λ (r : ℕ × Bool). r.0) (find (λ (r : ℕ × Bool). r.1) rules) ≡ None → AllByRecursion (λ (r : ℕ × Bool). r.1 ≡ false) rules)
        → option_map (λ (r : ℕ × Bool). r.0) (cond b (Some (n, b)) (find (λ (r : ℕ × Bool). r.1) rules)) ≡ None → (b ≡ false) × AllByRecursion (λ (r : ℕ × Bool). r.1 ≡ false) rules
    at true later is = absurd (cc is)
    at false later is = (refl, later is)

none_broken : (rules : List (ℕ × Bool)) → AllByRecursion (λ (r : ℕ × Bool). r.1 ≡ false) rules → option_map (λ (r : ℕ × Bool). r.0) (find (λ (r : ℕ × Bool). r.1) rules) ≡ None
none_broken [] all = refl
none_broken ((n, b) ∷ rules) all = (λ i. option_map (λ (r : ℕ × Bool). r.0) (cond (all.0 i) (Some (n, b)) (find (λ (r : ℕ × Bool). r.1) rules))) ∙ none_broken rules all.1

-- a name is among those of units exactly where its unit is there
among_names : (name : List ℕ) (units : List StorageUnit) → list_any (λ (unit : List ℕ). bytes_eq unit name) (map unit_name units) ≡ has unit_name name units
among_names name [] = refl
among_names name (u ∷ units) = at (bytes_eq u.name name) (among_names name units)
  where
    at : (b : Bool) → list_any (λ (unit : List ℕ). bytes_eq unit name) (map unit_name units) ≡ has unit_name name units → (b || list_any (λ (unit : List ℕ). bytes_eq unit name) (map unit_name units)) ≡ is_some (if b then Some u else named unit_name name units)
    at true rest = refl
    at false rest = rest

module _ (units : List StorageUnit) where
  abbrev names : List (List ℕ)
  names = map unit_name units

  -- the units that operations name are there
  pub unit_there : (os : List Operation) → has_unknown_unit names os ≡ false → (k : ℕ) (o : Operation) → slice_get os k ≡ Some o → has unit_name o.unit units ≡ true
  unit_there [] known k o is = absurd (cc is)
  unit_there (p ∷ os) known zero o is =
      let parts = or_parts (not (list_any (λ unit. bytes_eq unit p.unit) names)) (has_unknown_unit names os) known in
      let p_is : p ≡ o = cc is in
      sym (among_names o.unit units) ∙ ap (λ (q : Operation). list_any (λ unit. bytes_eq unit q.unit) names) (sym p_is) ∙ not-false (list_any (λ unit. bytes_eq unit p.unit) names) parts.0
  unit_there (p ∷ os) known (suc k) o is = unit_there os (or_parts (not (list_any (λ unit. bytes_eq unit p.unit) names)) (has_unknown_unit names os) known).1 k o is

  pub all_known : (os : List Operation) → broken_rule names os ≡ None → has_unknown_unit names os ≡ false
  all_known os none = (none_breaks (broken_rules names os) none).1.1.1.1.1.0

  -- rules are kept where more units are there
  module _ (units' : List StorageUnit) (grows : (name : List ℕ) → has unit_name name units ≡ true → has unit_name name units' ≡ true) where
    still_known : (os : List Operation) → has_unknown_unit names os ≡ false → has_unknown_unit (map unit_name units') os ≡ false
    still_known [] known = refl
    still_known (o ∷ os) known =
        let parts = or_parts (not (list_any (λ unit. bytes_eq unit o.unit) names)) (has_unknown_unit names os) known in
        or_from (not (list_any (λ unit. bytes_eq unit o.unit) (map unit_name units'))) (has_unknown_unit (map unit_name units') os)
        (not_from_true _ (among_names o.unit units' ∙ grows o.unit (sym (among_names o.unit units) ∙ not-false (list_any (λ unit. bytes_eq unit o.unit) names) parts.0)))
        (still_known os parts.1)

    pub rules_kept : (os : List Operation) → broken_rule names os ≡ None → broken_rule (map unit_name units') os ≡ None
    rules_kept os none =
        let all = none_breaks (broken_rules names os) none in
        none_broken (broken_rules (map unit_name units') os) (all.0, (all.1.0, (all.1.1.0, (all.1.1.1.0, (all.1.1.1.1.0, (still_known os all.1.1.1.1.1.0, (all.1.1.1.1.1.1.0, tt)))))))

-- The versions of lifecycles.

abbrev lifecycle_name : Lifecycle → List ℕ
lifecycle_name l = l.name

-- the operations of a version that is there keep the rules
pub rules_hold : (book : Book) → ((l : Lifecycle) → Contains book.lifecycles l → IsSoundLifecycle book l) → (name : List ℕ) (number : ℕ) → has_version name number book ≡ true → broken_rule (map unit_name book.units) (operations_in name number book) ≡ None
rules_hold book sound name number there = at (lifecycle_named name book.lifecycles) (found_named lifecycle_name name book.lifecycles) there
  where
    in_list : (l : Lifecycle) → Contains book.lifecycles l → (o : Option Version) → slice_get l.versions (number - 1) ≡ o → is_some o ≡ true → broken_rule (map unit_name book.units) (operations_of o) ≡ None
    in_list l among None is some = absurd (false≢true some)
    in_list l among (Some v) is some = (sound l among).rules v (get_contains l.versions (number - 1) v is)

    by_number : (l : Lifecycle) → Contains book.lifecycles l → (b : Bool) → is_some (if b then None else slice_get l.versions (number - 1)) ≡ true → broken_rule (map unit_name book.units) (operations_of (if b then None else slice_get l.versions (number - 1))) ≡ None
    by_number l among true some = absurd (false≢true some)
    by_number l among false some = in_list l among (slice_get l.versions (number - 1)) refl some

    at : (o : Option Lifecycle) → ((l : Lifecycle) → o ≡ Some l → (l.name ≡ name) × Contains book.lifecycles l) → is_some (version_in number o) ≡ true → broken_rule (map unit_name book.units) (operations_of (version_in number o)) ≡ None
    at None found some = absurd (false≢true some)
    at (Some l) found some = by_number l (found l refl).1 (number == 0) some

-- the latest version of a lifecycle that is there
pub latest_there : (book : Book) → ((l : Lifecycle) → Contains book.lifecycles l → IsSoundLifecycle book l) → (name : List ℕ) → has_lifecycle name book ≡ true → has_version name (latest_version name book) book ≡ true
latest_there book sound name there = at (lifecycle_named name book.lifecycles) (found_named lifecycle_name name book.lifecycles) there
  where
    last : {A : Type 0} (xs : List A) → 1 ≤ length xs → is_some (if length xs == 0 then None else slice_get xs (length xs - 1)) ≡ true
    last [] some = absurd (omega arith)
    last (x ∷ xs) some =
        let more : (length (x ∷ xs) == 0) ≡ false = grind (arith, nat_tests) in
        let before : length (x ∷ xs) - 1 ≡ length xs = omega arith in
        (λ i. is_some (if more i then None else slice_get (x ∷ xs) (before i))) ∙ further xs x
      where
        further : {A : Type 0} (ys : List A) (y : A) → is_some (slice_get (y ∷ ys) (length ys)) ≡ true
        further [] y = refl
        further (z ∷ zs) y = further zs z

    at : (o : Option Lifecycle) → ((l : Lifecycle) → o ≡ Some l → (l.name ≡ name) × Contains book.lifecycles l) → is_some (option_map (λ (l : Lifecycle). length l.versions) o) ≡ true → is_some (version_in (unwrap_or (option_map (λ (l : Lifecycle). length l.versions) o) 0) o) ≡ true
    at None found some = absurd (false≢true some)
    at (Some l) found some = last l.versions (sound l (found l refl).1).some

-- The states of an image that is sealed.

pub record AreSealed (units : List StorageUnit) (os : List Operation) : Type 0 where
  pub long : length (states_of os) ≡ length os
  pub first : completed (states_of os) 0 ≡ true
  pub only : (o : ℕ) → completed (states_of os) o ≡ true → o ≡ 0
  pub sources : (o : ℕ) → completed (states_of os) o ≡ true → HasSource (states_of os) (slice_get os o)
  pub cancelled : (o : ℕ) → slice_get (states_of os) o ≢ Some Cancelled
  pub unit : option_map (λ (o : Operation). o.unit) (slice_get os 0) ≡ Some (unit_of os)
  pub there : has unit_name (unit_of os) units ≡ true

later_waits : (os : List Operation) (n : ℕ) → completed (map (λ (o : Operation). Waiting) os) n ≡ false
later_waits [] n = refl
later_waits (o ∷ os) zero = refl
later_waits (o ∷ os) (suc n) = later_waits os n

none_cancelled : (os : List Operation) (n : ℕ) → slice_get (map (λ (o : Operation). Waiting) os) n ≢ Some Cancelled
none_cancelled [] n is = cc is
none_cancelled (o ∷ os) zero is = absurd (cc is)
none_cancelled (o ∷ os) (suc n) is = none_cancelled os n is

pub are_sealed : (units : List StorageUnit) (os : List Operation) → broken_rule (map unit_name units) os ≡ None → AreSealed units os
are_sealed units [] none = absurd (cc none)
are_sealed units (o ∷ os) none =
    let all = none_breaks (broken_rules (map unit_name units) (o ∷ os)) none in
    let backup : o.backup ≡ true = not-false o.backup all.1.0 in
    record {
      long = ap suc (length-map os (λ (p : Operation). Waiting));
      first = refl;
      only = alone;
      sources = source backup;
      cancelled = apart;
      unit = refl;
      there = unit_there units (o ∷ os) (all_known units (o ∷ os) none) 0 o refl;
    }
  where
    alone : (n : ℕ) → completed (states_of (o ∷ os)) n ≡ true → n ≡ 0
    alone zero is = refl
    alone (suc n) is = absurd (false≢true (sym (later_waits os n) ∙ is))

    source : o.backup ≡ true → (n : ℕ) → completed (states_of (o ∷ os)) n ≡ true → HasSource (states_of (o ∷ os)) (slice_get (o ∷ os) n)
    source backup zero is = λ duplicates. absurd (false≢true (sym duplicates ∙ backup))
    source backup (suc n) is = absurd (false≢true (sym (later_waits os n) ∙ is))

    apart : (n : ℕ) → slice_get (states_of (o ∷ os)) n ≢ Some Cancelled
    apart zero is = absurd (cc is)
    apart (suc n) is = none_cancelled os n is

-- only an operation that is complete may be needed
pub needs_complete : (os : List Operation) (states : List OpState) (o : ℕ) → is_some (needed os states o) ≡ true → completed states o ≡ true
needs_complete os states o is = at (completed states o) is
  where
    at : (b : Bool) → is_some (if b then find (waits states) (children os o) else None) ≡ true → b ≡ true
    at true some = refl
    at false some = absurd (false≢true some)
