-- Lifecycles by name, to which a version is added.
use Rattle.slp_tree.proofs.Common.{◌≡◌, ◌≢◌, ◌+◌, ◌-◌, ℕ, zero, suc, List, [], ◌∷◌, ◌++◌, length, get_or, set, Bool, true, false, cond, Option, Some, None, Result, Ok, Err, refl, sym, ◌∙◌, ap, subst, arith, IfOk, OnOk, OnErr, insert, slice_get, unwrap_or, nat_eq, bytes_eq, exact_bytes, bytes_eq-Decides, Version, option_map, AreByName}
use Rattle.std.proofs.lemmas.List.{set-get_or, length_push}
use Rattle.slp_tree.specs.Lifecycles.{Lifecycle, IsAdded, lifecycle_name, lifecycle_named, version_in, version_named, latest_named, with_further, add_version}
use Rattle.slp_tree.specs.Places.{StandsAt, LacksAt}
use Rattle.slp_tree.proofs.ListLemmas.{named_at, unnamed_at, named-put, put_found, put_lacking}

last_of_push : (vs : List Version) (version : Version) → slice_get (vs ++ version ∷ []) (length vs) ≡ Some version
last_of_push [] version = refl
last_of_push (v ∷ vs) version = last_of_push vs version

other_of_push : (vs : List Version) (version : Version) (k : ℕ) → k ≢ length vs → slice_get (vs ++ version ∷ []) k ≡ slice_get vs k
other_of_push [] version zero apart = absurd (apart refl)
other_of_push [] version (suc k) apart = refl
other_of_push (v ∷ vs) version zero apart = refl
other_of_push (v ∷ vs) version (suc k) apart = other_of_push vs version k (λ same. apart (ap suc same))

-- the number of the version that comes next
abbrev next_of : Option Lifecycle → ℕ
next_of None = 1
next_of (Some l) = length l.versions + 1

next_is : (o : Option Lifecycle) → unwrap_or (option_map (λ (l : Lifecycle). length l.versions) o) 0 + 1 ≡ next_of o
next_is None = refl
next_is (Some l) = refl

latest_extended : (name : List ℕ) (version : Version) (o : Option Lifecycle) → length (with_further name version o).versions ≡ next_of o
latest_extended name version None = refl
latest_extended name version (Some l) = length_push l.versions version

version_after : (k : ℕ) (l : Lifecycle) → version_in (suc k) (Some l) ≡ slice_get l.versions k
version_after k l = λ j. cond (not_zero k j) None (slice_get l.versions (less_one k j))
  where
    less_one : (n : ℕ) → suc n - 1 ≡ n
    less_one n = omega arith

    not_zero : (n : ℕ) → nat_eq (suc n) 0 ≡ false
    not_zero n = grind arith

after : (n : ℕ) → n + 1 ≡ suc n
after n = omega arith

found_extended : (name : List ℕ) (version : Version) (o : Option Lifecycle) → version_in (next_of o) (Some (with_further name version o)) ≡ Some version
found_extended name version None = refl
found_extended name version (Some l) =
    ap (λ (n : ℕ). version_in n (Some (with_further name version (Some l)))) (after (length l.versions))
    ∙ version_after (length l.versions) (with_further name version (Some l))
    ∙ last_of_push l.versions version

others_extended : (name : List ℕ) (version : Version) (o : Option Lifecycle) (number : ℕ) → number ≢ next_of o → version_in number (Some (with_further name version o)) ≡ version_in number o
others_extended name version None zero apart = refl
others_extended name version None (suc number) apart = version_after number (with_further name version None) ∙ alone number (λ same. apart (ap suc same))
  where
    alone : (k : ℕ) → k ≢ 0 → slice_get (version ∷ []) k ≡ None
    alone zero differs = absurd (differs refl)
    alone (suc k) differs = refl
others_extended name version (Some l) zero apart = refl
others_extended name version (Some l) (suc number) apart =
    version_after number (with_further name version (Some l))
    ∙ other_of_push l.versions version number (λ same. apart (ap suc same ∙ sym (after (length l.versions))))
    ∙ sym (version_after number l)

-- The clauses of adding a version.

module _ (ls new : List Lifecycle) (name : List ℕ) (version : Version) where
  found_named : (other : List ℕ) (same : Bool) → bytes_eq name other ≡ same → new ≡ add_version name version ls → lifecycle_named other new ≡ cond same (Some (with_further name version (lifecycle_named name ls))) (lifecycle_named other ls)
  found_named other same is added =
      ap (lifecycle_named other) added
      ∙ named-put lifecycle_name (with_further name version (lifecycle_named name ls)) other ls
      ∙ (λ j. cond (is j) (Some (with_further name version (lifecycle_named name ls))) (lifecycle_named other ls))

  next_found : new ≡ add_version name version ls → lifecycle_named name new ≡ Some (with_further name version (lifecycle_named name ls))
  next_found added = found_named name true ((bytes_eq-Decides name name).1 refl) added

  others_kept : (number : ℕ) → new ≡ add_version name version ls → number ≡ next_of (lifecycle_named name ls) → (other : List ℕ) (k : ℕ) → ¬ ((other ≡ name) × (k ≡ number)) → (same : Bool) → bytes_eq name other ≡ same → version_named other k new ≡ version_named other k ls
  others_kept number added is other k apart false differs = ap (version_in k) (found_named other false differs added)
  others_kept number added is other k apart true same =
      let here : name ≡ other = (bytes_eq-Decides name other).0 same in
      subst (λ (n : List ℕ). version_named n k new ≡ version_named n k ls) here
      (ap (version_in k) (next_found added) ∙ others_extended name version (lifecycle_named name ls) k (λ later. apart (sym here, later ∙ sym is)))

  pub is_added : {E : Type 0} (result : Result ℕ E) → OnOk result (new ≡ add_version name version ls) → IfOk result (λ number. number ≡ unwrap_or (latest_named name ls) 0 + 1) → OnErr result (new ≡ ls) → IsAdded name version ls new result
  is_added (Ok number) added number_is kept =
      let next : number ≡ next_of (lifecycle_named name ls) = number_is ∙ next_is (lifecycle_named name ls) in
      record {
        added = added;
        number = number_is;
        unchanged = tt;
        latest = ap (option_map (λ (l : Lifecycle). length l.versions)) (next_found added) ∙ ap (λ (n : ℕ). Some n) (latest_extended name version (lifecycle_named name ls) ∙ sym next);
        found = (λ j. version_in (next j) (next_found added j)) ∙ found_extended name version (lifecycle_named name ls);
        others = λ other k apart. others_kept number added next other k apart (bytes_eq name other) refl;
      }
  is_added (Err e) added number_is kept = record { added = tt; number = tt; unchanged = kept; latest = tt; found = tt; others = tt }

-- What is written at a place.

pub latest_read : (ls : List Lifecycle) (name : List ℕ) (i : ℕ) (l : Lifecycle) → AreByName lifecycle_name ls → StandsAt lifecycle_name ls name i → l ≡ get_or ls i l → latest_named name ls ≡ Some (length l.versions)
latest_read ls name i l rising at is = ap (option_map (λ (m : Lifecycle). length m.versions)) (named_at lifecycle_name ls name i l rising at ∙ ap (λ (m : Lifecycle). Some m) (sym is))

pub added_in_place : {E : Type 0} (ls : List Lifecycle) (name : List ℕ) (version : Version) (i : ℕ) (l after : Lifecycle) (result : Result ℕ E) → AreByName lifecycle_name ls → StandsAt lifecycle_name ls name i → l ≡ get_or ls i l
    → IfOk result (λ number. (after ≡ record { name = l.name; versions = l.versions ++ version ∷ [] }) × (number ≡ length l.versions + 1)) → OnErr result (after ≡ l) → IsAdded name version ls (set ls i after) result
added_in_place ls name version i l after (Ok number) rising at is added kept =
    let same : l.name ≡ name = ap (λ (m : Lifecycle). m.name) is ∙ exact_bytes (get_or ls i l).name name (at.1 l) in
    let made : after ≡ record { name = name; versions = l.versions ++ version ∷ [] } = added.0 ∙ (λ j. record { name = same j; versions = l.versions ++ version ∷ [] }) in
    is_added ls (set ls i after) name version (Ok number) (put_found lifecycle_name (with_further name version) ls name i l after (λ o. refl) rising at is made)
    (added.1 ∙ sym (ap (λ (o : Option ℕ). unwrap_or o 0 + 1) (latest_read ls name i l rising at is))) tt
added_in_place ls name version i l after (Err e) rising at is added kept = is_added ls (set ls i after) name version (Err e) tt tt (ap (λ (m : Lifecycle). set ls i m) (kept ∙ is) ∙ set-get_or ls i l)

pub inserted_is : (ls after : List Lifecycle) (name : List ℕ) (version : Version) (i : ℕ) (new : Lifecycle) → LacksAt lifecycle_name ls name i → new ≡ record { name = name; versions = version ∷ [] } → after ≡ insert ls i new → after ≡ add_version name version ls
inserted_is ls after name version i new lacks is put_in = put_in ∙ put_lacking lifecycle_name (with_further name version) ls name i new (λ o. refl) lacks is

pub first_added : {E : Type 0} (ls after : List Lifecycle) (name : List ℕ) (version : Version) (i : ℕ) → LacksAt lifecycle_name ls name i → after ≡ add_version name version ls → IsAdded {E = E} name version ls after (Ok 1)
first_added ls after name version i lacks is =
    is_added ls after name version (Ok 1) is (sym (ap (λ (o : Option Lifecycle). unwrap_or (option_map (λ (l : Lifecycle). length l.versions) o) 0 + 1) (unnamed_at lifecycle_name ls name i lacks))) tt
