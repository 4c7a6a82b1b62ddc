-- The image that a backup builds on is one of its client's, and the images of a chain are kept.
use Rattle.std.proofs.Common.{◌≡◌, ◌∙◌, inl, inr, ℕ, zero, suc, Bool, true, false, ◌&&◌, List, [], ◌∷◌, ◌++◌, Option, Some, None, option_map, refl, sym, ap, subst, arith, if◌then◌else◌, cond, find}
use Rattle.std.specs.Prelude.{Contains, filter, reverse, is_ok, nat_le, bytes_eq, Ok, Err, ◌==◌}
use Rattle.std.proofs.lemmas.Bool.{and_parts, false≢true}
use Rattle.std.proofs.lemmas.List.{reverse-append}
use Rattle.std.proofs.lemmas.List.Elements.{Contains-push_cases}
use Rattle.std.proofs.lemmas.Slice.Eq.{bytes_eq-Decides}
use Rattle.site_types.specs.declared.id.BackupId.{BackupId}
use Rattle.site_types.specs.declared.image.Base.{Base}
use Rattle.site_types.specs.declared.image.Base.TheVariants as base
use Rattle.site_types.specs.declared.image.ImageRecord.{ImageRecord}
use Rattle.site_types.specs.declared.image.Kind.{Kind}
use Rattle.site_types.specs.declared.image.Kind.TheVariants.{Full, Differential, Cumulative}
use Rattle.image_catalogue.specs.Images.{is_made_by, latest_first}
use Rattle.restore_engine.specs.Chains.{Chain, chain_at, chain_of, end_of_time, followed_by, has_no_base, is_under, latest_baseless, latest_chain, latest_whole, reference, reference_among}

later : {X : Type 0} (y : X) (xs : List X) (x : X) → Contains xs x → Contains (y ∷ xs) x
later y xs x (k, lt, is) = (suc k, omega (arith, lt), is)

from_reverse : {X : Type 0} (xs : List X) (x : X) → Contains (reverse xs) x → Contains xs x
from_reverse [] x among = among
from_reverse (y ∷ xs) x among =
    elim (Contains-push_cases (reverse xs) y x (subst (λ (l : List _). Contains l x) (reverse-append (y ∷ []) xs) among)) [
      | inl inside ↦ later y xs x (from_reverse xs x inside)
      | inr is ↦ (zero, omega arith, is)
    ]

from_filter : {X : Type 0} (p : X → Bool) (xs : List X) (x : X) → Contains (filter p xs) x → Contains xs x × (p x ≡ true)
from_filter p [] x (k, lt, is) = absurd (omega arith)
from_filter p (y ∷ xs) x among = at (p y) refl (λ inside. let found = from_filter p xs x inside in (later y xs x found.0, found.1)) among
  where
    at : (b : Bool) → p y ≡ b → (Contains (filter p xs) x → Contains (y ∷ xs) x × (p x ≡ true)) → Contains (cond b (y ∷ filter p xs) (filter p xs)) x → Contains (y ∷ xs) x × (p x ≡ true)
    at true passes rest (zero, lt, is) = ((zero, omega arith, is), ap p (sym is) ∙ passes)
    at true passes rest (suc k, lt, is) = rest (k, omega arith, is)
    at false fails rest inside = rest inside

-- an image of these that was made at this moment
abbrev Made : List ImageRecord → ℕ → Type 0
Made images time = (i : ImageRecord) × Contains images i × (i.id.time ≡ time)

made_later : (x : ImageRecord) (images : List ImageRecord) (time : ℕ) → Made images time → Made (x ∷ images) time
made_later x images time made = (made.0, later x images made.0 made.1, made.2)

whole_made : (policy client : List ℕ) (images : List ImageRecord) (time : ℕ) → latest_whole policy client images ≡ Some time → Made images time
whole_made policy client [] time is = absurd (cc is)
whole_made policy client (x ∷ images) time is = at (is_under policy x && is_ok (chain_of client images x.base)) (λ rest. made_later x images time (whole_made policy client images time rest)) is
  where
    at : (b : Bool) → (latest_whole policy client images ≡ Some time → Made (x ∷ images) time) → (if b then Some x.id.time else latest_whole policy client images) ≡ Some time → Made (x ∷ images) time
    at true rest here = (x, (zero, omega arith, refl), cc here)
    at false rest there = rest there

baseless_made : (policy : List ℕ) (images : List ImageRecord) (time : ℕ) → latest_baseless policy images ≡ Some time → Made images time
baseless_made policy [] time is = absurd (cc is)
baseless_made policy (x ∷ images) time is = at (is_under policy x && has_no_base x.base) (λ rest. made_later x images time (baseless_made policy images time rest)) is
  where
    at : (b : Bool) → (latest_baseless policy images ≡ Some time → Made (x ∷ images) time) → option_map (λ (i : ImageRecord). i.id.time) (cond b (Some x) (find (λ (i : ImageRecord). is_under policy i && has_no_base i.base) images)) ≡ Some time → Made (x ∷ images) time
    at true rest here = (x, (zero, omega arith, refl), cc here)
    at false rest there = rest there

among_made : (policy client : List ℕ) (kind : Kind) (images : List ImageRecord) (time : ℕ) → reference_among policy client kind images ≡ Some time → Made images time
among_made policy client Full images time is = absurd (cc is)
among_made policy client Differential images time is = whole_made policy client images time is
among_made policy client Cumulative images time is = baseless_made policy images time is

-- an image of the client, made at the reference
pub referenced : (policy client : List ℕ) (kind : Kind) (images : List ImageRecord) (time : ℕ) → reference policy client kind images ≡ Some time → (i : ImageRecord) × Contains images i × (i.id.client ≡ client) × (i.id.time ≡ time)
referenced policy client kind images time is =
    let made = among_made policy client kind (latest_first client end_of_time images) time is in
    let inside = from_filter (is_made_by client end_of_time) images made.0 (from_reverse _ made.0 made.1) in
    (made.0, inside.0, (bytes_eq-Decides made.0.id.client client).0 (and_parts _ _ inside.1).0, made.2)

-- Each id of a chain is that of one of the images.

chain_made : (client : List ℕ) (images : List ImageRecord) (base : Base) (ids : List BackupId) → chain_of client images base ≡ Ok ids → (id : BackupId) → Contains ids id → (i : ImageRecord) × Contains images i × (i.id ≡ id)
chain_made client images base.None ids is id among = let none : [] ≡ ids = cc is in nothing (subst (λ (l : List BackupId). Contains l id) (sym none) among)
  where
    nothing : Contains [] id → (i : ImageRecord) × Contains images i × (i.id ≡ id)
    nothing (k, lt, here) = absurd (omega arith)
chain_made client [] (base.Time time) ids is id among = absurd (cc is)
chain_made client (x ∷ images) (base.Time time) ids is id among =
    at (x.id.time == time) (chain_of client images x.base) refl
    (λ earlier made there. let found = chain_made client images x.base earlier made id there in (found.0, later x images found.0 found.1, found.2))
    (λ made. let found = chain_made client images (base.Time time) ids made id among in (found.0, later x images found.0 found.1, found.2))
    is
  where
    at : (b : Bool) (before : Chain) → chain_of client images x.base ≡ before
        → ((earlier : List BackupId) → chain_of client images x.base ≡ Ok earlier → Contains earlier id → (i : ImageRecord) × Contains (x ∷ images) i × (i.id ≡ id))
        → (chain_of client images (base.Time time) ≡ Ok ids → (i : ImageRecord) × Contains (x ∷ images) i × (i.id ≡ id))
        → (if b then followed_by x.id before else chain_of client images (base.Time time)) ≡ Ok ids → (i : ImageRecord) × Contains (x ∷ images) i × (i.id ≡ id)
    at true (Ok earlier) made front rest here =
        let same : earlier ++ x.id ∷ [] ≡ ids = cc here in
        elim (Contains-push_cases earlier x.id id (subst (λ (l : List BackupId). Contains l id) (sym same) among)) [
          | inl inside ↦ front earlier made inside
          | inr last ↦ (x, (zero, omega arith, refl), last)
        ]
    at true (Err missing) made front rest here = absurd (cc here)
    at false before made front rest here = rest here

latest_made : (policy client : List ℕ) (images : List ImageRecord) (ids : List BackupId) → latest_chain policy client images ≡ Some (Ok ids) → (id : BackupId) → Contains ids id → (i : ImageRecord) × Contains images i × (i.id ≡ id)
latest_made policy client [] ids is id among = absurd (cc is)
latest_made policy client (x ∷ images) ids is id among =
    at (is_under policy x) (chain_of client images x.base) refl
    (λ there. let found = latest_made policy client images ids there id among in (found.0, later x images found.0 found.1, found.2))
    is
  where
    at : (b : Bool) (before : Chain) → chain_of client images x.base ≡ before
        → (latest_chain policy client images ≡ Some (Ok ids) → (i : ImageRecord) × Contains (x ∷ images) i × (i.id ≡ id))
        → (if b then Some (followed_by x.id before) else latest_chain policy client images) ≡ Some (Ok ids) → (i : ImageRecord) × Contains (x ∷ images) i × (i.id ≡ id)
    at true (Ok earlier) made rest here =
        let same : earlier ++ x.id ∷ [] ≡ ids = cc here in
        elim (Contains-push_cases earlier x.id id (subst (λ (l : List BackupId). Contains l id) (sym same) among)) [
          | inl inside ↦ let found = chain_made client images x.base earlier made id inside in (found.0, later x images found.0 found.1, found.2)
          | inr last ↦ (x, (zero, omega arith, refl), last)
        ]
    at true (Err missing) made rest here = absurd (cc here)
    at false before made rest here = rest here

pub chain_kept : (policy client : List ℕ) (before : ℕ) (images : List ImageRecord) (ids : List BackupId) → chain_at policy client before images ≡ Some (Ok ids) → (id : BackupId) → Contains ids id → (i : ImageRecord) × Contains images i × (i.id ≡ id)
chain_kept policy client before images ids is id among =
    let found = latest_made policy client (latest_first client before images) ids is id among in
    (found.0, (from_filter (is_made_by client before) images found.0 (from_reverse _ found.0 found.1)).0, found.2)
