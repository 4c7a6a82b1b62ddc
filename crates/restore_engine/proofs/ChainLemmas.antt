-- Chains, one image longer.
use Rattle.std.proofs.Common.{◌≡◌, List, [], ◌∷◌, ◌++◌, refl, sym, ◌∙◌, ap}
use Rattle.std.specs.Prelude.{Ok, Err, is_ok, reverse}
use Rattle.std.proofs.lemmas.List.{append_assoc, reverse-append}
use Rattle.site_types.specs.declared.id.BackupId.{BackupId}
use Rattle.restore_engine.specs.Chains.{Chain, followed_by}
use Rattle.restore_engine.specs.Walks.{before}

-- an id behind those that were found stands before them in the chain
pub added : (ids : List BackupId) (id : BackupId) (chain : Chain) → before (ids ++ id ∷ []) chain ≡ before ids (followed_by id chain)
added ids id (Ok earlier) = ap Ok (ap (λ (later : List BackupId). earlier ++ later) (reverse-append ids (id ∷ [])) ∙ sym (append_assoc earlier (id ∷ []) (reverse ids)))
added ids id (Err missing) = refl

pub as_whole : (id : BackupId) (chain : Chain) → is_ok (followed_by id chain) ≡ is_ok chain
as_whole id (Ok ids) = refl
as_whole id (Err missing) = refl

pub of_latest : (id : BackupId) (chain : Chain) → before (id ∷ []) chain ≡ followed_by id chain
of_latest id (Ok ids) = refl
of_latest id (Err missing) = refl
