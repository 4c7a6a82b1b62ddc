-- Worked rows of references and chains: both sides of each equation compute to one value.
use Rattle.std.proofs.Common.{◌≡◌, ℕ, List, [], ◌∷◌, codes, refl, true}
use Rattle.std.specs.Prelude.{Option, Some, None, Ok, Err}
use Rattle.site_types.specs.declared.id.BackupId.{BackupId}
use Rattle.site_types.specs.declared.image.Base.{Base}
use Rattle.site_types.specs.declared.image.Base.TheVariants as base
use Rattle.site_types.specs.declared.image.ImageRecord.{ImageRecord}
use Rattle.site_types.specs.declared.image.Kind.{Kind}
use Rattle.site_types.specs.declared.image.Kind.TheVariants.{Full, Differential, Cumulative}
use Rattle.restore_engine.specs.Chains.{Chain, chain_at, reference}

abbrev alpha : ℕ → BackupId
alpha time = record { client = codes "alpha"; time = time }

-- an image of alpha under the policy p
abbrev image : ℕ → Kind → Base → ImageRecord
image time kind base = record { id = alpha time; policy = codes "p"; schedule = codes "s"; kind = kind; base = base; lifecycle = codes "basic"; version = 1; length = 0; states = []; copies = []; primary = 1; active = true }

abbrev full : ImageRecord
full = image 1000 Full base.None

-- three images that build on it: a differential one, a cumulative one, and a differential one on that
abbrev later : List ImageRecord
later = image 2000 Differential (base.Time 1000) ∷ image 3000 Cumulative (base.Time 1000) ∷ image 4000 Differential (base.Time 3000) ∷ []

abbrev chain : ℕ → List ImageRecord → Option Chain
chain before images = chain_at (codes "p") (codes "alpha") before images

abbrev built_on : Kind → List ImageRecord → Option ℕ
built_on kind images = reference (codes "p") (codes "alpha") kind images

-- The chain at a moment.

chain_of_latest : chain 4000 (full ∷ later) ≡ Some (Ok (alpha 1000 ∷ alpha 3000 ∷ alpha 4000 ∷ []))
chain_of_latest = refl

-- a moment before the latest image's
before_latest : chain 3999 (full ∷ later) ≡ Some (Ok (alpha 1000 ∷ alpha 3000 ∷ []))
before_latest = refl

of_differential : chain 2999 (full ∷ later) ≡ Some (Ok (alpha 1000 ∷ alpha 2000 ∷ []))
of_differential = refl

of_full : chain 1999 (full ∷ later) ≡ Some (Ok (alpha 1000 ∷ []))
of_full = refl

-- the moment of an image is late enough for it
at_its_moment : chain 1000 (full ∷ later) ≡ Some (Ok (alpha 1000 ∷ []))
at_its_moment = refl

before_all : chain 999 (full ∷ later) ≡ None
before_all = refl

without_full : chain 4000 later ≡ Some (Err (alpha 1000))
without_full = refl

-- the first one down the bases that isn't kept, and not the last
without_two : chain 4000 (image 2000 Differential (base.Time 1000) ∷ image 4000 Differential (base.Time 3000) ∷ []) ≡ Some (Err (alpha 3000))
without_two = refl

-- What a backup builds on.

full_builds_on_none : built_on Full (full ∷ later) ≡ None
full_builds_on_none = refl

differential_on_latest : built_on Differential (full ∷ later) ≡ Some 4000
differential_on_latest = refl

cumulative_on_full : built_on Cumulative (full ∷ later) ≡ Some 1000
cumulative_on_full = refl

-- of the images whose chain is whole
past_broken : built_on Differential (full ∷ image 2000 Differential (base.Time 1000) ∷ image 4000 Differential (base.Time 3000) ∷ []) ≡ Some 2000
past_broken = refl

none_whole : built_on Differential later ≡ None
none_whole = refl

first_of_client : built_on Cumulative [] ≡ None
first_of_client = refl
