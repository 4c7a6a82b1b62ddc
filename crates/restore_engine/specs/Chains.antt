-- References of backups, and chains of images. The images of one client stand with the latest first, so each image stands behind those that may build on it.
use Rattle.std.specs.Prelude.{◌≡◌, ℕ, Bool, true, false, ◌&&◌, ◌==◌, if◌then◌else◌, List, [], ◌∷◌, ◌++◌, Option, Some, None, Result, Ok, Err, find, is_ok, option_map}
use Rattle.std.specs.Str.{bytes_eq}
use Rattle.site_types.specs.declared.id.BackupId.{BackupId}
use Rattle.site_types.specs.declared.image.Base.{Base}
use Rattle.site_types.specs.declared.image.Base.TheVariants as base
use Rattle.site_types.specs.declared.image.ImageRecord.{ImageRecord}
use Rattle.site_types.specs.declared.image.Kind.{Kind}
use Rattle.site_types.specs.declared.image.Kind.TheVariants.{Full, Differential, Cumulative}
use Rattle.image_catalogue.specs.Images.{latest_first}
use Rattle.restore_engine.specs.declared.chains.ChainFault.{ChainFault}
use Rattle.restore_engine.specs.declared.chains.ChainFault.TheVariants as fault

abbrev pub is_under : List ℕ → ImageRecord → Bool
is_under policy image = bytes_eq image.policy policy

abbrev pub has_no_base : Base → Bool
has_no_base base.None = true
has_no_base (base.Time moment) = false

-- A chain: its ids from the image with no base on, or the first id on the way down the bases that isn't kept.
abbrev pub Chain : Type 0
Chain = Result (List BackupId) BackupId

-- the chain of a base, followed by the image that builds on it
abbrev pub followed_by : BackupId → Chain → Chain
followed_by id (Ok ids) = Ok (ids ++ id ∷ [])
followed_by id (Err missing) = Err missing

-- the chain of a base: none has no images, and one that isn't among a client's images is missing
abbrev pub chain_of : List ℕ → List ImageRecord → Base → Chain
chain_of client images base.None = Ok []
chain_of client [] (base.Time moment) = Err (record { client = client; time = moment })
chain_of client (i ∷ images) (base.Time moment) = if i.id.time == moment then followed_by i.id (chain_of client images i.base) else chain_of client images (base.Time moment)

-- ---- the chain that a restore reads

-- the chain of the latest image under a policy, where there is one
abbrev pub latest_chain : List ℕ → List ℕ → List ImageRecord → Option Chain
latest_chain policy client [] = None
latest_chain policy client (i ∷ images) = if is_under policy i then Some (followed_by i.id (chain_of client images i.base)) else latest_chain policy client images

-- that of the latest image that was made no later than a moment
abbrev pub chain_at : List ℕ → List ℕ → ℕ → List ImageRecord → Option Chain
chain_at policy client before images = latest_chain policy client (latest_first client before images)

-- what was answered is the chain, unless memory ran out
abbrev pub IsChain : Result (List BackupId) ChainFault → Option Chain → Type 0
IsChain (Err fault.NoMemory) chain = Unit {0}
IsChain (Err fault.NoImage) chain = chain ≡ None
IsChain (Err (fault.Lacks id)) chain = chain ≡ Some (Err id)
IsChain (Ok ids) chain = chain ≡ Some (Ok ids)

-- ---- the reference of a backup

-- the latest image under a policy whose chain is whole
abbrev pub latest_whole : List ℕ → List ℕ → List ImageRecord → Option ℕ
latest_whole policy client [] = None
latest_whole policy client (i ∷ images) = if is_under policy i && is_ok (chain_of client images i.base) then Some i.id.time else latest_whole policy client images

-- the latest image under a policy that has no base
abbrev pub latest_baseless : List ℕ → List ImageRecord → Option ℕ
latest_baseless policy images = option_map (λ i. i.id.time) (find (λ i. is_under policy i && has_no_base i.base) images)

-- a client's images, however late
abbrev pub reference_among : List ℕ → List ℕ → Kind → List ImageRecord → Option ℕ
reference_among policy client Full images = None
reference_among policy client Differential images = latest_whole policy client images
reference_among policy client Cumulative images = latest_baseless policy images

-- the greatest moment that is written in 64 bits
abbrev pub end_of_time : ℕ
end_of_time = 18446744073709551615

abbrev pub reference : List ℕ → List ℕ → Kind → List ImageRecord → Option ℕ
reference policy client kind images = reference_among policy client kind (latest_first client end_of_time images)
