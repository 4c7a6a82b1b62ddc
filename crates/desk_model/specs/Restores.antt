-- bprestore: of an image by its id, and of a client under a policy as it was at a moment.
use Rattle.std.specs.Prelude.{ℕ, ◌+◌, ◌==◌, Bool, true, false, not, is_none, is_some, nat_lt, List, [], ◌∷◌, length, map, codes, Option, Some, None, unwrap_or, Result, Ok, Err}
use Rattle.std.specs.List.{list_any}
use Rattle.std.specs.Result.{result_err, result_unwrap_or}
use Rattle.site_types.specs.Ids.{copy_text, id_text}
use Rattle.site_types.specs.Limits.{payload_limit}
use Rattle.site_types.specs.declared.id.BackupId.{BackupId}
use Rattle.site_types.specs.declared.answer.Answer.{Answer}
use Rattle.site_types.specs.declared.answer.Answer.TheVariants.{Done, Unknown, TooMany, ChainBroken, BadStream}
use Rattle.policy_book.specs.Lists.{named}
use Rattle.policy_book.specs.Book.{adhoc, policy_name}
use Rattle.policy_book.specs.Changes.{pair_text}
use Rattle.image_kinds.specs.declared.entry.Item.{Item}
use Rattle.image_kinds.specs.Streams.{spelled_stream}
use Rattle.image_kinds.specs.Reading.{image_in}
use Rattle.image_kinds.specs.Trees.{tree}
use Rattle.restore_engine.specs.Chains.{Chain, chain_at}
use Rattle.desk_model.specs.State.{State, Image, entries, image_named}
use Rattle.desk_model.specs.Refusals.{Case}
use Rattle.desk_model.specs.Backups.{is_known}

-- By id: the number of the copy that is wanted, by default the primary one's; whether a copy of a number is kept; and the image's bytes.
abbrev pub wanted_number : Option ℕ → Option Image → ℕ
wanted_number (Some number) image = number
wanted_number None None = 0
wanted_number None (Some image) = image.entry.primary

abbrev pub has_copy : ℕ → Option Image → Bool
has_copy number None = false
has_copy number (Some image) = list_any (λ c. c.number == number) image.entry.copies

abbrev pub bytes_of : Option Image → List ℕ
bytes_of None = []
bytes_of (Some image) = image.bytes

-- its refusals, in their order
abbrev pub restore_refusals : Option Image → BackupId → Option ℕ → List (Bool × Answer)
restore_refusals image id copy =
    (is_none image, Unknown (id_text id))
    ∷ (not (has_copy (wanted_number copy image) image), Unknown (copy_text id (wanted_number copy image)))
    ∷ (nat_lt payload_limit (length (bytes_of image)), TooMany (codes "bytes") (length (bytes_of image)) payload_limit)
    ∷ []

abbrev pub restore_case : Option Image → BackupId → Option ℕ → State → Case
restore_case image id copy s = record { refusals = restore_refusals image id copy; shown = []; answer = Done (bytes_of image); after = s }

-- By client and policy: the chain of the latest image that was made no later than a moment.

-- the ids of a chain that is there and whole
abbrev pub ids_of : Option Chain → List BackupId
ids_of None = []
ids_of (Some (Ok ids)) = ids
ids_of (Some (Err missing)) = []

-- the first id on the way down its bases that isn't kept
abbrev pub missing_of : Option Chain → Option BackupId
missing_of None = None
missing_of (Some (Ok ids)) = None
missing_of (Some (Err missing)) = Some missing

-- the bytes of the images with these ids, and how many they are together
abbrev pub bytes_with : List Image → List BackupId → List (List ℕ)
bytes_with images ids = map (λ id. bytes_of (image_named id images)) ids

abbrev pub total : List (List ℕ) → ℕ
total [] = 0
total (bytes ∷ more) = length bytes + total more

-- the images that bytes spell, or where the first that are no image break
abbrev pub image_before : Result (List Item) ℕ → Result (List (List Item)) ℕ → Result (List (List Item)) ℕ
image_before (Err offset) later = Err offset
image_before (Ok image) (Err offset) = Err offset
image_before (Ok image) (Ok later) = Ok (image ∷ later)

abbrev pub images_in : List (List ℕ) → Result (List (List Item)) ℕ
images_in [] = Ok []
images_in (bytes ∷ more) = image_before (image_in bytes) (images_in more)

abbrev pub tree_spelled : Result (List (List Item)) ℕ → Result (List ℕ) ℕ
tree_spelled (Ok images) = Ok (spelled_stream (tree images))
tree_spelled (Err offset) = Err offset

abbrev pub last_bytes : List (List ℕ) → List ℕ
last_bytes [] = []
last_bytes (bytes ∷ []) = bytes
last_bytes (bytes ∷ next ∷ more) = last_bytes (next ∷ more)

-- what images of these bytes give back: under a policy of files the tree of their chain as a stream, and else the bytes of the last
abbrev pub given_by : Bool → List (List ℕ) → Result (List ℕ) ℕ
given_by true chain = tree_spelled (images_in chain)
given_by false chain = Ok (last_bytes chain)

abbrev pub has_files : List ℕ → State → Bool
has_files policy s = (unwrap_or (named policy_name policy s.site.book.policies) adhoc).files

-- its refusals, in their order, where the chain's images have so many bytes
abbrev pub restore_at_refusals : (client policy : List ℕ) → Option Chain → ℕ → State → List (Bool × Answer)
restore_at_refusals client policy chain size s =
    (is_none (named policy_name policy s.site.book.policies), Unknown policy)
    ∷ (not (is_known client s.site.book), Unknown client)
    ∷ (is_none chain, Unknown (pair_text policy client))
    ∷ (is_some (missing_of chain), ChainBroken (unwrap_or (missing_of chain) (record { client = client; time = 0 })))
    ∷ (nat_lt payload_limit size, TooMany (codes "bytes") size payload_limit)
    ∷ []

abbrev pub chain_asked : (client policy : List ℕ) → ℕ → State → Option Chain
chain_asked client policy before s = chain_at policy client before (entries s.images)

abbrev pub restore_at_case : (client policy : List ℕ) → ℕ → State → Case
restore_at_case client policy before s =
    let chain = chain_asked client policy before s in
    let bytes = bytes_with s.images (ids_of chain) in
    let given = given_by (has_files policy s) bytes in
    record {
      refusals = restore_at_refusals client policy chain (total bytes) s;
      shown = (is_some (result_err given), BadStream (unwrap_or (result_err given) 0)) ∷ [];
      answer = Done (result_unwrap_or given []);
      after = s;
    }
