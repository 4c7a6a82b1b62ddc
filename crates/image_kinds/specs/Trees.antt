-- The tree of a chain of images.
use Rattle.std.specs.Prelude.{ℕ, ◌<◌, if◌then◌else◌, List, [], ◌∷◌, Option, Some, None, Contains, bytes_eq}
use Rattle.std.specs.List.{filter_map, AllByRecursion}
use Rattle.image_kinds.specs.Streams.{path_of, IsStream, Entry, Item, Taken, Kept}
use Rattle.image_kinds.specs.Images.{selected, made}
use Rattle.std.specs.Option.{option_or}

-- the entry as which an image took a path, where it did
abbrev pub taken_in : List ℕ → List Item → Option Entry
taken_in path [] = None
taken_in path (Taken e ∷ items) = if bytes_eq e.path path then Some e else taken_in path items
taken_in path (Kept kept ∷ items) = taken_in path items

-- the entry as which the last of the images that took a path took it
abbrev pub last_taken : List ℕ → List (List Item) → Option Entry
last_taken path [] = None
last_taken path (image ∷ later) = option_or (last_taken path later) (taken_in path image)

abbrev pub last_image : List (List Item) → List Item
last_image [] = []
last_image (image ∷ []) = image
last_image (image ∷ next ∷ later) = last_image (next ∷ later)

-- the tree of a chain: each path that its last image names and that some image took, with the time and content of the last one that took it
abbrev pub tree : List (List Item) → List Entry
tree images = filter_map (λ item. last_taken (path_of item) images) (last_image images)

-- the same by an item of the last image behind others: the entry that it took, or else the one that the last of the others took
abbrev pub entry_behind : List (List Item) → Item → Option Entry
entry_behind earlier (Taken e) = Some e
entry_behind earlier (Kept path) = last_taken path earlier

-- ---- the law of chains

-- a stream that a client sent, and the time of the image that was made of it
pub record Backup : Type 0 where
  pub stream : List Entry
  pub moment : ℕ

-- the images of backups: the first with a given reference, and each later one with the time of the image before it
abbrev pub images_behind : List (List ℕ) → Option ℕ → List Backup → List (List Item)
images_behind selections reference [] = []
images_behind selections reference (b ∷ later) = made selections reference b.stream ∷ images_behind selections (Some b.moment) later

-- a chain begins with an image that has no reference
abbrev pub chain_of : List (List ℕ) → List Backup → List (List Item)
chain_of selections backups = images_behind selections None backups

abbrev pub last_stream : List Backup → List Entry
last_stream [] = []
last_stream (b ∷ []) = b.stream
last_stream (b ∷ next ∷ later) = last_stream (next ∷ later)

-- each selected entry whose time is before that of the image before stands, with equal time and content, in the selected part of the stream before
abbrev pub KeepsOld : List (List ℕ) → Backup → Backup → Type 0
KeepsOld selections before b = (e : Entry) → Contains (selected selections b.stream) e → e.time < before.moment → Contains (selected selections before.stream) e

abbrev pub AllKeepOld : List (List ℕ) → Backup → List Backup → Type 0
AllKeepOld selections before [] = Unit {0}
AllKeepOld selections before (b ∷ later) = KeepsOld selections before b × AllKeepOld selections b later

abbrev pub IsDated : List (List ℕ) → List Backup → Type 0
IsDated selections [] = Unit {0}
IsDated selections (b ∷ later) = AllKeepOld selections b later

-- backups of a client: streams in which no file that changed has a time from before the last image
pub record AreBackups (selections : List (List ℕ)) (backups : List Backup) : Type 0 where
  pub streams : AllByRecursion (λ b. IsStream b.stream) backups
  pub dated : IsDated selections backups
