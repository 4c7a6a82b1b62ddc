-- How streams and images are spelled, and where bytes break that spelling.
use Rattle.std.specs.Prelude.{◌≡◌, ℕ, Bool, true, false, ◌+◌, ◌^◌, ◌<◌, ◌==◌, ◌&&◌, ◌||◌, if◌then◌else◌, List, [], ◌∷◌, ◌++◌, length, map, codes, Option, Some, None, nat_eq}
use Rattle.std.specs.List.{flat_map, AllByRecursion, starts_with}
use Rattle.std.specs.Int.{w16, w64, to_be_bytes}
use Rattle.image_kinds.specs.Paths.{is_path_length, follows, are_rising}
pub use Rattle.image_kinds.specs.declared.entry.Entry.{Entry}
pub use Rattle.image_kinds.specs.declared.entry.Item.{Item}
pub use Rattle.image_kinds.specs.declared.entry.Item.TheVariants.{Taken, Kept}
pub use Rattle.image_kinds.specs.declared.format.Format.{Format}
use Rattle.image_kinds.specs.declared.format.Format.TheVariants as format

-- a stream has taken entries alone, an image kept ones too
abbrev pub keeps : Format → Bool
keeps format.Stream = false
keeps format.Image = true

-- the path that an item names
abbrev pub path_of : Item → List ℕ
path_of (Taken e) = e.path
path_of (Kept path) = path

-- the entry that an item took
abbrev pub taken_of : Item → Option Entry
taken_of (Taken e) = Some e
taken_of (Kept path) = None

-- ---- the spelling: numbers are big-endian

abbrev pub spelled_path : List ℕ → List ℕ
spelled_path path = to_be_bytes w16 (length path) ++ path

abbrev pub spelled_content : List ℕ → List ℕ
spelled_content content = to_be_bytes w64 (length content) ++ content

-- a taken entry: the byte 1, the path, the time and the content
abbrev pub spelled_entry : Entry → List ℕ
spelled_entry e = 1 ∷ (spelled_path e.path ++ (to_be_bytes w64 e.time ++ spelled_content e.content))

-- a kept entry: the byte 2 and the path
abbrev pub spelled_item : Item → List ℕ
spelled_item (Taken e) = spelled_entry e
spelled_item (Kept path) = 2 ∷ spelled_path path

abbrev pub letters_of : Format → List ℕ
letters_of format.Stream = codes "NBC1"
letters_of format.Image = codes "NBI1"

-- the letters, the items, and the byte 0 at the end
abbrev pub spelled : Format → List Item → List ℕ
spelled f items = letters_of f ++ (flat_map spelled_item items ++ 0 ∷ [])

-- a client's stream: taken entries alone
abbrev pub spelled_stream : List Entry → List ℕ
spelled_stream entries = spelled format.Stream (map Taken entries)

abbrev pub spelled_image : List Item → List ℕ
spelled_image items = spelled format.Image items

-- ---- the values: times and lengths that are spelled in 64 bits, and paths that rise strictly

abbrev pub IsEntry : Entry → Type 0
IsEntry e = (e.time < 2 ^ 64) × (length e.content < 2 ^ 64)

abbrev pub IsItem : Format → Item → Type 0
IsItem f (Taken e) = IsEntry e
IsItem f (Kept path) = keeps f ≡ true

pub record AreItems (f : Format) (items : List Item) : Type 0 where
  pub rising : are_rising (map path_of items) ≡ true
  pub each : AllByRecursion (IsItem f) items

abbrev pub IsStream : List Entry → Type 0
IsStream entries = AreItems format.Stream (map Taken entries)

abbrev pub IsImage : List Item → Type 0
IsImage items = AreItems format.Image items

-- ---- bytes that spell no value: the first field that breaks its rule

-- the path of the last item, or else a given one
abbrev pub last_behind : List ℕ → List Item → List ℕ
last_behind last [] = last
last_behind last (item ∷ items) = last_behind (path_of item) items

abbrev pub last_path : List Item → List ℕ
last_path items = last_behind [] items

-- the tags: the byte 0 at the end, and those that a path stands behind
abbrev pub names_path : Format → ℕ → Bool
names_path f tag = tag == 1 || (tag == 2 && keeps f)

abbrev pub is_tag : Format → ℕ → Bool
is_tag f tag = tag == 0 || names_path f tag

-- A path behind a last one breaks its rules first in a field from whose beginning so many of its bytes are left; none are left where they end within that field.
pub data PathBreaks (last bytes : List ℕ) (left : ℕ) : Type 0 where
  path_length_ends : length bytes < 2 → left ≡ 0 → PathBreaks last bytes left
  wrong_path_length : (count : ℕ) (more : List ℕ) → count < 2 ^ 16 → bytes ≡ to_be_bytes w16 count ++ more → is_path_length count ≡ false → left ≡ length bytes → PathBreaks last bytes left
  path_ends : (count : ℕ) (more : List ℕ) → is_path_length count ≡ true → bytes ≡ to_be_bytes w16 count ++ more → length more < count → left ≡ 0 → PathBreaks last bytes left
  wrong_path : (path more : List ℕ) → is_path_length (length path) ≡ true → bytes ≡ spelled_path path ++ more → follows last path ≡ false → left ≡ length (path ++ more) → PathBreaks last bytes left

-- the bytes behind a taken path end within its time, the length of its content, or its content
pub data FileEnds (bytes : List ℕ) : Type 0 where
  time_ends : length bytes < 8 → FileEnds bytes
  content_length_ends : (time : ℕ) (more : List ℕ) → time < 2 ^ 64 → bytes ≡ to_be_bytes w64 time ++ more → length more < 8 → FileEnds bytes
  content_ends : (time count : ℕ) (more : List ℕ) → time < 2 ^ 64 → count < 2 ^ 64 → bytes ≡ to_be_bytes w64 time ++ (to_be_bytes w64 count ++ more) → length more < count → FileEnds bytes

-- The same of an item, or of the end, behind whole items with a last path.
pub data Breaks (f : Format) (last bytes : List ℕ) (left : ℕ) : Type 0 where
  no_tag : bytes ≡ [] → left ≡ 0 → Breaks f last bytes left
  wrong_tag : (tag : ℕ) (more : List ℕ) → bytes ≡ tag ∷ more → is_tag f tag ≡ false → left ≡ length bytes → Breaks f last bytes left
  behind_end : (byte : ℕ) (more : List ℕ) → bytes ≡ 0 ∷ byte ∷ more → left ≡ length (byte ∷ more) → Breaks f last bytes left
  in_path : (tag : ℕ) (more : List ℕ) → bytes ≡ tag ∷ more → names_path f tag ≡ true → PathBreaks last more left → Breaks f last bytes left
  in_file : (path more : List ℕ) → bytes ≡ 1 ∷ (spelled_path path ++ more) → follows last path ≡ true → FileEnds more → left ≡ 0 → Breaks f last bytes left

-- Where bytes that spell no value break: in their letters, at 0, or at their end where they are a beginning of the letters; or behind the letters and whole items, at the offset from which so many bytes are left.
pub data IsBad (f : Format) (bytes : List ℕ) (offset : ℕ) : Type 0 where
  in_letters : starts_with nat_eq bytes (letters_of f) ≡ false → offset ≡ (if starts_with nat_eq (letters_of f) bytes then length bytes else 0) → IsBad f bytes offset
  behind_items : (items : List Item) (rest : List ℕ) (left : ℕ) → AreItems f items → bytes ≡ letters_of f ++ (flat_map spelled_item items ++ rest) → Breaks f (last_path items) rest left → offset + left ≡ length bytes → IsBad f bytes offset
