-- What bytes spell: the same that the spelling says, as functions, which the checker evaluates.
use Rattle.std.specs.Prelude.{◌≡◌, ℕ, zero, suc, ◌-◌, ◌<◌, List, [], ◌∷◌, length, slice_index, Option, Some, None, Result, Ok, Err}
use Rattle.std.specs.List.{filter_map}
use Rattle.image_kinds.specs.Streams.{letters_of, path_of, taken_of, Entry, Item, Format}
use Rattle.image_kinds.specs.Fields.{◌>>=◌, letters_at, item_at}
use Rattle.image_kinds.specs.declared.decode.StreamFault.{StreamFault}
use Rattle.image_kinds.specs.declared.decode.StreamFault.TheVariants.{Bad, NoMemory}
use Rattle.image_kinds.specs.declared.format.Format.TheVariants as format

-- each of the numbers is that of a byte
abbrev pub AreBytes : List ℕ → Type 0
AreBytes bytes = (i : ℕ) → slice_index bytes i < 256

-- an item with the items behind it; none stands behind the end
abbrev pub with_items : Option Item → (Item → Result (List Item) ℕ) → Result (List Item) ℕ
with_items None items_behind = Ok []
with_items (Some item) items_behind = items_behind item >>= λ items. Ok (item ∷ items)

-- the items behind one with a last path, of which there are at most so many, or the number of bytes that are left from where a field breaks its rule
abbrev pub items_at : ℕ → Format → List ℕ → List ℕ → Result (List Item) ℕ
items_at zero f last bytes = Err (length bytes)
items_at (suc most) f last bytes = item_at f last bytes >>= λ read. with_items read.0 (λ item. items_at most f (path_of item) read.1)

-- each item takes at least a byte
abbrev pub items_behind : Format → List ℕ → Result (List Item) ℕ
items_behind f rest = items_at (length rest) f [] rest

-- an offset in place of the number of bytes that are left
abbrev pub by_offset : {A : Type 0} → List ℕ → Result A ℕ → Result A ℕ
by_offset bytes (Ok value) = Ok value
by_offset bytes (Err left) = Err (length bytes - left)

-- the items that bytes spell, or the offset at which they break
abbrev pub items_in : Format → List ℕ → Result (List Item) ℕ
items_in f bytes = by_offset bytes (letters_at (letters_of f) bytes >>= items_behind f)

-- the stream that bytes spell, or the offset at which they break
abbrev pub stream_in : List ℕ → Result (List Entry) ℕ
stream_in bytes = items_in format.Stream bytes >>= λ items. Ok (filter_map taken_of items)

-- the image that bytes spell, or the offset at which they break
abbrev pub image_in : List ℕ → Result (List Item) ℕ
image_in bytes = items_in format.Image bytes

-- a decoder's answer is what the bytes spell, or memory ran out
abbrev pub IsReading : {A : Type 0} → Result A StreamFault → Result A ℕ → Type 0
IsReading (Ok value) reading = reading ≡ Ok value
IsReading (Err (Bad offset)) reading = reading ≡ Err offset
IsReading (Err NoMemory) reading = Unit {0}
