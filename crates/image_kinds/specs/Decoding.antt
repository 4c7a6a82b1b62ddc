-- What a decoder's answer says.
use Rattle.std.specs.Prelude.{◌≡◌, ℕ, ◌≤◌, ◌-◌, List, length, Result, Ok, Err}
use Rattle.site_types.specs.declared.fields.FieldFault.{FieldFault}
use Rattle.image_kinds.specs.declared.decode.StreamFault.{StreamFault}
use Rattle.image_kinds.specs.declared.decode.StreamFault.TheVariants.{Bad, NoMemory}
use Rattle.image_kinds.specs.Streams.{IsBad, Format}
use Rattle.site_types.specs.declared.fields.FieldFault.TheVariants as field

-- a field that breaks its rule, by the bytes that are left from it on
abbrev pub IsFault : Format → List ℕ → FieldFault → Type 0
IsFault f bytes (field.Broken left) = (left ≤ length bytes) × IsBad f bytes (length bytes - left)
IsFault f bytes field.NoMemory = Unit {0}

-- these bytes are bad there, or memory ran out
abbrev pub IsStreamFault : Format → List ℕ → StreamFault → Type 0
IsStreamFault f bytes (Bad offset) = IsBad f bytes offset
IsStreamFault f bytes NoMemory = Unit {0}

-- the value was read, or memory ran out
abbrev pub IsReadAs : {A : Type 0} → Result A StreamFault → A → Type 0
IsReadAs (Ok read) value = read ≡ value
IsReadAs (Err (Bad offset)) value = ⊥
IsReadAs (Err NoMemory) value = Unit {0}
