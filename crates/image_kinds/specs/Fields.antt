-- Fields, read from the front of some bytes.
use Rattle.std.specs.Prelude.{◌≡◌, ℕ, ◌&&◌, ◌==◌, if◌then◌else◌, nat_eq, List, length, drop, Option, Some, None, Result, Ok, Err}
use Rattle.std.specs.List.{starts_with}
use Rattle.std.specs.Int.{Width, w16, w64}
use Rattle.site_types.specs.Fields.{byte_field, number_field, bytes_field}
use Rattle.image_kinds.specs.Paths.{is_path_length, follows}
use Rattle.image_kinds.specs.Streams.{keeps, Entry, Item, Taken, Kept, Format}
pub use Rattle.site_types.specs.declared.fields.FieldFault.{FieldFault}
pub use Rattle.site_types.specs.declared.fields.FieldFault.TheVariants.{Broken, NoMemory}

-- What stands at the front, and the bytes behind it. Where a field breaks its rule, it is the number of bytes from where that field begins, and 0 where the bytes end within it.
abbrev pub Read : Type 0 → Type 0
Read A = Result (A × List ℕ) ℕ

infixl 10 ◌>>=◌
abbrev pub ◌>>=◌ : {A B : Type 0} → Result A ℕ → (A → Result B ℕ) → Result B ℕ
(Ok x) >>= f = f x
(Err left) >>= f = Err left

-- where the bytes end within a field, none are left
abbrev pub whole : {A : Type 0} → Option (A × List ℕ) → Read A
whole (Some read) = Ok read
whole None = Err 0

abbrev pub byte_at : List ℕ → Read ℕ
byte_at bytes = whole (byte_field bytes)

abbrev pub number_at : Width → List ℕ → Read ℕ
number_at w bytes = whole (number_field w bytes)

abbrev pub text_at : ℕ → List ℕ → Read (List ℕ)
text_at count bytes = whole (bytes_field count bytes)

-- the letters, where a beginning of them that the bytes end within breaks at the end
abbrev pub letters_at : List ℕ → List ℕ → Result (List ℕ) ℕ
letters_at letters bytes = if starts_with nat_eq bytes letters then Ok (drop (length letters) bytes) else (if starts_with nat_eq letters bytes then Err 0 else Err (length bytes))

abbrev pub path_length_at : List ℕ → Read ℕ
path_length_at bytes = number_at w16 bytes >>= λ n. if is_path_length n.0 then Ok n else Err (length bytes)

-- the bytes of a path, behind a last one
abbrev pub path_bytes_at : List ℕ → ℕ → List ℕ → Read (List ℕ)
path_bytes_at last count bytes = text_at count bytes >>= λ p. if follows last p.0 then Ok p else Err (length bytes)

abbrev pub path_at : List ℕ → List ℕ → Read (List ℕ)
path_at last bytes = path_length_at bytes >>= λ n. path_bytes_at last n.0 n.1

abbrev pub content_at : List ℕ → Read (List ℕ)
content_at bytes = number_at w64 bytes >>= λ n. text_at n.0 n.1

abbrev pub entry_at : List ℕ → List ℕ → Read Entry
entry_at last bytes = path_at last bytes >>= λ p. number_at w64 p.1 >>= λ t. content_at t.1 >>= λ c. Ok (record { path = p.0; time = t.0; content = c.0 }, c.1)

-- the end, behind its byte: nothing follows it
abbrev pub end_at : List ℕ → Read (Option Item)
end_at bytes = if length bytes == 0 then Ok (None, bytes) else Err (length bytes)

abbrev pub taken_at : List ℕ → List ℕ → Read (Option Item)
taken_at last bytes = entry_at last bytes >>= λ e. Ok (Some (Taken e.0), e.1)

abbrev pub kept_at : List ℕ → List ℕ → Read (Option Item)
kept_at last bytes = path_at last bytes >>= λ p. Ok (Some (Kept p.0), p.1)

-- what stands behind the tag
abbrev pub tagged_at : Format → List ℕ → ℕ → ℕ → List ℕ → Read (Option Item)
tagged_at f last all tag rest = if tag == 0 then end_at rest else (if tag == 1 then taken_at last rest else (if tag == 2 && keeps f then kept_at last rest else Err all))

-- an item, or the end, behind an item with a last path
abbrev pub item_at : Format → List ℕ → List ℕ → Read (Option Item)
item_at f last bytes = byte_at bytes >>= λ tag. tagged_at f last (length bytes) tag.0 tag.1

-- what was read is what stands there, unless memory ran out
abbrev pub IsRead : {A : Type 0} → Result A FieldFault → Read A → List ℕ → Type 0
IsRead (Ok value) read rest = read ≡ Ok (value, rest)
IsRead (Err (Broken left)) read rest = read ≡ Err left
IsRead (Err NoMemory) read rest = Unit {0}

-- the bytes behind a field that has no value
abbrev pub IsAfter : {A : Type 0} → Result A FieldFault → Result (List ℕ) ℕ → List ℕ → Type 0
IsAfter (Ok _) read rest = read ≡ Ok rest
IsAfter (Err (Broken left)) read rest = read ≡ Err left
IsAfter (Err NoMemory) read rest = Unit {0}
