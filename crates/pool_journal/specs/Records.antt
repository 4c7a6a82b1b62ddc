-- A journal: a header, and records behind gates. A record counts while each gate so far is open.
use Rattle.std.specs.Prelude.{◌≡◌, ◌≢◌, ℕ, suc, zero, ◌+◌, ◌<◌, ◌^◌, nat_eq, nat_lt, nat_le, ◌==◌, if◌then◌else◌, List, [], ◌∷◌, ◌++◌, length, take, drop, map, codes, Option, Some, None}
use Rattle.std.specs.List.{starts_with, common_prefix_len}
use Rattle.std.specs.Int.{w32, to_be_bytes, from_be_bytes}
use Rattle.pool_journal.specs.Entries.{Entry, entry_of}
pub use Rattle.pool_journal.specs.declared.records.Placed.{Placed}

abbrev pub header : List ℕ
header = codes "NBDESK VAULT 001"

-- a record that was read: the offset of its gate, and its entry
pub record Found : Type 0 where
  pub at : ℕ
  pub is : Entry

-- what a journal's bytes are read as: its records; its records before one at this offset that is broken; or no journal at all, since it differs from the header at this offset
pub data Reading : Type 0 where
  found : List Found → Reading
  broken : List Found → ℕ → Reading
  foreign : ℕ → Reading

abbrev pub behind : Found → Reading → Reading
behind f (found fs) = found (f ∷ fs)
behind f (broken fs at) = broken (f ∷ fs) at
behind f (foreign at) = foreign at

abbrev pub with_record : ℕ → Option Entry → Reading → Reading
with_record at None next = broken [] at
with_record at (Some e) next = behind (record { at = at; is = e }) next

-- from a gate at this offset on; a record is broken where it or the byte of its next gate isn't all there, or its body spells none
abbrev pub records : ℕ → ℕ → List ℕ → Reading
records zero at bytes = broken [] at
records (suc n) at [] = broken [] at
records (suc n) at (gate ∷ rest) =
    if gate == 165
    then (if nat_lt (4 + from_be_bytes w32 (take 4 rest)) (length rest)
    then with_record at (entry_of (take (from_be_bytes w32 (take 4 rest)) (drop 4 rest))) (records n (at + 5 + from_be_bytes w32 (take 4 rest)) (drop (4 + from_be_bytes w32 (take 4 rest)) rest))
    else broken [] at)
    else found []

-- at most 17 bytes are a new journal, whatever they are
abbrev pub reading : List ℕ → Reading
reading bytes = if nat_le (length bytes) 17 then found [] else (if starts_with nat_eq bytes header then records (length bytes) 16 (drop 16 bytes) else foreign (common_prefix_len nat_eq bytes header))

-- what an opening hands on of the records that were read
abbrev pub placed_of : Found → Placed
placed_of f = record { at = f.at; entry = f.is }

abbrev pub placed : List Found → List Placed
placed fs = map placed_of fs

-- the records of these bodies, their gates open
abbrev pub spelled : List (List ℕ) → List ℕ
spelled [] = []
spelled (body ∷ bodies) = 165 ∷ to_be_bytes w32 (length body) ++ body ++ spelled bodies

abbrev pub AllSmall : List (List ℕ) → Type 0
AllSmall [] = Unit {0}
AllSmall (body ∷ bodies) = (length body < 2 ^ 32) × AllSmall bodies

-- these bodies, the first behind a gate at this offset, spell these records
abbrev pub Spell : ℕ → List (List ℕ) → List Found → Type 0
Spell at [] [] = Unit {0}
Spell at [] (f ∷ fs) = ⊥
Spell at (body ∷ bodies) [] = ⊥
Spell at (body ∷ bodies) (f ∷ fs) = (f.at ≡ at) × (entry_of body ≡ Some f.is) × Spell (at + 5 + length body) bodies fs

-- these bytes are a journal of these records and a closed gate at this offset, with anything behind it
pub record Holds (bytes : List ℕ) (fs : List Found) (end : ℕ) : Type 0 where
  pub bodies : List (List ℕ)
  pub gate : ℕ
  pub tail : List ℕ
  pub shut : gate ≢ 165
  pub is : bytes ≡ header ++ spelled bodies ++ gate ∷ tail
  pub small : AllSmall bodies
  pub spell : Spell 16 bodies fs
  pub end_is : end ≡ 16 + length (spelled bodies)

-- what was read of these bytes is told: all records and the offset of the closed gate, or those before a broken one and its offset
abbrev pub IsToldOf : List ℕ → Reading → List Placed → ℕ → Option ℕ → Type 0
IsToldOf bytes (found fs) entries end None = (entries ≡ placed fs) × Holds bytes fs end
IsToldOf bytes (found fs) entries end (Some at) = ⊥
IsToldOf bytes (broken fs at) entries end bad = (entries ≡ placed fs) × (bad ≡ Some at)
IsToldOf bytes (foreign at) entries end bad = ⊥
