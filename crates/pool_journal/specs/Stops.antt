-- What the calls of a journal leave on the disk, and what a stop in them does.
use Rattle.std.specs.Prelude.{◌≡◌, ◌≢◌, ◌⊎◌, ℕ, ◌≤◌, ◌<◌, ◌^◌, List, [], ◌∷◌, ◌++◌, length, Option, Some, None, Result, OnOk}
use Rattle.vault_disk.specs.Disk.{Disk, Image, During}
use Rattle.vault_disk.specs.Steps.{IsDurable}
use Rattle.pool_journal.specs.Entries.{Entry}
use Rattle.pool_journal.specs.Records.{Found, Reading, found, broken, foreign, reading, placed, Holds, Placed}
use Rattle.pool_journal.specs.declared.fault.JournalFault.{JournalFault}
use Rattle.pool_journal.specs.declared.fault.JournalFault.TheVariants.{NoMemory, DiskFault, NotAVault}

-- file 0 is a journal of these records, all of it on the disk
pub record AtRest (disk : Disk) (end : ℕ) (fs : List Found) : Type 0 where
  pub holds : Holds (disk.seen 0) fs end
  pub reads : reading (disk.seen 0) ≡ found fs
  pub durable : IsDurable 0 disk
  pub short : end < 2 ^ 63

-- the records of a journal with one more behind them
abbrev pub with_one : List Found → ℕ → Entry → List Found
with_one fs end e = fs ++ record { at = end; is = e } ∷ []

-- the journal's records, with one more or without it
abbrev pub IsBeforeOrAfter : List Found → ℕ → Entry → List ℕ → Type 0
IsBeforeOrAfter fs end e bytes = (reading bytes ≡ found fs) ⊎ (reading bytes ≡ found (with_one fs end e))

-- an image that a stop could leave before, but for file 0, of which P holds
pub record FromBefore (old : Disk) (P : List ℕ → Type 0) (c : Image) : Type 0 where
  pub from : Image
  pub left : old.may_leave from
  pub others : (g : ℕ) → g ≢ 0 → c g ≡ from g
  pub inside : P (c 0)

-- what a stop in an append leaves
abbrev pub Appending : List Found → ℕ → Entry → Disk → Image → List ℕ → Type 0
Appending fs end e old c b = FromBefore old (IsBeforeOrAfter fs end e) c × (b ≡ old.sent)

-- a record was added to a journal of these
pub record Appended (fs : List Found) (at : ℕ) (e : Entry) (old new : Disk) (end : ℕ) : Type 0 where
  pub rest : AtRest new end (with_one fs at e)
  pub others : (g : ℕ) → g ≢ 0 → new.seen g ≡ old.seen g

-- each stop in an append, and each after it, leaves the records with the new one or without
pub record Stops (fs : List Found) (at : ℕ) (e : Entry) (old new : Disk) : Type 0 where
  pub left : (c : Image) → new.may_leave c → FromBefore old (IsBeforeOrAfter fs at e) c
  pub during : During old new (Appending fs at e old)

-- file 0 reads the same, and the others are as a stop could leave them before
abbrev pub SameReading : Disk → Image → Type 0
SameReading old c = FromBefore old (λ bytes. reading bytes ≡ reading (old.seen 0)) c

-- a stop leaves such images alone, now and before
pub record Leaves (Left : Image → Type 0) (old new : Disk) : Type 0 where
  pub left : (c : Image) → new.may_leave c → Left c
  pub during : During old new (λ c b. Left c × (b ≡ old.sent))

-- from a moment on a stop leaves such images alone, and until then what it could leave before
pub record LeavesFrom (Then : Image → Type 0) (old new : Disk) : Type 0 where
  pub leaves : Leaves (λ c. old.may_leave c ⊎ Then c) old new
  pub since : ℕ
  pub within : since ≤ new.moment
  pub from_then : (c : Image) (b : List ℕ) → new.left_since since c b → Then c × (b ≡ old.sent)

-- what a stop in an opening leaves: what it could leave before, until the first sync of file 0 has succeeded
abbrev pub OpensTo : (Image → Type 0) → Disk → Disk → Type 0
OpensTo Then old new = Leaves old.may_leave old new ⊎ LeavesFrom Then old new

abbrev pub OpenStops : Disk → Disk → Type 0
OpenStops old new = OpensTo (SameReading old) old new

-- an opening found what is read of the journal: all of it, at rest, or its records before one that is broken
abbrev pub IsOpened : Reading → Disk → ℕ → List Placed → Option ℕ → Type 0
IsOpened (found fs) disk end entries None = (entries ≡ placed fs) × AtRest disk end fs
IsOpened (found fs) disk end entries (Some at) = ⊥
IsOpened (broken fs at) disk end entries bad = (entries ≡ placed fs) × (bad ≡ Some at)
IsOpened (foreign at) disk end entries bad = ⊥

-- a new journal was begun, and each stop left at most the 17 bytes of one
pub record Begins {T E : Type 0} (old new : Disk) (result : Result T E) : Type 0 where
  pub done : OnOk result (AtRest new 16 [])
  pub left : (c : Image) → new.may_leave c → FromBefore old (λ bytes. length bytes ≤ 17) c
  pub during : During old new (λ c b. FromBefore old (λ bytes. length bytes ≤ 17) c × (b ≡ old.sent))

-- the offset of a wrong header, where the fault is one; an opening without a fault of the disk or of memory has no other
abbrev pub IsForeign : Reading → JournalFault → Type 0
IsForeign r NoMemory = Unit {0}
IsForeign r DiskFault = Unit {0}
IsForeign r (NotAVault offset) = r ≡ foreign offset

-- the faults of an append
abbrev pub IsOfAppend : JournalFault → Type 0
IsOfAppend NoMemory = Unit {0}
IsOfAppend DiskFault = Unit {0}
IsOfAppend (NotAVault offset) = ⊥
