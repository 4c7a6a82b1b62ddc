-- Taking a payload from a source.
use Rattle.std.specs.Prelude.{◌≡◌, ℕ, ◌<◌, ◌≤◌, Bool, true, List, [], length}
use Rattle.site_types.specs.Limits.{payload_limit}
use Rattle.vault_disk.specs.Input.{Input}
use Rattle.bp_cli.specs.Gather.{IsGiven}
use Rattle.bp_cli.specs.declared.payload.Taken.{Taken}
use Rattle.bp_cli.specs.declared.payload.Taken.TheVariants.{Whole, TooLong, Failed, NoMemory}

-- all that was left was taken, or it is more than a payload may have
abbrev pub IsTaken : List ℕ → Taken → List ℕ → Type 0
IsTaken left (Whole bytes) rest = (bytes ≡ left) × (rest ≡ [])
IsTaken left TooLong rest = payload_limit < length left
IsTaken left Failed rest = Unit {0}
IsTaken left NoMemory rest = Unit {0}

-- a payload that was taken isn't longer than it may be
abbrev pub IsShort : Taken → Type 0
IsShort (Whole bytes) = length bytes ≤ payload_limit
IsShort _ = Unit {0}

-- what was taken for a request that takes a payload, or for one that takes none
abbrev pub IsTakenFor : Bool → Input → Taken → Input → Type 0
IsTakenFor takes old (Whole bytes) new = IsGiven takes bytes old new
IsTakenFor takes old TooLong new = (takes ≡ true) × (old.tells → payload_limit < length old.left)
IsTakenFor takes old Failed new = takes ≡ true
IsTakenFor takes old NoMemory new = takes ≡ true
