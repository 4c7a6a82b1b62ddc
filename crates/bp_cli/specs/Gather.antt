-- What a request is given: its payload, and the moment at which it is carried out.
use Rattle.std.specs.Prelude.{◌≡◌, ℕ, ◌+◌, ◌≤◌, ◌<◌, Bool, true, false, List, [], ◌∷◌, ◌++◌, length, codes, Option, Some, None}
use Rattle.site_types.specs.declared.answer.Answer.{Answer}
use Rattle.site_types.specs.declared.answer.Answer.TheVariants.{OutOfMemory, TooMany, ReadFault, ClockFault}
use Rattle.vault_disk.specs.Input.{Input}
use Rattle.vault_disk.specs.Ticks.{Ticks}
use Rattle.vault_disk.specs.Steps.{Rose}
use Rattle.site_types.specs.Limits.{last_moment, payload_limit}
use Rattle.bp_cli.specs.declared.gather.Inputs.{Inputs}

-- a source that isn't read has left what it had, may still give as much, and has failed no more often
pub record IsUnread (old new : Input) : Type 0 where
  pub left : new.left ≡ old.left
  pub budget : new.budget ≡ old.budget
  pub faults : new.faults ≡ old.faults

-- a clock that isn't asked gave no moment more, and has failed no more often
pub record IsUnasked (old new : Ticks) : Type 0 where
  pub gave : new.gave ≡ old.gave
  pub faults : new.faults ≡ old.faults

pub record IsUntouched (input input' : Input) (ticks ticks' : Ticks) : Type 0 where
  pub source : IsUnread input input'
  pub clock : IsUnasked ticks ticks'

-- the payload is all that was left
pub record IsPayload (payload : List ℕ) (old new : Input) : Type 0 where
  pub whole : old.tells → payload ≡ old.left
  pub taken : old.tells → new.left ≡ []

-- what a request is given that takes a payload, and what one that takes none, for which the source isn't read
abbrev pub IsGiven : Bool → List ℕ → Input → Input → Type 0
IsGiven true payload old new = IsPayload payload old new
IsGiven false payload old new = (payload ≡ []) × IsUnread old new

-- the moment is the one that the words name, where they name one
abbrev pub IsNamed : Option ℕ → ℕ → Type 0
IsNamed (Some named) moment = moment ≡ named
IsNamed None moment = Unit {0}

-- the moment is the one that the words name, and the clock isn't asked; or else it is one that the clock gave
abbrev pub IsMoment : Option ℕ → ℕ → Ticks → Ticks → Type 0
IsMoment (Some named) moment old new = (moment ≡ named) × IsUnasked old new
IsMoment None moment old new = old.tells → new.gave ≡ old.gave ++ moment ∷ []

-- the words name no moment, and the clock failed to give one
pub record IsUntimed (named : Option ℕ) (old new : Ticks) : Type 0 where
  pub unnamed : named ≡ None
  pub rose : Rose old.faults new.faults
  pub kept : old.tells → new.gave ≡ old.gave

abbrev pub IsLimited : Option ℕ → Type 0
IsLimited (Some moment) = moment ≤ last_moment
IsLimited None = Unit {0}

-- the request takes a payload, and more is left than a payload may have
pub record IsTooLong (takes : Bool) (kind : List ℕ) (count limit : ℕ) (old : Input) : Type 0 where
  pub takes_it : takes ≡ true
  pub kind_is : kind ≡ codes "bytes"
  pub count_is : count ≡ payload_limit + 1
  pub limit_is : limit ≡ payload_limit
  pub left : old.tells → payload_limit < length old.left

abbrev pub IsTooLongOr : Answer → Type 0
IsTooLongOr OutOfMemory = Unit {0}
IsTooLongOr (TooMany kind count limit) = (kind ≡ codes "bytes") × (count ≡ payload_limit + 1) × (limit ≡ payload_limit)
IsTooLongOr _ = ⊥

-- why nothing was gathered: first the payload is taken, and then the clock is asked
abbrev pub IsUngathered : Bool → Option ℕ → Input → Input → Ticks → Ticks → Answer → Type 0
IsUngathered takes named input input' ticks ticks' OutOfMemory = (takes ≡ true) × IsUnasked ticks ticks'
IsUngathered takes named input input' ticks ticks' ReadFault = (takes ≡ true) × Rose input.faults input'.faults × IsUnasked ticks ticks'
IsUngathered takes named input input' ticks ticks' (TooMany kind count limit) = IsTooLong takes kind count limit input × IsUnasked ticks ticks'
IsUngathered takes named input input' ticks ticks' ClockFault = ((payload : List ℕ) × IsGiven takes payload input input') × IsUntimed named ticks ticks'
IsUngathered takes named input input' ticks ticks' _ = ⊥

pub record Gathers (takes : Bool) (named : Option ℕ) (input input' : Input) (ticks ticks' : Ticks) (g : Inputs) : Type 0 where
  pub payload : IsGiven takes g.payload input input'
  pub short : length g.payload ≤ payload_limit
  pub moment : IsMoment named g.moment ticks ticks'
  pub limit : g.moment ≤ last_moment
