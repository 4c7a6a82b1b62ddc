-- A single request: what was asked, and why it is answered so. What is said of the vault, the source and the clock is said of those that tell; all else holds over any.
use Rattle.std.specs.Prelude.{◌≡◌, ◌⊎◌, ℕ, ◌≤◌, true, List, [], ◌∷◌, length, Some, Ok, Err}
use Rattle.site_types.specs.Answers.{number_of, text_of}
use Rattle.site_types.specs.Limits.{payload_limit}
use Rattle.site_types.specs.Requests.{takes_payload}
use Rattle.site_types.specs.declared.answer.Answer.{Answer}
use Rattle.site_types.specs.declared.answer.Answer.TheVariants.{OutOfMemory, BadRequest, DiskFault, NotAVault}
use Rattle.vault_disk.specs.Disk.{Disk, Image}
use Rattle.vault_disk.specs.Steps.{Rests}
use Rattle.vault_disk.specs.Input.{Input}
use Rattle.vault_disk.specs.Ticks.{Ticks}
use Rattle.desk_model.specs.Replay.{Entry}
use Rattle.vault_ledger.specs.Ledger.{stands}
use Rattle.desk_index.specs.Answers.{IsOfRequest}
use Rattle.site_desk.specs.Stands.{opened}
use Rattle.bp_cli.specs.Words.{timed_request}
use Rattle.bp_cli.specs.Gather.{IsUnread, IsUnasked, IsUntouched, IsGiven, IsMoment, IsUngathered}
use Rattle.bp_cli.specs.Runs.{Outcome, refused, carried, said, IsModels, HasRisen, Replied, Stops, Opening}
use Rattle.bp_cli.specs.declared.words.TimedRequest.{TimedRequest}

-- what was carried out is the request that was asked for, and is answered as such a request may be: a bad request is a payload alone that is no site file
pub record IsOf (asked : TimedRequest) (e : Entry) (a : Answer) : Type 0 where
  pub request : e.request ≡ asked.request
  pub kind : IsOfRequest e.request e.payload a

-- Its payload is the whole of the source and within its limit, or none where it takes none, and it is carried out at the moment that the words name, or else at one that the clock gave.
pub record IsGathered (asked : TimedRequest) (input input' : Input) (ticks ticks' : Ticks) (e : Entry) (a : Answer) : Type 0 where
  pub of : IsOf asked e a
  pub payload : IsGiven (takes_payload asked.request) e.payload input input'
  pub short : length e.payload ≤ payload_limit
  pub moment : IsMoment asked.moment e.moment ticks ticks'

-- what came of a request on an open vault
abbrev pub IsExecuted : TimedRequest → Input → Input → Ticks → Ticks → Outcome → Type 0
IsExecuted asked input input' ticks ticks' (refused a) = IsUngathered (takes_payload asked.request) asked.moment input input' ticks ticks' a
IsExecuted asked input input' ticks ticks' (carried e a) = IsGathered asked input input' ticks ticks' e a

-- the words ask for something
pub record Asks (words : List (List ℕ)) : Type 0 where
  pub asked : TimedRequest
  pub words_ask : timed_request words ≡ Ok asked

-- they ask for a request that takes a payload
pub record AsksPayload (words : List (List ℕ)) : Type 0 where
  pub asks : Asks words
  pub takes : takes_payload asks.asked.request ≡ true

-- an opening is refused: the vault is none, with the offset at which its journal makes no state, or for want of memory or by a fault of the disk
abbrev pub IsUnopened : Type 0 → Image → Answer → Type 0
IsUnopened tells seen OutOfMemory = Unit {0}
IsUnopened tells seen DiskFault = Unit {0}
IsUnopened tells seen (NotAVault offset) = tells → opened seen ≡ Err offset
IsUnopened tells seen _ = ⊥

-- the words ask for a request, and the vault is open; where it stands for the state that it reads as, the answer is the model's
pub record IsHeard (words : List (List ℕ)) (tells : Type 0) (seen : Image) (input input' : Input) (ticks ticks' : Ticks) (o : Outcome) : Type 0 where
  pub asks : Asks words
  pub opening : Opening tells seen
  pub executed : IsExecuted asks.asked input input' ticks ticks' o
  pub models : tells → stands seen ≡ Some opening.state → IsModels opening.state o

-- Why the words are answered so. Behind bad words and a refused opening nothing is read, and the clock isn't asked. It isn't asked either where no memory was left, and then the source
-- was read for a request alone that takes a payload.
abbrev pub IsAsked : List (List ℕ) → Type 0 → Image → Input → Input → Ticks → Ticks → Outcome → Type 0
IsAsked words tells seen input input' ticks ticks' (refused OutOfMemory) = (IsUnread input input' ⊎ AsksPayload words) × IsUnasked ticks ticks'
IsAsked words tells seen input input' ticks ticks' (refused (BadRequest index)) = (timed_request words ≡ Err index) × IsUntouched input input' ticks ticks'
IsAsked words tells seen input input' ticks ticks' (refused DiskFault) = Asks words × IsUntouched input input' ticks ticks'
IsAsked words tells seen input input' ticks ticks' (refused (NotAVault offset)) = Asks words × IsUntouched input input' ticks ticks' × (tells → opened seen ≡ Err offset)
IsAsked words tells seen input input' ticks ticks' o = IsHeard words tells seen input input' ticks ticks' o

-- and each fault has its cause
abbrev pub IsAnswered : List (List ℕ) → Disk → Disk → Input → Input → Ticks → Ticks → Outcome → Type 0
IsAnswered words disk disk' input input' ticks ticks' o = IsAsked words disk.tells disk.seen input input' ticks ticks' o × HasRisen disk.faults disk'.faults input.faults input'.faults ticks.faults ticks'.faults (said o)

-- A run of a single request: one outcome, its text, and its number as the status.
pub record Ran (words : List (List ℕ)) (disk disk' : Disk) (input input' : Input) (ticks ticks' : Ticks) (status : ℕ) : Type 0 where
  pub outcome : Outcome
  pub asked : IsAsked words disk.tells disk.seen input input' ticks ticks' outcome
  pub replied : Replied text_of (outcome ∷ []) (number_of (said outcome)) disk disk' input input' ticks ticks' status
  pub stops : Stops text_of disk disk' (outcome ∷ [])

-- A run of words that begin with session and ask for nothing: the second word is bad, or no memory was left to say so. Nothing is read, and the vault stays as it was.
pub record RanBad (disk disk' : Disk) (input input' : Input) (ticks ticks' : Ticks) (status : ℕ) : Type 0 where
  pub answer : Answer
  pub is : (answer ≡ BadRequest 1) ⊎ (answer ≡ OutOfMemory)
  pub untouched : IsUntouched input input' ticks ticks'
  pub rests : disk.tells → Rests disk disk'
  pub replied : Replied text_of (refused answer ∷ []) (number_of answer) disk disk' input input' ticks ticks' status
  pub stops : Stops text_of disk disk' (refused answer ∷ [])
