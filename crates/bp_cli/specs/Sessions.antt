-- A session: each request of its text is answered in turn, with a framed reply. What is said of the vault, the source and the clock is said of those that tell; all else holds over any.
use Rattle.std.specs.Prelude.{◌≡◌, ◌⊎◌, ℕ, Bool, true, false, ◌||◌, ◌==◌, if◌then◌else◌, List, [], ◌∷◌, ◌++◌, length, Some, None, Result, Ok, Err}
use Rattle.std.specs.Fmt.{decimal}
use Rattle.site_types.specs.Answers.{number_of, text_of}
use Rattle.site_types.specs.Requests.{takes_payload}
use Rattle.site_types.specs.declared.answer.Answer.{Answer}
use Rattle.site_types.specs.declared.answer.Answer.TheVariants.{OutOfMemory, BadRequest, DiskFault, ReadFault, ClockFault}
use Rattle.vault_disk.specs.Disk.{Disk}
use Rattle.vault_disk.specs.Steps.{Rose}
use Rattle.vault_disk.specs.Input.{Input}
use Rattle.vault_disk.specs.Ticks.{Ticks}
use Rattle.session_text.specs.Turns.{Turn, request, broken, whole_turn, turns}
use Rattle.desk_model.specs.State.{State}
use Rattle.desk_model.specs.Replay.{Entry}
use Rattle.vault_ledger.specs.Ledger.{stands}
use Rattle.site_desk.specs.Stands.{Standing}
use Rattle.bp_cli.specs.Words.{is_moment, timed_request}
use Rattle.bp_cli.specs.Gather.{IsNamed, IsUnasked, IsUntouched}
use Rattle.bp_cli.specs.Runs.{Outcome, refused, carried, said, AreModels, Replied, Leaves, Stops, Opening, Sent, RepliesTo}
use Rattle.bp_cli.specs.Singles.{IsOf, IsUnopened}
use Rattle.bp_cli.specs.declared.turn.Turned.{Turned}
use Rattle.bp_cli.specs.declared.turn.Turned.TheVariants.{On, Over, Closed}
use Rattle.bp_cli.specs.declared.words.TimedRequest.{TimedRequest}

-- a reply with its frame: the answer's number, a space, the length of its text, a line feed, and the text
abbrev pub frame : ℕ → List ℕ → List ℕ
frame number text = decimal number ++ 32 ∷ (decimal (length text) ++ 10 ∷ text)

abbrev pub framed : Answer → List ℕ
framed a = frame (number_of a) (text_of a)

-- what a request of a session asks for, or the index of its bad word: a payload for a form that takes none is a bad word too, the last one
abbrev pub is_none_given : List ℕ → Bool
is_none_given [] = true
is_none_given (b ∷ bs) = false

abbrev pub with_payload : Result TimedRequest ℕ → List ℕ → ℕ → Result TimedRequest ℕ
with_payload (Ok asked) payload count = if takes_payload asked.request || is_none_given payload then Ok asked else Err count
with_payload (Err index) payload count = Err index

abbrev pub turn_request : List (List ℕ) → List ℕ → Result TimedRequest ℕ
turn_request words payload = with_payload (timed_request words) payload (length words)

-- a request was carried out as its words ask, with its own payload
pub record IsCarriedOut (words : List (List ℕ)) (payload : List ℕ) (e : Entry) (a : Answer) : Type 0 where
  pub asked : TimedRequest
  pub words_ask : turn_request words payload ≡ Ok asked
  pub of : IsOf asked e a
  pub payload_is : e.payload ≡ payload
  pub moment_is : IsNamed asked.moment e.moment

-- its words are good, and name no moment
pub record WantsMoment (words : List (List ℕ)) (payload : List ℕ) : Type 0 where
  pub asked : TimedRequest
  pub words_ask : turn_request words payload ≡ Ok asked
  pub unnamed : asked.moment ≡ None

-- How a request is answered. It was refused for want of memory where none was left for the text of a bad word; a request that found no memory was carried out so.
abbrev pub IsAnswerTo : List (List ℕ) → List ℕ → Outcome → Type 0
IsAnswerTo words payload (refused OutOfMemory) = (index : ℕ) × (turn_request words payload ≡ Err index)
IsAnswerTo words payload (refused (BadRequest index)) = turn_request words payload ≡ Err index
IsAnswerTo words payload (refused ClockFault) = WantsMoment words payload
IsAnswerTo words payload (refused _) = ⊥
IsAnswerTo words payload (carried e a) = IsCarriedOut words payload e a

-- each turn has its answer
abbrev pub Answering : List Turn → List Outcome → Type 0
Answering [] [] = Unit {0}
Answering [] (o ∷ os) = ⊥
Answering (t ∷ ts) [] = ⊥
Answering (request words payload ∷ ts) (o ∷ os) = IsAnswerTo words payload o × Answering ts os
Answering (broken index ∷ ts) (o ∷ os) = ((o ≡ refused (BadRequest index)) ⊎ (o ≡ refused OutOfMemory)) × Answering ts os

-- the moments that were taken from the clock: of requests that were carried out and name none
abbrev pub names_moment : List (List ℕ) → Bool
names_moment [] = false
names_moment (word ∷ words) = is_moment word

abbrev pub moment_taken : List (List ℕ) → Outcome → List ℕ
moment_taken words (refused a) = []
moment_taken words (carried e a) = if names_moment words then [] else e.moment ∷ []

abbrev pub moments_taken : List Turn → List Outcome → List ℕ
moments_taken (request words payload ∷ ts) (o ∷ os) = moment_taken words o ++ moments_taken ts os
moments_taken (broken index ∷ ts) (o ∷ os) = moments_taken ts os
moments_taken _ _ = []

-- What ends a session and is no answer to a turn: memory that was refused while a request was read; or a read that failed, where what the source gave holds no whole turn more.
abbrev pub IsClosing : Input → Input → List ℕ → List Outcome → Type 0
IsClosing input input' behind [] = Unit {0}
IsClosing input input' behind (refused OutOfMemory ∷ []) = Unit {0}
IsClosing input input' behind (refused ReadFault ∷ []) = input.tells → (held : List ℕ) × (behind ≡ held ++ input'.left) × (whole_turn held ≡ None)
IsClosing input input' behind _ = ⊥

-- a fault of the disk, the source or the clock ends a session
abbrev pub is_over : ℕ → Bool
is_over number = number == 18 || number == 19 || number == 21

-- a session goes on behind each of these, and behind each but the last of these
abbrev pub AllGoOn : List Outcome → Type 0
AllGoOn [] = Unit {0}
AllGoOn (o ∷ os) = (is_over (number_of (said o)) ≡ false) × AllGoOn os

abbrev pub GoesOn : List Outcome → Type 0
GoesOn [] = Unit {0}
GoesOn (o ∷ []) = Unit {0}
GoesOn (o ∷ p ∷ os) = (is_over (number_of (said o)) ≡ false) × GoesOn (p ∷ os)

-- the last of these turns is a fault in the framing
abbrev pub ends_broken : List Turn → Bool
ends_broken [] = false
ends_broken (request words payload ∷ []) = false
ends_broken (broken index ∷ []) = true
ends_broken (t ∷ u ∷ ts) = ends_broken (u ∷ ts)

-- the number of the last answer
abbrev pub last_number : List Outcome → ℕ
last_number [] = 0
last_number (o ∷ []) = number_of (said o)
last_number (o ∷ p ∷ os) = last_number (p ∷ os)

-- The number with which a session ends: that of what closed it; else that of its last answer, where this is a fault's or one to a fault in the framing; else 0. So a session goes on
-- behind a request that found no memory, and is over behind one that found none while it was read.
abbrev pub end_number : List Turn → List Outcome → List Outcome → ℕ
end_number ts os (o ∷ closing) = last_number (o ∷ closing)
end_number ts os [] = if ends_broken ts || is_over (last_number os) then last_number os else 0

-- What came of a session on an open vault: the turns that were answered, their outcomes, and what closed it. No answer but the last is a fault's, and with the status 0 the text was read
-- to its end and all its turns were answered.
pub record Serves (disk disk' : Disk) (input input' : Input) (ticks ticks' : Ticks) (status : ℕ) : Type 0 where
  pub answered : List Turn
  pub behind : List ℕ
  pub outcomes : List Outcome
  pub closing : List Outcome
  pub text : input.tells → turns input.left ≡ answered ++ turns behind
  pub each : Answering answered outcomes
  pub moments : ticks.tells → ticks'.gave ≡ ticks.gave ++ moments_taken answered outcomes
  pub closing_is : IsClosing input input' behind closing
  pub goes_on : GoesOn (outcomes ++ closing)
  pub whole : status ≡ 0 → input.tells → (behind ≡ []) × (input'.left ≡ [])
  pub replied : Replied framed (outcomes ++ closing) (end_number answered outcomes closing) disk disk' input input' ticks ticks' status

-- a session on an open desk with this state: where the vault stands for it, each answer is the model's
pub record ServesOn (s : State) (disk disk' : Disk) (input input' : Input) (ticks ticks' : Ticks) (status : ℕ) : Type 0 where
  pub serves : Serves disk disk' input input' ticks ticks' status
  pub models : disk.tells → Standing disk s → AreModels s serves.outcomes
  pub leaves : disk.tells → Standing disk s → Leaves framed s disk disk' (serves.outcomes ++ serves.closing)

-- a session whose vault was opened: where that stands for the state that it reads as, each answer is the model's
pub record ServesVault (disk disk' : Disk) (input input' : Input) (ticks ticks' : Ticks) (status : ℕ) : Type 0 where
  pub opening : Opening disk.tells disk.seen
  pub serves : Serves disk disk' input input' ticks ticks' status
  pub models : disk.tells → stands disk.seen ≡ Some opening.state → AreModels opening.state serves.outcomes
  pub stops : Stops framed disk disk' (serves.outcomes ++ serves.closing)

-- one whose vault wasn't: one answer is sent, nothing is read, and the clock isn't asked
pub record RefusesVault (disk disk' : Disk) (input input' : Input) (ticks ticks' : Ticks) (status : ℕ) : Type 0 where
  pub answer : Answer
  pub is : IsUnopened disk.tells disk.seen answer
  pub untouched : IsUntouched input input' ticks ticks'
  pub replied : Replied framed (refused answer ∷ []) (number_of answer) disk disk' input input' ticks ticks' status
  pub stops : Stops framed disk disk' (refused answer ∷ [])

abbrev pub RanSession : Disk → Disk → Input → Input → Ticks → Ticks → ℕ → Type 0
RanSession disk disk' input input' ticks ticks' status = ServesVault disk disk' input input' ticks ticks' status ⊎ RefusesVault disk disk' input input' ticks ticks' status

-- A turn of a session and its cause, without a clock's fault that has none.
pub record IsTaken (words : List (List ℕ)) (payload : List ℕ) (disk disk' : Disk) (ticks ticks' : Ticks) (o : Outcome) : Type 0 where
  pub answer_to : IsAnswerTo words payload o
  pub moment : ticks.tells → ticks'.gave ≡ ticks.gave ++ moment_taken words o
  pub disk_fault : said o ≡ DiskFault → Rose disk.faults disk'.faults
  pub clock_fault : said o ≡ ClockFault → Rose ticks.faults ticks'.faults

-- whether an answered turn ends its session
abbrev pub is_last : ℕ → Bool
is_last status = is_over status || status == 20

-- A request of a session was answered, and the session goes on or is over, with the status of the reply; or no memory was left for reading it, the clock isn't asked, and that is
-- answered.
abbrev pub IsTurned : List (List ℕ) → List ℕ → State → State → Disk → Disk → Ticks → Ticks → Turned → Type 0
IsTurned words payload s s' disk disk' ticks ticks' On = (status : ℕ) × RepliesTo (IsTaken words payload disk disk' ticks ticks') framed s s' disk disk' status × (is_last status ≡ false)
IsTurned words payload s s' disk disk' ticks ticks' (Over status) = RepliesTo (IsTaken words payload disk disk' ticks ticks') framed s s' disk disk' status × (is_last status ≡ true)
IsTurned words payload s s' disk disk' ticks ticks' (Closed status) = Sent framed OutOfMemory disk disk' status × IsUnasked ticks ticks'

-- how a session goes on behind an answer that was sent with this status
abbrev pub behind_reply : ℕ → Turned
behind_reply status = if is_last status then Over status else On

-- the status of a session behind its last request
abbrev pub last_status : Turned → ℕ
last_status On = 0
last_status (Over status) = status
last_status (Closed status) = status
