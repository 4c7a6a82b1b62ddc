-- What came of requests: what was carried out and answered, what was sent, and what a stop leaves. A single request and a session share all of this.
use Rattle.std.specs.Prelude.{◌≡◌, ◌≢◌, ◌⊎◌, ℕ, List, [], ◌∷◌, ◌++◌, Some, Ok}
use Rattle.site_types.specs.Answers.{number_of, NeedsMemory}
use Rattle.site_types.specs.declared.answer.Answer.{Answer}
use Rattle.site_types.specs.declared.answer.Answer.TheVariants.{OutOfMemory, DiskFault, ReadFault, ClockFault, NotAVault}
use Rattle.vault_disk.specs.Disk.{Disk, Image, During}
use Rattle.vault_disk.specs.Steps.{Rests, Rose, SentPart}
use Rattle.vault_disk.specs.Input.{Input}
use Rattle.vault_disk.specs.Ticks.{Ticks}
use Rattle.pool_journal.specs.declared.fault.JournalFault.{JournalFault}
use Rattle.pool_journal.specs.declared.fault.JournalFault.TheVariants as journal
use Rattle.desk_model.specs.State.{State, durable}
use Rattle.desk_model.specs.Replay.{Mark, plain, memory, fault, Entry, stepped, answer_of, after}
use Rattle.vault_ledger.specs.Ledger.{stands}
use Rattle.site_desk.specs.Stands.{opened, Standing, StandsFor}

-- nothing was carried out, or one request with its payload at a moment; and this was answered
pub data Outcome : Type 0 where
  refused : Answer → Outcome
  carried : Entry → Answer → Outcome

abbrev pub said : Outcome → Answer
said (refused a) = a
said (carried e a) = a

-- the answer is the model's, from this state
abbrev pub IsModels : State → Outcome → Type 0
IsModels s (refused a) = Unit {0}
IsModels s (carried e a) = a ≡ answer_of s e

-- the state after each of these
abbrev pub after_outcome : State → Outcome → State
after_outcome s (refused a) = s
after_outcome s (carried e a) = after s e

abbrev pub state_after : State → List Outcome → State
state_after s [] = s
state_after s (o ∷ os) = state_after (after_outcome s o) os

-- each answer is the model's, from the state after those before
abbrev pub AreModels : State → List Outcome → Type 0
AreModels s [] = Unit {0}
AreModels s (o ∷ os) = IsModels s o × AreModels (after_outcome s o) os

-- the image stands for the state that a mark leaves; after a fault it may be the one before
abbrev pub EndsBy : State → Entry → Mark → Image → Type 0
EndsBy s e plain c = stands c ≡ Some (durable (stepped s e).1)
EndsBy s e memory c = stands c ≡ Some (durable s)
EndsBy s e fault c = StandsFor s (stepped s e).1 c

abbrev pub Ends : State → Outcome → Image → Type 0
Ends s (refused a) c = stands c ≡ Some (durable s)
Ends s (carried e a) c = EndsBy s e e.mark c

-- the image stands for the state after these; only the last may have met a fault
abbrev pub EndsAfter : State → List Outcome → Image → Type 0
EndsAfter s [] c = stands c ≡ Some (durable s)
EndsAfter s (o ∷ []) c = Ends s o c
EndsAfter s (o ∷ p ∷ os) c = EndsAfter (after_outcome s o) (p ∷ os) c

-- their replies, one behind the other: each is the text of the answer, or in a session that with its frame
abbrev pub replies : (Answer → List ℕ) → List Outcome → List ℕ
replies text [] = []
replies text (o ∷ os) = text (said o) ++ replies text os

-- a text was sent in whole, or with the status 20 a first part of it
pub record IsSent (text base sent : List ℕ) (status : ℕ) : Type 0 where
  pub part : SentPart base text sent
  pub whole : status ≢ 20 → sent ≡ base ++ text

-- the whole replies of all but the last were sent, and that of the last in whole, or with the status 20 in part
abbrev pub AreSent : (Answer → List ℕ) → List Outcome → List ℕ → List ℕ → ℕ → Type 0
AreSent text [] base sent status = sent ≡ base
AreSent text (o ∷ []) base sent status = IsSent (text (said o)) base sent status
AreSent text (o ∷ p ∷ os) base sent status = AreSent text (p ∷ os) (base ++ text (said o)) sent status

-- A stop leaves the state after the first of them, and at most the replies to these were sent.
pub record Covered (text : Answer → List ℕ) (s : State) (os : List Outcome) (base : List ℕ) (c : Image) (b : List ℕ) : Type 0 where
  pub done : List Outcome
  pub more : List Outcome
  pub split : os ≡ done ++ more
  pub ends : EndsAfter s done c
  pub sent : SentPart base (replies text done) b

-- a fault is answered only where a call of its object failed: the counts of the faults of the vault, the source and the clock before and after
abbrev pub HasRisen : ℕ → ℕ → ℕ → ℕ → ℕ → ℕ → Answer → Type 0
HasRisen disk disk' input input' ticks ticks' DiskFault = Rose disk disk'
HasRisen disk disk' input input' ticks ticks' ReadFault = Rose input input'
HasRisen disk disk' input input' ticks ticks' ClockFault = Rose ticks ticks'
HasRisen disk disk' input input' ticks ticks' _ = Unit {0}

-- the last of these answers, if there is one
abbrev pub IfLast : (Answer → Type 0) → List Outcome → Type 0
IfLast P [] = Unit {0}
IfLast P (o ∷ []) = P (said o)
IfLast P (o ∷ p ∷ os) = IfLast P (p ∷ os)

-- each image that a stop may leave now stands for the state in which these end, and each pair from one disk to the other is covered by them
pub record Leaves (text : Answer → List ℕ) (s : State) (disk disk' : Disk) (os : List Outcome) : Type 0 where
  pub now : (c : Image) → disk'.may_leave c → EndsAfter s os c
  pub during : During disk disk' (Covered text s os disk.sent)

-- the same of a whole run
pub record StopsFrom (text : Answer → List ℕ) (s : State) (disk disk' : Disk) (os : List Outcome) : Type 0 where
  pub found : opened disk.seen ≡ Ok s
  pub now : (c : Image) → disk'.may_leave c → EndsAfter s os c
  pub pairs : (c : Image) (b : List ℕ) → disk'.left_since disk.moment c b → Covered text s os disk.sent c b

-- On a vault that stands for a state when the run begins: each image that a stop may leave behind it stands for the state in which the outcomes end; and wherever the run stops, the
-- image stands for the state after the first of them, each of those of whose reply a byte was sent among them.
abbrev pub Stops : (Answer → List ℕ) → Disk → Disk → List Outcome → Type 0
Stops text disk disk' os = (s : State) → disk.tells → Standing disk s → StopsFrom text (durable s) disk disk' os

-- the number of an answer, or 20 where its send failed
abbrev pub IsStatus : ℕ → Disk → Disk → ℕ → Type 0
IsStatus number old new status = (status ≡ number) ⊎ ((status ≡ 20) × Rose old.send_faults new.send_faults)

-- These outcomes were answered, in texts of this form, and the run ended with the number, or with 20 where a send failed.
pub record Replied (text : Answer → List ℕ) (os : List Outcome) (number : ℕ) (disk disk' : Disk) (input input' : Input) (ticks ticks' : Ticks) (status : ℕ) : Type 0 where
  pub faults : IfLast (HasRisen disk.faults disk'.faults input.faults input'.faults ticks.faults ticks'.faults) os
  pub status_is : IsStatus number disk disk' status
  pub sent : disk.tells → AreSent text os disk.sent disk'.sent status

-- the vault is open: where it tells what it holds, it reads as this state
pub record Opening (tells : Type 0) (seen : Image) : Type 0 where
  pub state : State
  pub reads : tells → opened seen ≡ Ok state

-- what is answered where the vault can't be opened
abbrev pub refusal_of : JournalFault → Answer
refusal_of journal.NoMemory = OutOfMemory
refusal_of journal.DiskFault = DiskFault
refusal_of (journal.NotAVault offset) = NotAVault offset

-- what a request did on a vault, and nothing is sent yet
pub record Acts (s : State) (disk disk' : Disk) (o : Outcome) : Type 0 where
  pub now : (c : Image) → disk'.may_leave c → Ends s o c
  pub during : During disk disk' (λ c b. ((stands c ≡ Some (durable s)) ⊎ Ends s o c) × (b ≡ disk.sent))

-- A desk with this state answered a request, has that state afterwards, and sent nothing yet; and this is so of what came of it. On a vault that stands for the state the answer is the model's.
pub record Acted (Why : Outcome → Type 0) (s s' : State) (disk disk' : Disk) (a : Answer) : Type 0 where
  pub outcome : Outcome
  pub why : Why outcome
  pub is : said outcome ≡ a
  pub models : disk.tells → Standing disk s → IsModels s outcome
  pub moves : disk.tells → Standing disk s → a ≢ DiskFault → s' ≡ after_outcome s outcome
  pub acts : disk.tells → Standing disk s → Acts s disk disk' outcome

-- a text was sent, and reads of the vault give the same
pub record Delivers (text : List ℕ) (old new : Disk) (status : ℕ) : Type 0 where
  pub sent : IsSent text old.sent new.sent status
  pub rests : Rests old new
  pub during : During old new (λ c b. old.may_leave c × SentPart old.sent text b)

-- an answer was sent, or want of memory where none is left for its text
pub record Sent (text : Answer → List ℕ) (a : Answer) (old new : Disk) (status : ℕ) : Type 0 where
  pub answer : Answer
  pub is : (answer ≡ a) ⊎ ((answer ≡ OutOfMemory) × NeedsMemory a)
  pub status_is : IsStatus (number_of answer) old new status
  pub sends : old.tells → Delivers (text answer) old new status

-- before a request the disk stands for the state before it and nothing of its reply is sent; afterwards for the one in which it ends, and at most its reply is
abbrev pub CoversOne : (Answer → List ℕ) → State → Outcome → List ℕ → Image → List ℕ → Type 0
CoversOne text s o base c b = ((stands c ≡ Some (durable s)) × (b ≡ base)) ⊎ (Ends s o c × SentPart base (text (said o)) b)

pub record One (text : Answer → List ℕ) (s : State) (disk disk' : Disk) (o : Outcome) : Type 0 where
  pub now : (c : Image) → disk'.may_leave c → Ends s o c
  pub during : During disk disk' (CoversOne text s o disk.sent)

-- the same of a request whose reply was sent
pub record RepliesTo (Why : Outcome → Type 0) (text : Answer → List ℕ) (s s' : State) (disk disk' : Disk) (status : ℕ) : Type 0 where
  pub outcome : Outcome
  pub why : Why outcome
  pub models : disk.tells → Standing disk s → IsModels s outcome
  pub moves : disk.tells → Standing disk s → said outcome ≢ DiskFault → s' ≡ after_outcome s outcome
  pub status_is : IsStatus (number_of (said outcome)) disk disk' status
  pub sent : disk.tells → IsSent (text (said outcome)) disk.sent disk'.sent status
  pub one : disk.tells → Standing disk s → One text s disk disk' outcome
