-- A whole run, from what was answered and sent.
use Rattle.std.proofs.Common.{◌≡◌, ◌⊎◌, inl, inr, ⊎_elim, ℕ, ◌≤◌, List, [], ◌∷◌, ◌++◌, refl, sym, ◌∙◌, ap, subst, arith}
use Rattle.std.specs.Prelude.{Some, Ok}
use Rattle.std.specs.Borrow.{GName}
use Rattle.std.proofs.lemmas.List.{append-nil}
use Rattle.site_types.specs.Answers.{number_of, text_of, NeedsMemory}
use Rattle.site_types.specs.declared.answer.Answer.{Answer}
use Rattle.site_types.specs.declared.answer.Answer.TheVariants.{OutOfMemory, BadRequest}
use Rattle.vault_disk.specs.Disk.{Disk, Image}
use Rattle.vault_disk.specs.Steps.{Rose, Rests}
use Rattle.vault_disk.specs.Input.{Input}
use Rattle.vault_disk.specs.Ticks.{Ticks}
use Rattle.pool_journal.specs.declared.fault.JournalFault.{JournalFault}
use Rattle.pool_journal.specs.declared.fault.JournalFault.TheVariants as journal
use Rattle.desk_model.specs.State.{State, durable}
use Rattle.vault_ledger.specs.Ledger.{stands}
use Rattle.site_desk.specs.Desk.{IsFaultOf}
use Rattle.site_desk.specs.Stands.{opened, state_in, Standing, Opens}
use Rattle.bp_cli.specs.Runs.{Outcome, refused, carried, said, AreSent, IfLast, HasRisen, IsStatus, Replied, Leaves, Stops, refusal_of, Acts, Acted, Delivers, Sent, RepliesTo}
use Rattle.bp_cli.specs.Singles.{IsUnopened, IsAnswered, Ran, RanBad}
use Rattle.bp_cli.specs.Sessions.{framed, Serves, ServesOn, RanSession}
use Rattle.bp_cli.proofs.Asking.{asked_forgotten, untouched}
use Rattle.bp_cli.proofs.Executing.{acts_none}
use Rattle.bp_cli.proofs.Leaving.{leaves_none, leaves_more, stops_so, found_at, acts_unopened, leaves_opened}
use Rattle.bp_cli.proofs.Replying.{forgotten, replies_to}
use Rattle.bp_cli.proofs.Rising.{risen_since}

-- one text was sent for an answer
pub sent_so : (text : Answer → List ℕ) (a answer : Answer) (bytes : List ℕ) (number : ℕ) (old new : Disk) (status : ℕ) → (answer ≡ a) ⊎ ((answer ≡ OutOfMemory) × NeedsMemory a) → bytes ≡ text answer → number ≡ number_of answer → IsStatus number old new status → (old.tells → Delivers bytes old new status) → Sent text a old new status
sent_so text a answer bytes number old new status is bytes_are number_is status_is delivers = record {
  answer = answer;
  is = is;
  status_is = subst (λ (n : ℕ). IsStatus n old new status) number_is status_is;
  sends = λ told. subst (λ (l : List ℕ). Delivers l old new status) bytes_are (delivers told);
}

-- what is known of a value is known of its equal
pub at_equal : {A : Type 0} (P : A → Type 0) (a b : A) → P a → b ≡ a → P b
at_equal P a b here is = subst P (sym is) here

-- the laws of a vault
abbrev pub Lawful : Disk → Type 0
Lawful d = (d.tells → d.may_leave d.seen) × ((c : Image) (b : List ℕ) → d.tells → d.left_since d.moment c b → d.may_leave c × (b ≡ d.sent))

-- one answer was all
module _ {Why : Outcome → Type 0} (text : Answer → List ℕ) {s' : State} (d0 d2 : Disk) (status : ℕ) (laws : Lawful d0) (r : RepliesTo Why text (state_in (opened d0.seen)) s' d0 d2 status) where
  pub stops_one : Stops text d0 d2 (r.outcome ∷ [])
  stops_one s told standing =
      let is : state_in (opened d0.seen) ≡ durable s = ap state_in (found_at d0.seen (durable s) (standing.each d0.seen (laws.0 told))) in
      let one = r.one told (record { each = λ c left. standing.each c left ∙ ap (λ (x : State). Some (durable x)) (sym is) }) in
      stops_so text s d0 d2 (r.outcome ∷ []) standing (laws.0 told) (λ c b left. laws.1 c b told left)
      (leaves_more text (durable s) (state_in (opened d0.seen)) d0 d0 d2 [] r.outcome is (sym (append-nil d0.sent)) (leaves_none text (durable s) d0 (record { each = standing.each })) one)

  pub replied_one : (input input' : Input) (ticks ticks' : Ticks) → HasRisen d0.faults d2.faults input.faults input'.faults ticks.faults ticks'.faults (said r.outcome) → Replied text (r.outcome ∷ []) (number_of (said r.outcome)) d0 d2 input input' ticks ticks' status
  replied_one input input' ticks ticks' rose = record { faults = rose; status_is = r.status_is; sent = r.sent }

-- the machine was lent to what answered
pub acted_lent : {Why : Outcome → Type 0} {s s' : State} (d0 d1 : Disk) (p0 p1 : List GName) (a : Answer) → Acted Why s s' (record d0 { place = p0 }) (record d1 { place = p1 }) a → Acted Why s s' d0 d1 a
acted_lent d0 d1 p0 p1 a x = record {
  outcome = x.outcome;
  why = x.why;
  is = x.is;
  models = λ told standing. x.models told (record { each = standing.each });
  moves = λ told standing. x.moves told (record { each = standing.each });
  acts = λ told standing. let acts = x.acts told (record { each = standing.each }) in record { now = acts.now; during = record { later = acts.during.later; each = acts.during.each } };
}

-- a single request
module _ (words : List (List ℕ)) (d0 d1 d2 : Disk) (input input' : Input) (ticks ticks' : Ticks) (status : ℕ) (laws : Lawful d0) (told_on : d0.tells → d1.tells) (sent_is : d1.sent ≡ d0.sent) (counts : d1.send_faults ≡ d0.send_faults) (faults : d2.faults ≡ d1.faults) where
  forgets : (o : Outcome) → IsAnswered words d0 d1 input input' ticks ticks' o → NeedsMemory (said o) → IsAnswered words d0 d1 input input' ticks ticks' (forgotten o)
  forgets (refused a) why needs = (asked_forgotten words d0.tells d0.seen input input' ticks ticks' (refused a) why.0 needs, tt)
  forgets (carried e a) why needs = (asked_forgotten words d0.tells d0.seen input input' ticks ticks' (carried e a) why.0 needs, tt)

  pub ran : (a : Answer) (t : State) → Acted (IsAnswered words d0 d1 input input' ticks ticks') (state_in (opened d0.seen)) t d0 d1 a → Sent text_of a d1 d2 status → Ran words d0 d2 input input' ticks ticks' status
  ran a t acted sent =
      let r = replies_to (IsAnswered words d0 d1 input input' ticks ticks') text_of (state_in (opened d0.seen)) t t d0 d1 d2 a status acted told_on sent_is counts sent (λ told. refl) forgets in
      record {
        outcome = r.outcome;
        asked = r.why.0;
        replied = replied_one text_of d0 d2 status laws r input input' ticks ticks' (subst (λ (n : ℕ). HasRisen d0.faults n input.faults input'.faults ticks.faults ticks'.faults (said r.outcome)) (sym faults) r.why.1);
        stops = stops_one text_of d0 d2 status laws r;
      }

-- an answer to none: nothing was carried out
pub record Refuses (text : Answer → List ℕ) (a : Answer) (d0 d2 : Disk) (input : Input) (ticks : Ticks) (status : ℕ) : Type 0 where
  pub answer : Answer
  pub is : (answer ≡ a) ⊎ (answer ≡ OutOfMemory)
  pub replied : Replied text (refused answer ∷ []) (number_of answer) d0 d2 input input ticks ticks status
  pub stops : Stops text d0 d2 (refused answer ∷ [])

module _ (text : Answer → List ℕ) (a : Answer) (d0 d1 d2 : Disk) (input : Input) (ticks : Ticks) (status : ℕ) (laws : Lawful d0) (told_on : d0.tells → d1.tells) (sent_is : d1.sent ≡ d0.sent) (counts : d1.send_faults ≡ d0.send_faults) (faults : d2.faults ≡ d1.faults)
    (acts : (s : State) → d0.tells → Standing d0 s → Acts s d0 d1 (refused a)) (rose : HasRisen d0.faults d1.faults input.faults input.faults ticks.faults ticks.faults a) (sent : Sent text a d1 d2 status) where
  abbrev Why : Outcome → Type 0
  Why o = (o ≡ refused a) ⊎ (o ≡ refused OutOfMemory)

  forgets_all : (o : Outcome) → Why o → NeedsMemory (said o) → Why (forgotten o)
  forgets_all (refused b) why needs = inr refl
  forgets_all (carried e b) why needs = absurd (⊎_elim (λ is. cc is) (λ is. cc is) why)

  abbrev state : State
  state = state_in (opened d0.seen)

  reply : RepliesTo Why text state state d0 d2 status
  reply = replies_to Why text state state state d0 d1 d2 a status
      (record { outcome = refused a; why = inl refl; is = refl; models = λ told standing. tt; moves = λ told standing ne. refl; acts = λ told standing. acts state told standing }) told_on sent_is counts sent (λ told. refl) forgets_all

  answers : (b : Answer) → (b ≡ a) ⊎ (b ≡ OutOfMemory) → HasRisen d0.faults d2.faults input.faults input.faults ticks.faults ticks.faults b → reply.outcome ≡ refused b → Refuses text a d0 d2 input ticks status
  answers b is rose_b outcome_is = record {
    answer = b;
    is = is;
    replied = subst (λ (o : Outcome). Replied text (o ∷ []) (number_of (said o)) d0 d2 input input ticks ticks status) outcome_is
        (replied_one text d0 d2 status laws reply input input ticks ticks (subst (λ (o : Outcome). HasRisen d0.faults d2.faults input.faults input.faults ticks.faults ticks.faults (said o)) (sym outcome_is) rose_b));
    stops = subst (λ (o : Outcome). Stops text d0 d2 (o ∷ [])) outcome_is (stops_one text d0 d2 status laws reply);
  }

  pub refuses : Refuses text a d0 d2 input ticks status
  refuses = ⊎_elim (λ is. answers a (inl refl) (subst (λ (n : ℕ). HasRisen d0.faults n input.faults input.faults ticks.faults ticks.faults a) (sym faults) rose) is) (λ is. answers OutOfMemory (inr refl) tt is) reply.why

-- words that begin with session and ask for nothing
pub ran_bad : (d0 d2 : Disk) (input : Input) (ticks : Ticks) (status : ℕ) → Lawful d0 → (d0.tells → Rests d0 d2) → d2.faults ≡ d0.faults → Sent text_of (BadRequest 1) d0 d2 status → RanBad d0 d2 input input ticks ticks status
ran_bad d0 d2 input ticks status laws rests faults sent =
    let r = refuses text_of (BadRequest 1) d0 d0 d2 input ticks status laws (λ told. told) refl refl faults (λ s told standing. acts_none s d0 (BadRequest 1) standing) tt sent in
    record { answer = r.answer; is = r.is; untouched = untouched input ticks; rests = rests; replied = r.replied; stops = r.stops }

-- a session whose vault isn't opened
refusal_is : (tells : Type 0) (seen : Image) (fault : JournalFault) → (tells → IsFaultOf (opened seen) fault) → IsUnopened tells seen (refusal_of fault)
refusal_is tells seen journal.NoMemory is = tt
refusal_is tells seen journal.DiskFault is = tt
refusal_is tells seen (journal.NotAVault offset) is = is

pub session_refused : (d0 d1 d2 : Disk) (input : Input) (ticks : Ticks) (status : ℕ) (fault : JournalFault) → Lawful d0 → (d0.tells → d1.tells) → d1.sent ≡ d0.sent → d1.send_faults ≡ d0.send_faults → d2.faults ≡ d1.faults → (d0.tells → Opens d0 d1) → (fault ≡ journal.DiskFault → Rose d0.faults d1.faults) → (d0.tells → IsFaultOf (opened d0.seen) fault)
    → Sent framed (refusal_of fault) d1 d2 status → RanSession d0 d2 input input ticks ticks status
session_refused d0 d1 d2 input ticks status fault laws told_on sent_is counts faults opens failed is sent =
    let r = refuses framed (refusal_of fault) d0 d1 d2 input ticks status laws told_on sent_is counts faults (λ s told standing. acts_unopened s d0 d1 standing (laws.0 told) (opens told) (refusal_of fault)) (rose fault failed) sent in
    inr (record {
      answer = r.answer;
      is = ⊎_elim (λ same. subst (IsUnopened d0.tells d0.seen) (sym same) (refusal_is d0.tells d0.seen fault is)) (λ out. subst (IsUnopened d0.tells d0.seen) (sym out) tt) r.is;
      untouched = untouched input ticks;
      replied = r.replied;
      stops = r.stops;
    })
  where
    rose : (f : JournalFault) → (f ≡ journal.DiskFault → Rose d0.faults d1.faults) → HasRisen d0.faults d1.faults input.faults input.faults ticks.faults ticks.faults (refusal_of f)
    rose journal.NoMemory fails = tt
    rose journal.DiskFault fails = fails refl
    rose (journal.NotAVault offset) fails = tt

if_last : (P Q : Answer → Type 0) → ((a : Answer) → P a → Q a) → (os : List Outcome) → IfLast P os → IfLast Q os
if_last P Q so [] is = tt
if_last P Q so (o ∷ []) is = so (said o) is
if_last P Q so (o ∷ p ∷ os) is = if_last P Q so (p ∷ os) is

-- one whose vault is
module _ (d0 d1 d2 : Disk) (input input' : Input) (ticks ticks' : Ticks) (status : ℕ) (laws : Lawful d0) (told_on : d0.tells → d1.tells) (sent_is : d1.sent ≡ d0.sent) (counts : d1.send_faults ≡ d0.send_faults) (earlier : d0.faults ≤ d1.faults) (opens : d0.tells → Opens d0 d1) (state : State) (reads_as : d0.tells → opened d0.seen ≡ Ok state)
    (stands_on : (t : State) → d0.tells → stands d0.seen ≡ Some t → (state ≡ t) × Standing d1 state) where
  serves_since : (x : Serves d1 d2 input input' ticks ticks' status) → Serves d0 d2 input input' ticks ticks' status
  serves_since x = record {
    answered = x.answered;
    behind = x.behind;
    outcomes = x.outcomes;
    closing = x.closing;
    text = x.text;
    each = x.each;
    moments = x.moments;
    closing_is = x.closing_is;
    goes_on = x.goes_on;
    whole = x.whole;
    replied = record {
      faults = if_last (HasRisen d1.faults d2.faults input.faults input'.faults ticks.faults ticks'.faults) (HasRisen d0.faults d2.faults input.faults input'.faults ticks.faults ticks'.faults) (λ a rose. risen_since a d0.faults d1.faults d2.faults input.faults input.faults input'.faults ticks.faults ticks.faults ticks'.faults earlier (omega arith) (omega arith) rose) (x.outcomes ++ x.closing) x.replied.faults;
      status_is = ⊎_elim (λ number. inl number) (λ unsent. inr (unsent.0, subst (λ (k : ℕ). Rose k d2.send_faults) counts unsent.1)) x.replied.status_is;
      sent = λ told. subst (λ (base : List ℕ). AreSent framed (x.outcomes ++ x.closing) base d2.sent status) sent_is (x.replied.sent (told_on told));
    };
  }

  pub session_served : ServesOn state d1 d2 input input' ticks ticks' status → RanSession d0 d2 input input' ticks ticks' status
  unfolding serves_since
  session_served x = inl (record {
    opening = record { state = state; reads = reads_as };
    serves = serves_since x.serves;
    models = λ told is. x.models (told_on told) (stands_on state told is).1;
    stops = λ s told standing.
        let stood : (state ≡ durable s) × Standing d1 state = stands_on (durable s) told (standing.each d0.seen (laws.0 told)) in
        let os : List Outcome = x.serves.outcomes ++ x.serves.closing in
        let leaves : Leaves framed (durable s) d1 d2 os = subst (λ (y : State). Leaves framed y d1 d2 os) stood.0 (x.leaves (told_on told) stood.1) in
        stops_so framed s d0 d2 os standing (laws.0 told) (λ c b left. laws.1 c b told left) (leaves_opened s d0 d1 standing (laws.0 told) (opens told) framed os d2 sent_is leaves);
  })

-- the machine was lent to what served the session
stops_lent : (text : Answer → List ℕ) (d0 d2 : Disk) (p0 p1 : List GName) (os : List Outcome) → Stops text (record d0 { place = p0 }) (record d2 { place = p1 }) os → Stops text d0 d2 os
stops_lent text d0 d2 p0 p1 os x s told standing = let y = x s told (record { each = standing.each }) in record { found = y.found; now = y.now; pairs = y.pairs }

pub session_lent : (d0 d2 : Disk) (input input' : Input) (ticks ticks' : Ticks) (status : ℕ) (p0 p1 : List GName) → RanSession (record d0 { place = p0 }) (record d2 { place = p1 }) input input' ticks ticks' status → RanSession d0 d2 input input' ticks ticks' status
session_lent d0 d2 input input' ticks ticks' status p0 p1 = ⊎_elim
    (λ x. inl (record {
      opening = x.opening;
      serves = let y = x.serves in record {
        answered = y.answered;
        behind = y.behind;
        outcomes = y.outcomes;
        closing = y.closing;
        text = y.text;
        each = y.each;
        moments = y.moments;
        closing_is = y.closing_is;
        goes_on = y.goes_on;
        whole = y.whole;
        replied = record { faults = y.replied.faults; status_is = y.replied.status_is; sent = y.replied.sent };
      };
      models = x.models;
      stops = stops_lent framed d0 d2 p0 p1 (x.serves.outcomes ++ x.serves.closing) x.stops;
    }))
    (λ x. inr (record {
      answer = x.answer;
      is = x.is;
      untouched = x.untouched;
      replied = record { faults = x.replied.faults; status_is = x.replied.status_is; sent = x.replied.sent };
      stops = stops_lent framed d0 d2 p0 p1 (refused x.answer ∷ []) x.stops;
    }))
