-- A session, request by request.
use Rattle.std.proofs.Common.{◌≡◌, ◌≢◌, ◌⊎◌, inl, inr, ⊎_elim, ℕ, List, [], ◌∷◌, ◌++◌, Bool, true, false, refl, sym, ◌∙◌, ap, subst, append_assoc, arith}
use Rattle.std.specs.Prelude.{Some, ◌||◌, ◌==◌, if◌then◌else◌}
use Rattle.std.proofs.lemmas.Bool.{eqb-true, or_cases}
use Rattle.std.proofs.lemmas.List.{append-nil}
use Rattle.site_types.specs.Answers.{number_of, NeedsMemory}
use Rattle.site_types.specs.declared.answer.Answer.{Answer}
use Rattle.site_types.specs.declared.answer.Answer.TheVariants.{OutOfMemory, BadRequest, DiskFault, ReadFault, ClockFault}
use Rattle.vault_disk.specs.Disk.{Disk, Image, IsLater}
use Rattle.vault_disk.specs.Input.{Input, IsSameInput}
use Rattle.vault_disk.specs.Ticks.{Ticks, IsSameClock}
use Rattle.session_text.specs.Turns.{Turn, request, broken, turns}
use Rattle.desk_model.specs.State.{State, durable}
use Rattle.desk_model.specs.Replay.{Mark, plain, memory, fault, Entry, marked_state, marked_answer}
use Rattle.vault_ledger.specs.Ledger.{stands}
use Rattle.site_desk.specs.Stands.{Standing}
use Rattle.bp_cli.specs.Gather.{IsUnasked}
use Rattle.bp_cli.specs.Runs.{Outcome, refused, carried, said, after_outcome, state_after, IsModels, AreModels, EndsBy, Ends, replies, AreSent, HasRisen, IfLast, IsStatus, Leaves, Sent, RepliesTo}
use Rattle.bp_cli.specs.Sessions.{framed, is_over, is_last, AllGoOn, GoesOn, ends_broken, IsAnswerTo, Answering, moment_taken, moments_taken, IsClosing, last_number, end_number, ServesOn, IsTaken, IsTurned, last_status}
use Rattle.bp_cli.specs.declared.turn.Turned.{Turned}
use Rattle.bp_cli.specs.declared.turn.Turned.TheVariants.{On, Over, Closed}
use Rattle.bp_cli.proofs.AnswerLemmas.{is_send_fault}
use Rattle.bp_cli.proofs.Executing.{acted_refused}
use Rattle.bp_cli.proofs.Leaving.{all_sent, sent_push, replies_push, leaves_none, leaves_more}
use Rattle.bp_cli.proofs.Replying.{forgotten, replies_to}
use Rattle.bp_cli.proofs.Rising.{rose_since, risen_since, risen}
use Rattle.bp_cli.proofs.Turning.{not_read, sendable}

-- one outcome more
state_push : (s : State) (os : List Outcome) (o : Outcome) → state_after s (os ++ o ∷ []) ≡ after_outcome (state_after s os) o
state_push s [] o = refl
state_push s (p ∷ os) o = state_push (after_outcome s p) os o

models_push : (s : State) (os : List Outcome) (o : Outcome) → AreModels s os → IsModels (state_after s os) o → AreModels s (os ++ o ∷ [])
models_push s [] o models is = (is, tt)
models_push s (p ∷ os) o models is = (models.0, models_push (after_outcome s p) os o models.1 is)

last_push : (os : List Outcome) (o : Outcome) → last_number (os ++ o ∷ []) ≡ number_of (said o)
last_push [] o = refl
last_push (p ∷ []) o = refl
last_push (p ∷ q ∷ os) o = last_push (q ∷ os) o

last_if : (P : Answer → Type 0) (os : List Outcome) (o : Outcome) → P (said o) → IfLast P (os ++ o ∷ [])
last_if P [] o is = is
last_if P (p ∷ []) o is = is
last_if P (p ∷ q ∷ os) o is = last_if P (q ∷ os) o is

answering_push : (ts : List Turn) (os : List Outcome) (words : List (List ℕ)) (payload : List ℕ) (o : Outcome) → Answering ts os → IsAnswerTo words payload o → Answering (ts ++ request words payload ∷ []) (os ++ o ∷ [])
answering_push [] [] words payload o each to = (to, tt)
answering_push [] (p ∷ os) words payload o each to = absurd each
answering_push (t ∷ ts) [] words payload o each to = absurd each
answering_push (request w q ∷ ts) (p ∷ os) words payload o each to = (each.0, answering_push ts os words payload o each.1 to)
answering_push (broken i ∷ ts) (p ∷ os) words payload o each to = (each.0, answering_push ts os words payload o each.1 to)

answering_broken : (ts : List Turn) (os : List Outcome) (index : ℕ) (o : Outcome) → Answering ts os → (o ≡ refused (BadRequest index)) ⊎ (o ≡ refused OutOfMemory) → Answering (ts ++ broken index ∷ []) (os ++ o ∷ [])
answering_broken [] [] index o each is = (is, tt)
answering_broken [] (p ∷ os) index o each is = absurd each
answering_broken (t ∷ ts) [] index o each is = absurd each
answering_broken (request w q ∷ ts) (p ∷ os) index o each is = (each.0, answering_broken ts os index o each.1 is)
answering_broken (broken i ∷ ts) (p ∷ os) index o each is = (each.0, answering_broken ts os index o each.1 is)

moments_push : (ts : List Turn) (os : List Outcome) (words : List (List ℕ)) (payload : List ℕ) (o : Outcome) → Answering ts os → moments_taken (ts ++ request words payload ∷ []) (os ++ o ∷ []) ≡ moments_taken ts os ++ moment_taken words o
moments_push [] [] words payload o each = append-nil (moment_taken words o)
moments_push [] (p ∷ os) words payload o each = absurd each
moments_push (t ∷ ts) [] words payload o each = absurd each
moments_push (request w q ∷ ts) (p ∷ os) words payload o each = ap (λ (l : List ℕ). moment_taken w p ++ l) (moments_push ts os words payload o each.1) ∙ sym (append_assoc (moment_taken w p) (moments_taken ts os) (moment_taken words o))
moments_push (broken i ∷ ts) (p ∷ os) words payload o each = moments_push ts os words payload o each.1

moments_broken : (ts : List Turn) (os : List Outcome) (index : ℕ) (o : Outcome) → Answering ts os → moments_taken (ts ++ broken index ∷ []) (os ++ o ∷ []) ≡ moments_taken ts os
moments_broken [] [] index o each = refl
moments_broken [] (p ∷ os) index o each = absurd each
moments_broken (t ∷ ts) [] index o each = absurd each
moments_broken (request w q ∷ ts) (p ∷ os) index o each = ap (λ (l : List ℕ). moment_taken w p ++ l) (moments_broken ts os index o each.1)
moments_broken (broken i ∷ ts) (p ∷ os) index o each = moments_broken ts os index o each.1

-- whether a session goes on
going_push : (os : List Outcome) (o : Outcome) → AllGoOn os → is_over (number_of (said o)) ≡ false → AllGoOn (os ++ o ∷ [])
going_push [] o going here = (here, tt)
going_push (p ∷ os) o going here = (going.0, going_push os o going.1 here)

but_last : (os : List Outcome) (o : Outcome) → AllGoOn os → GoesOn (os ++ o ∷ [])
but_last [] o going = tt
but_last (p ∷ []) o going = (going.0, tt)
but_last (p ∷ q ∷ os) o going = (going.0, but_last (q ∷ os) o going.1)

all_on : (os : List Outcome) → AllGoOn os → GoesOn os
all_on [] going = tt
all_on (p ∷ []) going = tt
all_on (p ∷ q ∷ os) going = (going.0, all_on (q ∷ os) going.1)

last_going : (os : List Outcome) → AllGoOn os → is_over (last_number os) ≡ false
last_going [] going = refl
last_going (p ∷ []) going = going.0
last_going (p ∷ q ∷ os) going = last_going (q ∷ os) going.1

if_going : (P : Answer → Type 0) (os : List Outcome) → AllGoOn os → ((a : Answer) → is_over (number_of a) ≡ false → P a) → IfLast P os
if_going P [] going so = tt
if_going P (p ∷ []) going so = so (said p) going.0
if_going P (p ∷ q ∷ os) going so = if_going P (q ∷ os) going.1 so

apart : true ≡ false → ⊥
apart is = cc is

no_fault : (a : Answer) (d d' i i' t t' : ℕ) → is_over (number_of a) ≡ false → HasRisen d d' i i' t t' a
no_fault DiskFault d d' i i' t t' on = absurd (apart on)
no_fault ReadFault d d' i i' t t' on = absurd (apart on)
no_fault ClockFault d d' i i' t t' on = absurd (apart on)
no_fault _ d d' i i' t t' on = tt

fault_ends : (a : Answer) → is_over (number_of a) ≡ false → a ≢ DiskFault
fault_ends a on is = apart (subst (λ (x : Answer). is_over (number_of x) ≡ false) is on)

-- whether the last turn is a fault in the framing
ends_request : (ts : List Turn) (words : List (List ℕ)) (payload : List ℕ) → ends_broken (ts ++ request words payload ∷ []) ≡ false
ends_request [] words payload = refl
ends_request (t ∷ []) words payload = refl
ends_request (t ∷ u ∷ ts) words payload = ends_request (u ∷ ts) words payload

ends_off : (ts : List Turn) (index : ℕ) → ends_broken (ts ++ broken index ∷ []) ≡ true
ends_off [] index = refl
ends_off (t ∷ []) index = refl
ends_off (t ∷ u ∷ ts) index = ends_off (u ∷ ts) index

-- the number of an end
end_none : (b c : Bool) (n : ℕ) → b ≡ false → c ≡ false → (if b || c then n else 0) ≡ 0
end_none false false n b_is c_is = refl
end_none false true n b_is c_is = absurd (cc c_is)
end_none true c n b_is c_is = absurd (cc b_is)

end_either : (b c : Bool) (n : ℕ) → (b ≡ true) ⊎ (c ≡ true) → (if b || c then n else 0) ≡ n
end_either true c n is = refl
end_either false true n is = refl
end_either false false n is = ⊎_elim (λ b_is. absurd (cc b_is)) (λ c_is. absurd (cc c_is)) is

over_unsent : (n : ℕ) → is_last n ≡ true → n ≢ 20 → is_over n ≡ true
over_unsent n is ne = ⊎_elim (λ over. over) (λ unsent. absurd (ne (eqb-true n 20 unsent))) (or_cases _ _ is)

not_zero : (n : ℕ) → is_last n ≡ true → n ≢ 0
not_zero n is zero_is = apart (sym (subst (λ (k : ℕ). is_last k ≡ true) zero_is is))

or_left : (b c : Bool) → b || c ≡ false → b ≡ false
or_left false c is = refl
or_left true c is = absurd (cc is)

on_over : (n : ℕ) → is_last n ≡ false → is_over n ≡ false
on_over n is = or_left (is_over n) (n == 20) is

on_sent : (n : ℕ) → is_last n ≡ false → n ≢ 20
on_sent n is unsent = apart (subst (λ (k : ℕ). is_last k ≡ false) unsent is)

-- behind a request that is no fault the vault stands for the state after it
stood_by : (s : State) (e : Entry) (m : Mark) (a : Answer) (c : Image) → a ≢ DiskFault → a ≡ marked_answer s e m → EndsBy s e m c → stands c ≡ Some (durable (marked_state s e m))
stood_by s e plain a c ne is ends = ends
stood_by s e memory a c ne is ends = ends
stood_by s e fault a c ne is ends = absurd (ne is)

stood : (s : State) (o : Outcome) (c : Image) → said o ≢ DiskFault → IsModels s o → Ends s o c → stands c ≡ Some (durable (after_outcome s o))
stood s (refused a) c ne models ends = ends
stood s (carried e a) c ne models ends = stood_by s e e.mark a c ne models ends

none_left : (held left : List ℕ) → held ++ left ≡ [] → left ≡ []
none_left [] left is = is
none_left (b ∷ held) left is = absurd (cc is)

-- the requests so far
pub record Served (s : State) (d0 d : Disk) (input0 input : Input) (held : List ℕ) (ticks0 ticks : Ticks) (state : State) : Type 0 where
  pub answered : List Turn
  pub outcomes : List Outcome
  pub text : input0.tells → turns input0.left ≡ answered ++ turns (held ++ input.left)
  pub each : Answering answered outcomes
  pub moments : ticks0.tells → ticks.gave ≡ ticks0.gave ++ moments_taken answered outcomes
  pub models : d0.tells → Standing d0 s → AreModels s outcomes
  pub state_is : d0.tells → Standing d0 s → state ≡ state_after s outcomes
  pub sent : d0.tells → d.sent ≡ d0.sent ++ replies framed outcomes
  pub leaves : d0.tells → Standing d0 s → Leaves framed s d0 d outcomes
  pub standing : d0.tells → Standing d0 s → Standing d state
  pub unbroken : ends_broken answered ≡ false
  pub going : AllGoOn outcomes

-- before the first
pub served_none : (s : State) (d : Disk) (input : Input) (held : List ℕ) (ticks : Ticks) → held ≡ [] → Served s d d input input held ticks ticks s
served_none s d input held ticks new = record {
  answered = [];
  outcomes = [];
  text = λ tells. ap (λ (h : List ℕ). turns (h ++ input.left)) (sym new);
  each = tt;
  moments = λ tells. sym (append-nil ticks.gave);
  models = λ told standing. tt;
  state_is = λ told standing. refl;
  sent = λ told. sym (append-nil d.sent);
  leaves = λ told standing. leaves_none framed s d standing;
  standing = λ told standing. standing;
  unbroken = refl;
  going = tt;
}

-- what is so once the last of all outcomes was answered
record Ended (s : State) (d0 d : Disk) (input0 input : Input) (ticks0 ticks : Ticks) (all : List Outcome) (status : ℕ) : Type 0 where
  pub faults : IfLast (HasRisen d0.faults d.faults input0.faults input.faults ticks0.faults ticks.faults) all
  pub sent : d0.tells → AreSent framed all d0.sent d.sent status
  pub leaves : d0.tells → Standing d0 s → Leaves framed s d0 d all
  pub goes_on : GoesOn all

serves_so : {s : State} {d0 d : Disk} {input0 input : Input} {ticks0 ticks : Ticks} {status : ℕ} (ts : List Turn) (behind : List ℕ) (os closing all : List Outcome) → all ≡ os ++ closing → (input0.tells → turns input0.left ≡ ts ++ turns behind) → Answering ts os
    → (ticks0.tells → ticks.gave ≡ ticks0.gave ++ moments_taken ts os) → (d0.tells → Standing d0 s → AreModels s os) → IsClosing input0 input behind closing → (status ≡ 0 → input0.tells → (behind ≡ []) × (input.left ≡ [])) → IsStatus (end_number ts os closing) d0 d status
    → Ended s d0 d input0 input ticks0 ticks all status → ServesOn s d0 d input0 input ticks0 ticks status
serves_so {s} {d0} {d} {input0} {input} {ticks0} {ticks} {status} ts behind os closing all all_is text each moments models closing_is whole number ended =
    let e = subst (λ (l : List Outcome). Ended s d0 d input0 input ticks0 ticks l status) all_is ended in
    record {
      serves = record {
        answered = ts;
        behind = behind;
        outcomes = os;
        closing = closing;
        text = text;
        each = each;
        moments = moments;
        closing_is = closing_is;
        goes_on = e.goes_on;
        whole = whole;
        replied = record { faults = e.faults; status_is = number; sent = e.sent };
      };
      models = models;
      leaves = e.leaves;
    }

module _ {s : State} {d0 d : Disk} {input0 input : Input} {held : List ℕ} {ticks0 ticks : Ticks} {state : State} (served : Served s d0 d input0 input held ticks0 ticks state) (later : IsLater d0 d) (same_input : IsSameInput input0 input) (same_clock : IsSameClock ticks0 ticks) where
  -- the source has ended
  pub served_all : (input' : Input) (held' : List ℕ) → (input0.tells → held ++ input.left ≡ []) → (input0.tells → held' ++ input'.left ≡ []) → ServesOn s d0 d input0 input' ticks0 ticks 0
  served_all input' held' nothing after =
      serves_so served.answered [] served.outcomes [] served.outcomes (sym (append-nil served.outcomes)) (λ tells. served.text tells ∙ ap (λ (l : List ℕ). served.answered ++ turns l) (nothing tells)) served.each served.moments served.models tt
      (λ z tells. (refl, none_left held' input'.left (after tells)))
      (inl (sym (end_none (ends_broken served.answered) (is_over (last_number served.outcomes)) (last_number served.outcomes) served.unbroken (last_going served.outcomes served.going))))
      (record {
        faults = if_going (HasRisen d0.faults d.faults input0.faults input'.faults ticks0.faults ticks.faults) served.outcomes served.going (λ a on. no_fault a d0.faults d.faults input0.faults input'.faults ticks0.faults ticks.faults on);
        sent = λ told. all_sent framed served.outcomes d0.sent d.sent 0 (served.sent told);
        leaves = served.leaves;
        goes_on = all_on served.outcomes served.going;
      })

  -- one answer more
  module _ {Why : Outcome → Type 0} {s' : State} {d' : Disk} {status : ℕ} (r : RepliesTo Why framed state s' d d' status) where
    status_so : IsStatus (number_of (said r.outcome)) d0 d' status
    status_so = ⊎_elim (λ number. inl number) (λ unsent. inr (unsent.0, rose_since d0.send_faults d.send_faults d'.send_faults later.send_faults unsent.1)) r.status_is

    models_so : d0.tells → Standing d0 s → AreModels s (served.outcomes ++ r.outcome ∷ [])
    models_so told standing = models_push s served.outcomes r.outcome (served.models told standing) (subst (λ (x : State). IsModels x r.outcome) (served.state_is told standing) (r.models (later.tells told) (served.standing told standing)))

    ended_so : (input' : Input) (ticks' : Ticks) → HasRisen d.faults d'.faults input.faults input'.faults ticks.faults ticks'.faults (said r.outcome) → Ended s d0 d' input0 input' ticks0 ticks' (served.outcomes ++ r.outcome ∷ []) status
    ended_so input' ticks' rose = record {
      faults = last_if (HasRisen d0.faults d'.faults input0.faults input'.faults ticks0.faults ticks'.faults) served.outcomes r.outcome (risen_since (said r.outcome) d0.faults d.faults d'.faults input0.faults input.faults input'.faults ticks0.faults ticks.faults ticks'.faults later.faults same_input.faults same_clock.faults rose);
      sent = λ told. sent_push framed served.outcomes r.outcome d0.sent d.sent d'.sent status (served.sent told) (r.sent (later.tells told));
      leaves = λ told standing. leaves_more framed s state d0 d d' served.outcomes r.outcome (served.state_is told standing) (served.sent told) (served.leaves told standing) (r.one (later.tells told) (served.standing told standing));
      goes_on = but_last served.outcomes r.outcome served.going;
    }

  -- a request was answered
  module _ (words : List (List ℕ)) (payload : List ℕ) {s' : State} {d' : Disk} {ticks' : Ticks} {status : ℕ} (input' : Input) (behind : List ℕ) (text_goes : input0.tells → turns (held ++ input.left) ≡ request words payload ∷ turns behind)
      (r : RepliesTo (IsTaken words payload d d' ticks ticks') framed state s' d d' status) where
    abbrev ts : List Turn
    ts = served.answered ++ request words payload ∷ []

    abbrev os : List Outcome
    os = served.outcomes ++ r.outcome ∷ []

    rose : HasRisen d.faults d'.faults input.faults input'.faults ticks.faults ticks'.faults (said r.outcome)
    rose = risen (said r.outcome) d.faults d'.faults input.faults input'.faults ticks.faults ticks'.faults r.why.disk_fault (λ is. absurd (not_read words payload r.outcome r.why.answer_to is)) r.why.clock_fault

    text_so : input0.tells → turns input0.left ≡ ts ++ turns behind
    text_so tells = served.text tells ∙ ap (λ (l : List Turn). served.answered ++ l) (text_goes tells) ∙ sym (append_assoc served.answered (request words payload ∷ []) (turns behind))

    each_so : Answering ts os
    each_so = answering_push served.answered served.outcomes words payload r.outcome served.each r.why.answer_to

    moments_so : ticks0.tells → ticks'.gave ≡ ticks0.gave ++ moments_taken ts os
    moments_so tells =
        r.why.moment (same_clock.tells tells) ∙ ap (λ (l : List ℕ). l ++ moment_taken words r.outcome) (served.moments tells) ∙ append_assoc ticks0.gave (moments_taken served.answered served.outcomes) (moment_taken words r.outcome)
        ∙ ap (λ (l : List ℕ). ticks0.gave ++ l) (sym (moments_push served.answered served.outcomes words payload r.outcome served.each))

    number_is : is_last status ≡ true → IsStatus (end_number ts os []) d0 d' status
    number_is last = ⊎_elim
        (λ number.
        let unsent : status ≢ 20 = λ is. sendable words payload r.outcome r.why.answer_to (is_send_fault (said r.outcome) (sym number ∙ is)) in
        let is : status ≡ last_number os = number ∙ sym (last_push served.outcomes r.outcome) in
        inl (is ∙ sym (end_either (ends_broken ts) (is_over (last_number os)) (last_number os) (inr (subst (λ (n : ℕ). is_over n ≡ true) is (over_unsent status last unsent))))))
        (λ unsent. inr unsent) (status_so r)

    -- and the session is over
    pub over : is_last status ≡ true → ServesOn s d0 d' input0 input' ticks0 ticks' status
    over last = serves_so ts behind os [] os (sym (append-nil os)) text_so each_so moments_so (models_so r) tt (λ z. absurd (not_zero status last z)) (number_is last) (ended_so r input' ticks' rose)

    -- or goes on
    module _ (on : is_last status ≡ false) where
      number_on : is_over (number_of (said r.outcome)) ≡ false
      number_on = ⊎_elim (λ number. subst (λ (n : ℕ). is_over n ≡ false) number (on_over status on)) (λ unsent. absurd (on_sent status on unsent.0)) r.status_is

      pub served_more : (held' : List ℕ) → (input0.tells → behind ≡ held' ++ input'.left) → Served s d0 d' input0 input' held' ticks0 ticks' s'
      served_more held' behind_is = record {
        answered = ts;
        outcomes = os;
        text = λ tells. text_so tells ∙ ap (λ (l : List ℕ). ts ++ turns l) (behind_is tells);
        each = each_so;
        moments = moments_so;
        models = models_so r;
        state_is = λ told standing. r.moves (later.tells told) (served.standing told standing) (fault_ends (said r.outcome) number_on) ∙ ap (λ (x : State). after_outcome x r.outcome) (served.state_is told standing) ∙ sym (state_push s served.outcomes r.outcome);
        sent = λ told. (r.sent (later.tells told)).whole (on_sent status on) ∙ ap (λ (l : List ℕ). l ++ framed (said r.outcome)) (served.sent told) ∙ append_assoc d0.sent (replies framed served.outcomes) (framed (said r.outcome)) ∙ ap (λ (l : List ℕ). d0.sent ++ l) (sym (replies_push framed served.outcomes r.outcome));
        leaves = (ended_so r input' ticks' rose).leaves;
        standing = λ told standing. record {
          each = λ c left.
              stood state r.outcome c (fault_ends (said r.outcome) number_on) (r.models (later.tells told) (served.standing told standing)) ((r.one (later.tells told) (served.standing told standing)).now c left)
              ∙ ap (λ (x : State). Some (durable x)) (sym (r.moves (later.tells told) (served.standing told standing) (fault_ends (said r.outcome) number_on)));
        };
        unbroken = ends_request served.answered words payload;
        going = going_push served.outcomes r.outcome served.going number_on;
      }

  -- an answer that ends the session and is none to a request
  module _ {a : Answer} {d' : Disk} {status : ℕ} (input' : Input) (ticks' : Ticks) (still : IsUnasked ticks ticks') (sent : Sent framed a d d' status) (nonzero : number_of a ≡ 0 → ⊥) (rose_a : HasRisen d.faults d'.faults input.faults input'.faults ticks.faults ticks'.faults a) where
    abbrev Why : Outcome → Type 0
    Why o = (o ≡ refused a) ⊎ (o ≡ refused OutOfMemory)

    forgets : (o : Outcome) → Why o → NeedsMemory (said o) → Why (forgotten o)
    forgets (refused b) why needs = inr refl
    forgets (carried e b) why needs = absurd (⊎_elim (λ is. cc is) (λ is. cc is) why)

    reply : RepliesTo Why framed state state d d' status
    reply = replies_to Why framed state state state d d d' a status (acted_refused Why state d a (inl refl)) (λ told. told) refl refl sent (λ told. refl) forgets

    rose_so : HasRisen d.faults d'.faults input.faults input'.faults ticks.faults ticks'.faults (said reply.outcome)
    rose_so = ⊎_elim (λ is. subst (λ (o : Outcome). HasRisen d.faults d'.faults input.faults input'.faults ticks.faults ticks'.faults (said o)) (sym is) rose_a) (λ is. subst (λ (o : Outcome). HasRisen d.faults d'.faults input.faults input'.faults ticks.faults ticks'.faults (said o)) (sym is) tt) reply.why

    nonzero_so : status ≢ 0
    nonzero_so z = ⊎_elim (λ number. ⊎_elim (λ is. nonzero (sym (ap (λ (o : Outcome). number_of (said o)) is) ∙ sym number ∙ z)) (λ is. omega (arith, sym (ap (λ (o : Outcome). number_of (said o)) is) ∙ sym number ∙ z)) reply.why) (λ unsent. omega (arith, unsent.0, z)) reply.status_is

    moments_still : ticks0.tells → ticks'.gave ≡ ticks0.gave ++ moments_taken served.answered served.outcomes
    moments_still tells = still.gave ∙ served.moments tells

    pub closed : (behind : List ℕ) → (input0.tells → behind ≡ held ++ input.left) → IsClosing input0 input' behind (refused a ∷ []) → ServesOn s d0 d' input0 input' ticks0 ticks' status
    closed behind behind_is closing =
        serves_so served.answered behind served.outcomes (reply.outcome ∷ []) (served.outcomes ++ reply.outcome ∷ []) refl (λ tells. served.text tells ∙ ap (λ (l : List ℕ). served.answered ++ turns l) (sym (behind_is tells))) served.each moments_still served.models
        (⊎_elim (λ is. subst (λ (o : Outcome). IsClosing input0 input' behind (o ∷ [])) (sym is) closing) (λ is. subst (λ (o : Outcome). IsClosing input0 input' behind (o ∷ [])) (sym is) tt) reply.why)
        (λ z. absurd (nonzero_so z)) (status_so reply) (ended_so reply input' ticks' rose_so)

    pub broken_off : (index : ℕ) → a ≡ BadRequest index → (input0.tells → turns (held ++ input.left) ≡ broken index ∷ []) → ServesOn s d0 d' input0 input' ticks0 ticks' status
    broken_off index a_is text_goes =
        let ts : List Turn = served.answered ++ broken index ∷ [] in
        let os : List Outcome = served.outcomes ++ reply.outcome ∷ [] in
        serves_so ts [] os [] os (sym (append-nil os)) (λ tells. served.text tells ∙ ap (λ (l : List Turn). served.answered ++ l) (text_goes tells) ∙ sym (append-nil ts))
        (answering_broken served.answered served.outcomes index reply.outcome served.each (⊎_elim (λ is. inl (is ∙ ap refused a_is)) (λ is. inr is) reply.why))
        (λ tells. moments_still tells ∙ ap (λ (l : List ℕ). ticks0.gave ++ l) (sym (moments_broken served.answered served.outcomes index reply.outcome served.each)))
        (models_so reply) tt (λ z. absurd (nonzero_so z))
        (subst (λ (n : ℕ). IsStatus n d0 d' status) (sym (end_either (ends_broken ts) (is_over (last_number os)) (last_number os) (inl (ends_off served.answered index)) ∙ last_push served.outcomes reply.outcome)) (status_so reply))
        (ended_so reply input' ticks' rose_so)

-- the last request was answered
pub last_turn : {s : State} {d0 d : Disk} {input0 input : Input} {held : List ℕ} {ticks0 ticks : Ticks} {state : State} (served : Served s d0 d input0 input held ticks0 ticks state) (later : IsLater d0 d) (same_input : IsSameInput input0 input) (same_clock : IsSameClock ticks0 ticks) (words : List (List ℕ)) (payload : List ℕ) (s' : State) (d' : Disk) (ticks' : Ticks) (input' : Input) (held' : List ℕ)
    → (input0.tells → turns (held ++ input.left) ≡ request words payload ∷ []) → (input0.tells → held' ++ input'.left ≡ []) → (t : Turned) → IsTurned words payload state s' d d' ticks ticks' t → IsLater d0 d' → IsSameInput input0 input' → IsSameClock ticks0 ticks' → ServesOn s d0 d' input0 input' ticks0 ticks' (last_status t)
last_turn served later same_input same_clock words payload s' d' ticks' input' held' text_goes nothing On t later' same_input' same_clock' =
    served_all (served_more served later same_input same_clock words payload input' [] text_goes t.1 t.2 held' (λ tells. sym (nothing tells))) later' same_input' same_clock' input' held' nothing nothing
last_turn served later same_input same_clock words payload s' d' ticks' input' held' text_goes nothing (Over status) t later' same_input' same_clock' = over served later same_input same_clock words payload input' [] text_goes t.0 t.1
last_turn {input = input} {held = held} served later same_input same_clock words payload s' d' ticks' input' held' text_goes nothing (Closed status) t later' same_input' same_clock' = closed served later same_input same_clock input' ticks' t.1 t.0 (λ z. omega (arith, z)) tt (held ++ input.left) (λ tells. refl) tt
