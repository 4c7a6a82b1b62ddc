-- A request of a session, and its cause.
use Rattle.std.proofs.Common.{◌≡◌, ◌≢◌, ⊎_elim, ℕ, List, [], ◌∷◌, ◌++◌, length, Bool, true, false, refl, sym, ◌∙◌, ap, subst}
use Rattle.std.specs.Prelude.{Option, Some, None, is_some, Result, Ok, Err, ◌||◌, if◌then◌else◌}
use Rattle.std.proofs.lemmas.List.{append-nil}
use Rattle.site_types.specs.Answers.{number_of, NeedsMemory}
use Rattle.site_types.specs.Requests.{read_words, takes_payload}
use Rattle.site_types.specs.declared.request.Request.{Request}
use Rattle.site_types.specs.declared.answer.Answer.{Answer}
use Rattle.site_types.specs.declared.answer.Answer.TheVariants.{OutOfMemory, BadRequest, DiskFault, ReadFault, SendFault, ClockFault}
use Rattle.vault_disk.specs.Disk.{Disk, IsSame}
use Rattle.vault_disk.specs.Steps.{IsSameBut, Rose}
use Rattle.vault_disk.specs.Ticks.{Ticks}
use Rattle.desk_model.specs.State.{State}
use Rattle.desk_index.specs.Answers.{IsOfRequest}
use Rattle.bp_cli.specs.Gather.{IsNamed, IsMoment, IsUntimed}
use Rattle.bp_cli.specs.Words.{is_moment, moment_of, at_moment, without_moment, timed_request}
use Rattle.bp_cli.specs.Runs.{Outcome, refused, carried, said, Acted, Sent, RepliesTo}
use Rattle.bp_cli.specs.Sessions.{framed, names_moment, is_none_given, is_last, behind_reply, with_payload, turn_request, IsAnswerTo, IsTaken, IsTurned}
use Rattle.bp_cli.specs.declared.turn.Turned.{Turned}
use Rattle.bp_cli.specs.declared.turn.Turned.TheVariants.{On, Over}
use Rattle.bp_cli.specs.declared.words.TimedRequest.{TimedRequest}
use Rattle.bp_cli.proofs.Executing.{entry_of}
use Rattle.bp_cli.proofs.Replying.{forgotten, replies_to}

abbrev heard : TimedRequest → Result TimedRequest ℕ
heard asked = Ok asked

abbrev unheard_at : ℕ → Result TimedRequest ℕ
unheard_at index = Err index

heard_same : (a b : TimedRequest) → heard a ≡ heard b → a ≡ b
heard_same a b is = cc

words_of_turn : (r : Result TimedRequest ℕ) (payload : List ℕ) (count : ℕ) (asked : TimedRequest) → with_payload r payload count ≡ Ok asked → r ≡ Ok asked
words_of_turn (Ok said) payload count asked is = at (takes_payload said.request || is_none_given payload) is
  where
    at : (b : Bool) → (if b then heard said else unheard_at count) ≡ heard asked → heard said ≡ heard asked
    at true here = here
    at false here = absurd (cc here)
words_of_turn (Err i) payload count asked is = absurd (cc is)

named_at : (m : Option ℕ) (r : Result Request ℕ) (asked : TimedRequest) → at_moment m r ≡ Ok asked → is_some asked.moment ≡ true
named_at None r asked is = absurd (cc is)
named_at (Some m) (Ok request) asked is = subst (λ (x : TimedRequest). is_some x.moment ≡ true) (heard_same (record { moment = Some m; request = request }) asked is) refl
named_at (Some m) (Err i) asked is = absurd (cc is)

unnamed_at : (r : Result Request ℕ) (asked : TimedRequest) → without_moment r ≡ Ok asked → is_some asked.moment ≡ false
unnamed_at (Ok request) asked is = subst (λ (x : TimedRequest). is_some x.moment ≡ false) (heard_same (record { moment = None; request = request }) asked is) refl
unnamed_at (Err i) asked is = absurd (cc is)

named_is : (words : List (List ℕ)) (asked : TimedRequest) → timed_request words ≡ Ok asked → is_some asked.moment ≡ names_moment words
named_is [] asked is = absurd (cc is)
named_is (word ∷ words) asked is = at (is_moment word) is
  where
    at : (b : Bool) → (if b then at_moment (moment_of word) (read_words words) else without_moment (read_words (word ∷ words))) ≡ heard asked → is_some asked.moment ≡ b
    at true here = named_at (moment_of word) (read_words words) asked here
    at false here = unnamed_at (read_words (word ∷ words)) asked here

moment_named : (named : Option ℕ) (moment : ℕ) (old new : Ticks) → IsMoment named moment old new → IsNamed named moment
moment_named None moment old new is = tt
moment_named (Some n) moment old new is = is.0

taken_by : (named : Option ℕ) (moment : ℕ) (old new : Ticks) → IsMoment named moment old new → old.tells → new.gave ≡ old.gave ++ (if is_some named then [] else moment ∷ [])
taken_by None moment old new is told = is told
taken_by (Some n) moment old new is told = is.1.gave ∙ sym (append-nil old.gave)

no_step : (r : Request) (payload : List ℕ) (a : Answer) → IsOfRequest r payload a → a ≡ ClockFault → ⊥
no_step r payload a kind is = subst (IsOfRequest r payload) is kind

-- the answers that no request of a session has
pub not_read : (words : List (List ℕ)) (payload : List ℕ) (o : Outcome) → IsAnswerTo words payload o → said o ≡ ReadFault → ⊥
not_read words payload (refused a) to is = subst (λ (x : Answer). IsAnswerTo words payload (refused x)) is to
not_read words payload (carried e a) to is = subst (IsOfRequest e.request e.payload) is to.of.kind

pub sendable : (words : List (List ℕ)) (payload : List ℕ) (o : Outcome) → IsAnswerTo words payload o → said o ≡ SendFault → ⊥
sendable words payload (refused a) to is = subst (λ (x : Answer). IsAnswerTo words payload (refused x)) is to
sendable words payload (carried e a) to is = subst (IsOfRequest e.request e.payload) is to.of.kind

module _ (words : List (List ℕ)) (payload : List ℕ) (d d' : Disk) (ticks ticks' : Ticks) where
  -- it was carried out
  pub taken_step : (asked : TimedRequest) (bytes : List ℕ) (moment : ℕ) (a : Answer) → turn_request words payload ≡ Ok asked → bytes ≡ payload → IsMoment asked.moment moment ticks ticks' → IsOfRequest asked.request bytes a → (a ≡ DiskFault → Rose d.faults d'.faults)
      → IsTaken words payload d d' ticks ticks' (carried (entry_of asked.request bytes moment a) a)
  taken_step asked bytes moment a words_ask bytes_are moment_is kind failed = record {
    answer_to = record { asked = asked; words_ask = words_ask; of = record { request = refl; kind = kind }; payload_is = bytes_are; moment_is = moment_named asked.moment moment ticks ticks' moment_is };
    moment = λ told. taken_by asked.moment moment ticks ticks' moment_is told ∙ ap (λ (b : Bool). ticks.gave ++ (if b then [] else moment ∷ [])) (named_is words asked (words_of_turn (timed_request words) payload (length words) asked words_ask));
    disk_fault = failed;
    clock_fault = λ is. absurd (no_step asked.request bytes a kind is);
  }

  -- the clock failed
  pub taken_clock : (asked : TimedRequest) → turn_request words payload ≡ Ok asked → IsUntimed asked.moment ticks ticks' → IsTaken words payload d d' ticks ticks' (refused ClockFault)
  taken_clock asked words_ask untimed = record {
    answer_to = record { asked = asked; words_ask = words_ask; unnamed = untimed.unnamed };
    moment = λ told. untimed.kept told ∙ sym (append-nil ticks.gave);
    disk_fault = λ is. absurd (cc is);
    clock_fault = λ is. untimed.rose;
  }

  -- no memory was left for its text
  pub taken_forgotten : (o : Outcome) → IsTaken words payload d d' ticks ticks' o → NeedsMemory (said o) → IsTaken words payload d d' ticks ticks' (forgotten o)
  taken_forgotten (refused (BadRequest index)) taken needs = record { answer_to = (index, taken.answer_to); moment = taken.moment; disk_fault = λ is. absurd (cc is); clock_fault = λ is. absurd (cc is) }
  taken_forgotten (refused OutOfMemory) taken needs = absurd needs
  taken_forgotten (refused ClockFault) taken needs = absurd needs
  taken_forgotten (refused _) taken needs = absurd taken.answer_to
  taken_forgotten (carried e a) taken needs =
      let to = taken.answer_to in
      record {
        answer_to = record { asked = to.asked; words_ask = to.words_ask; of = record { request = to.of.request; kind = tt }; payload_is = to.payload_is; moment_is = to.moment_is };
        moment = taken.moment;
        disk_fault = λ is. absurd (cc is);
        clock_fault = λ is. absurd (cc is);
      }

-- its words ask for nothing
pub taken_bad : (words : List (List ℕ)) (payload : List ℕ) (d d' : Disk) (ticks : Ticks) (index : ℕ) → turn_request words payload ≡ Err index → IsTaken words payload d d' ticks ticks (refused (BadRequest index))
taken_bad words payload d d' ticks index is = record { answer_to = is; moment = λ told. sym (append-nil ticks.gave); disk_fault = λ is. absurd (cc is); clock_fault = λ is. absurd (cc is) }

-- the reply was sent
on_is : (status : ℕ) → behind_reply status ≡ On → is_last status ≡ false
on_is status is = at (is_last status) is
  where
    at : (b : Bool) → (if b then Over status else On) ≡ On → b ≡ false
    at true here = absurd (cc here)
    at false here = refl

pub running_on : (text : Answer → List ℕ) (a : Answer) (d d' : Disk) (status : ℕ) (t : Turned) → Sent text a d d' status → t ≡ behind_reply status → t ≡ On → a ≢ DiskFault
running_on text a d d' status t sent t_is on fault = ⊎_elim
    (λ is. ⊎_elim (λ number. at 18 refl (number ∙ ap number_of (is ∙ fault))) (λ unsent. at 20 refl unsent.0) sent.status_is)
    (λ out. subst NeedsMemory fault out.1) sent.is
  where
    at : (n : ℕ) → is_last n ≡ true → status ≡ n → ⊥
    at n last is = absurd (cc (sym last ∙ subst (λ (k : ℕ). is_last k ≡ false) is (on_is status (sym t_is ∙ on))))

pub turned_by : (words : List (List ℕ)) (payload : List ℕ) (s s1 s' : State) (d0 d1 d2 : Disk) (ticks ticks' : Ticks) (a : Answer) (status : ℕ) (t : Turned) → t ≡ behind_reply status → Acted (IsTaken words payload d0 d1 ticks ticks') s s1 d0 d1 a → IsSame d0 d1 → IsSameBut d1 d2 → (d1.tells → s' ≡ s1) → Sent framed a d1 d2 status
    → IsTurned words payload s s' d0 d2 ticks ticks' t
turned_by words payload s s1 s' d0 d1 d2 ticks ticks' a status t t_is acted same but state_is sent = subst (λ (x : Turned). IsTurned words payload s s' d0 d2 ticks ticks' x) (sym t_is) (at (is_last status) refl)
  where
    why : (o : Outcome) → IsTaken words payload d0 d1 ticks ticks' o → IsTaken words payload d0 d2 ticks ticks' o
    why o w = record { answer_to = w.answer_to; moment = w.moment; disk_fault = λ is. subst (λ (n : ℕ). Rose d0.faults n) (sym but.faults) (w.disk_fault is); clock_fault = w.clock_fault }

    replies : RepliesTo (IsTaken words payload d0 d2 ticks ticks') framed s s' d0 d2 status
    replies = replies_to (IsTaken words payload d0 d2 ticks ticks') framed s s1 s' d0 d1 d2 a status
        (record { outcome = acted.outcome; why = why acted.outcome acted.why; is = acted.is; models = acted.models; moves = acted.moves; acts = acted.acts }) same.tells same.sent same.send_faults sent (λ told. state_is (same.tells told)) (taken_forgotten words payload d0 d2 ticks ticks')

    at : (b : Bool) → is_last status ≡ b → IsTurned words payload s s' d0 d2 ticks ticks' (if b then Over status else On)
    at true is = (replies, is)
    at false is = (status, replies, is)
