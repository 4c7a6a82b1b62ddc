-- The reply to what was answered. Where no memory is left for its text, want of memory is answered in its place, and nothing was done.
use Rattle.std.proofs.Common.{◌≡◌, ◌≢◌, ◌⊎◌, inl, inr, ⊎_elim, ℕ, List, [], refl, sym, ◌∙◌, ap, subst}
use Rattle.std.proofs.lemmas.List.{append-nil}
use Rattle.std.specs.Prelude.{Some}
use Rattle.site_types.specs.Answers.{number_of, NeedsMemory}
use Rattle.site_types.specs.declared.answer.Answer.{Answer}
use Rattle.site_types.specs.declared.answer.Answer.TheVariants.{OutOfMemory, DiskFault}
use Rattle.vault_disk.specs.Disk.{Disk, Image}
use Rattle.vault_disk.specs.Steps.{Rose, SentPart}
use Rattle.vault_disk.proofs.Moments.{goes_on, weaker}
use Rattle.desk_model.specs.State.{State, durable}
use Rattle.desk_model.specs.Replay.{Mark, plain, memory, fault, Entry, marked_answer, marked_state}
use Rattle.vault_ledger.specs.Ledger.{stands}
use Rattle.site_desk.specs.Stands.{Standing}
use Rattle.bp_cli.specs.Runs.{Outcome, refused, carried, said, after_outcome, IsModels, EndsBy, Ends, IsSent, Acts, Acted, Delivers, Sent, CoversOne, One, RepliesTo}
use Rattle.bp_cli.proofs.StepLemmas.{unmoved_step}

abbrev pub forgotten : Outcome → Outcome
forgotten (refused a) = refused OutOfMemory
forgotten (carried e a) = carried (record e { mark = memory }) OutOfMemory

forgotten_said : (o : Outcome) → OutOfMemory ≡ said (forgotten o)
forgotten_said (refused a) = refl
forgotten_said (carried e a) = refl

forgotten_models : (s : State) (o : Outcome) → IsModels s (forgotten o)
forgotten_models s (refused a) = tt
forgotten_models s (carried e a) = refl

forgotten_after : (s : State) (o : Outcome) → after_outcome s (forgotten o) ≡ s
forgotten_after s (refused a) = refl
forgotten_after s (carried e a) = refl

forgotten_ends : (s : State) (o : Outcome) (c : Image) → stands c ≡ Some (durable s) → Ends s (forgotten o) c
forgotten_ends s (refused a) c is = is
forgotten_ends s (carried e a) c is = is

marked_still : (s : State) (e : Entry) (m : Mark) → NeedsMemory (marked_answer s e m) → marked_state s e m ≡ s
marked_still s e plain needs = unmoved_step s e.request e.payload e.moment needs
marked_still s e memory needs = refl
marked_still s e fault needs = refl

unmoved_by : (s : State) (e : Entry) (m : Mark) (c : Image) → NeedsMemory (marked_answer s e m) → EndsBy s e m c → stands c ≡ Some (durable s)
unmoved_by s e plain c needs ends = ends ∙ ap (λ (x : State). Some (durable x)) (unmoved_step s e.request e.payload e.moment needs)
unmoved_by s e memory c needs ends = ends
unmoved_by s e fault c needs ends = absurd needs

-- where the text of what is answered has to be made, the state is as before
still : (s : State) (o : Outcome) → IsModels s o → NeedsMemory (said o) → after_outcome s o ≡ s
still s (refused a) models needs = refl
still s (carried e a) models needs = marked_still s e e.mark (subst NeedsMemory models needs)

unmoved : (s : State) (o : Outcome) (c : Image) → IsModels s o → NeedsMemory (said o) → Ends s o c → stands c ≡ Some (durable s)
unmoved s (refused a) c models needs ends = ends
unmoved s (carried e a) c models needs ends = unmoved_by s e e.mark c (subst NeedsMemory models needs) ends

ready_fault : (a : Answer) → NeedsMemory a → a ≢ DiskFault
ready_fault a needs is = subst NeedsMemory is needs

-- one answer of two disks, between which it was sent
module _ (text : Answer → List ℕ) (s : State) (d0 d1 d2 : Disk) (status : ℕ) (sent_is : d1.sent ≡ d0.sent) where
  one : (o : Outcome) → Acts s d0 d1 o → Delivers (text (said o)) d1 d2 status → One text s d0 d2 o
  one o acts delivers = record {
    now = λ c left. acts.now c (delivers.rests.left c left);
    during = goes_on d0 d1 d2 (CoversOne text s o d0.sent)
        (weaker d0 d1 (λ c b. ((stands c ≡ Some (durable s)) ⊎ Ends s o c) × (b ≡ d0.sent)) (CoversOne text s o d0.sent)
        (λ c b left. ⊎_elim (λ was. inl (was, left.1)) (λ ends. inr (ends, record { part = []; rest = text (said o); split = refl; is = left.1 ∙ sym (append-nil d0.sent) })) left.0) acts.during)
        (weaker d1 d2 (λ c b. d1.may_leave c × SentPart d1.sent (text (said o)) b) (CoversOne text s o d0.sent)
        (λ c b left. inr (acts.now c left.0, subst (λ (l : List ℕ). SentPart l (text (said o)) b) sent_is left.1)) delivers.during);
  }

-- a request was answered, and that was sent
module _ (Why : Outcome → Type 0) (text : Answer → List ℕ) (s s1 s' : State) (d0 d1 d2 : Disk) (a : Answer) (status : ℕ) (acted : Acted Why s s1 d0 d1 a) (told_on : d0.tells → d1.tells) (sent_is : d1.sent ≡ d0.sent) (counts : d1.send_faults ≡ d0.send_faults) (sent : Sent text a d1 d2 status) (state_is : d0.tells → s' ≡ s1)
    (stable : (o : Outcome) → Why o → NeedsMemory (said o) → Why (forgotten o)) where
  replied_so : (o : Outcome) → Why o → (d0.tells → Standing d0 s → IsModels s o) → (d0.tells → Standing d0 s → said o ≢ DiskFault → s' ≡ after_outcome s o) → (d0.tells → Standing d0 s → Acts s d0 d1 o) → sent.answer ≡ said o → RepliesTo Why text s s' d0 d2 status
  replied_so o why models moves acts is = record {
    outcome = o;
    why = why;
    models = models;
    moves = moves;
    status_is = ⊎_elim (λ number. inl (number ∙ ap number_of is)) (λ unsent. inr (unsent.0, subst (λ (k : ℕ). Rose k d2.send_faults) counts unsent.1)) sent.status_is;
    sent = λ told. subst (λ (l : List ℕ). IsSent (text (said o)) l d2.sent status) sent_is (delivers told).sent;
    one = λ told standing. one text s d0 d1 d2 status sent_is o (acts told standing) (delivers told);
  }
    where
      delivers : d0.tells → Delivers (text (said o)) d1 d2 status
      delivers told = subst (λ (x : Answer). Delivers (text x) d1 d2 status) is (sent.sends (told_on told))

  pub replies_to : RepliesTo Why text s s' d0 d2 status
  replies_to = ⊎_elim as_said for_memory sent.is
    where
      o : Outcome
      o = acted.outcome

      as_said : sent.answer ≡ a → RepliesTo Why text s s' d0 d2 status
      as_said is = replied_so o acted.why acted.models (λ told standing ne. state_is told ∙ acted.moves told standing (λ fault. ne (acted.is ∙ fault))) acted.acts (is ∙ sym acted.is)

      for_memory : (sent.answer ≡ OutOfMemory) × NeedsMemory a → RepliesTo Why text s s' d0 d2 status
      for_memory out =
          let needs : NeedsMemory (said o) = subst NeedsMemory (sym acted.is) out.1 in
          replied_so (forgotten o) (stable o acted.why needs) (λ told standing. forgotten_models s o)
          (λ told standing ne. state_is told ∙ acted.moves told standing (ready_fault a out.1) ∙ still s o (acted.models told standing) needs ∙ sym (forgotten_after s o))
          (λ told standing.
          let acts = acted.acts told standing in
          let before : (c : Image) → Ends s o c → stands c ≡ Some (durable s) = λ c ends. unmoved s o c (acted.models told standing) needs ends in
          record {
            now = λ c left. forgotten_ends s o c (before c (acts.now c left));
            during = weaker d0 d1 (λ c b. ((stands c ≡ Some (durable s)) ⊎ Ends s o c) × (b ≡ d0.sent)) (λ c b. ((stands c ≡ Some (durable s)) ⊎ Ends s (forgotten o) c) × (b ≡ d0.sent)) (λ c b left. (inl (⊎_elim (λ was. was) (before c) left.0), left.1)) acts.during;
          })
          (out.0 ∙ forgotten_said o)
