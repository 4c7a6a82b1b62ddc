-- Words are answered on a vault.
use Rattle.std.proofs.Common.{◌≡◌, inl, ℕ, ◌≤◌, List, refl, sym, ap, subst, arith}
use Rattle.std.specs.Prelude.{Some, Ok, Err}
use Rattle.site_types.specs.declared.answer.Answer.{Answer}
use Rattle.site_types.specs.declared.answer.Answer.TheVariants.{OutOfMemory, BadRequest}
use Rattle.vault_disk.specs.Disk.{Disk}
use Rattle.vault_disk.specs.Steps.{Rose}
use Rattle.vault_disk.specs.Input.{Input}
use Rattle.vault_disk.specs.Ticks.{Ticks}
use Rattle.pool_journal.specs.declared.fault.JournalFault.{JournalFault}
use Rattle.pool_journal.specs.declared.fault.JournalFault.TheVariants as journal
use Rattle.desk_model.specs.State.{State, durable}
use Rattle.vault_ledger.specs.Ledger.{stands}
use Rattle.site_desk.specs.Desk.{IsFaultOf}
use Rattle.site_desk.specs.Stands.{opened, state_in, Standing, Opens}
use Rattle.bp_cli.specs.Words.{timed_request}
use Rattle.bp_cli.specs.Runs.{refused, said, after_outcome, HasRisen, IsModels, refusal_of, Acts, Acted}
use Rattle.bp_cli.specs.Singles.{IsAnswered, IsExecuted}
use Rattle.bp_cli.specs.declared.words.TimedRequest.{TimedRequest}
use Rattle.bp_cli.proofs.Asking.{unread, unasked, untouched, asked_heard}
use Rattle.bp_cli.proofs.Executing.{acted_refused}
use Rattle.bp_cli.proofs.Leaving.{acts_unopened, acts_opened}
use Rattle.bp_cli.proofs.Rising.{risen_since}

-- the words ask for nothing, or no memory was left for reading them
module _ (words : List (List ℕ)) (s : State) (d : Disk) (input : Input) (ticks : Ticks) where
  pub answered_bad : (index : ℕ) → timed_request words ≡ Err index → Acted (IsAnswered words d d input input ticks ticks) s s d d (BadRequest index)
  answered_bad index is = acted_refused (IsAnswered words d d input input ticks ticks) s d (BadRequest index) ((is, untouched input ticks), tt)

  pub answered_memory : Acted (IsAnswered words d d input input ticks ticks) s s d d OutOfMemory
  answered_memory = acted_refused (IsAnswered words d d input input ticks ticks) s d OutOfMemory ((inl (unread input), unasked ticks), tt)

module _ (words : List (List ℕ)) (asked : TimedRequest) (words_ask : timed_request words ≡ Ok asked) (d0 d1 : Disk) (reads : d0.tells → d0.may_leave d0.seen) (opens : d0.tells → Opens d0 d1) where
  -- the opening was refused
  pub answered_unopened : (s : State) (input : Input) (ticks : Ticks) (fault : JournalFault) → (fault ≡ journal.DiskFault → Rose d0.faults d1.faults) → (d0.tells → IsFaultOf (opened d0.seen) fault) → Acted (IsAnswered words d0 d1 input input ticks ticks) s s d0 d1 (refusal_of fault)
  answered_unopened s input ticks fault failed is = record {
    outcome = refused (refusal_of fault);
    why = why fault failed is;
    is = refl;
    models = λ told standing. tt;
    moves = λ told standing ne. refl;
    acts = λ told standing. acts_unopened s d0 d1 standing (reads told) (opens told) (refusal_of fault);
  }
    where
      why : (f : JournalFault) → (f ≡ journal.DiskFault → Rose d0.faults d1.faults) → (d0.tells → IsFaultOf (opened d0.seen) f) → IsAnswered words d0 d1 input input ticks ticks (refused (refusal_of f))
      why journal.NoMemory fails of = ((inl (unread input), unasked ticks), tt)
      why journal.DiskFault fails of = ((record { asked = asked; words_ask = words_ask }, untouched input ticks), fails refl)
      why (journal.NotAVault offset) fails of = ((record { asked = asked; words_ask = words_ask }, untouched input ticks, of), tt)

  -- a desk answered
  pub answered_opened : (state state' : State) (d2 : Disk) (input input' : Input) (ticks ticks' : Ticks) (a : Answer) → (d0.tells → d1.tells) → d1.sent ≡ d0.sent → d0.faults ≤ d1.faults → (d0.tells → opened d0.seen ≡ Ok state) → ((t : State) → d0.tells → stands d0.seen ≡ Some t → (state ≡ t) × Standing d1 state)
      → Acted (λ o. IsExecuted asked input input' ticks ticks' o × HasRisen d1.faults d2.faults input.faults input'.faults ticks.faults ticks'.faults (said o)) state state' d1 d2 a → Acted (IsAnswered words d0 d2 input input' ticks ticks') (state_in (opened d0.seen)) state' d0 d2 a
  answered_opened state state' d2 input input' ticks ticks' a told_on sent_is earlier reads_as stands_on x =
      let found : d0.tells → state ≡ state_in (opened d0.seen) = λ told. sym (ap state_in (reads_as told)) in
      let s : State = state_in (opened d0.seen) in
      let stood : d0.tells → Standing d0 s → (state ≡ durable s) × Standing d1 state = λ told standing. stands_on (durable s) told (standing.each d0.seen (reads told)) in
      record {
        outcome = x.outcome;
        why = (
          asked_heard words d0.tells d0.seen input input' ticks ticks' asked state x.outcome words_ask reads_as x.why.0 (λ told is. x.models (told_on told) (stands_on state told is).1),
          risen_since (said x.outcome) d0.faults d1.faults d2.faults input.faults input.faults input'.faults ticks.faults ticks.faults ticks'.faults earlier (omega arith) (omega arith) x.why.1,
        );
        is = x.is;
        models = λ told standing. subst (λ (y : State). IsModels y x.outcome) (found told) (x.models (told_on told) (stood told standing).1);
        moves = λ told standing ne. subst (λ (y : State). state' ≡ after_outcome y x.outcome) (found told) (x.moves (told_on told) (stood told standing).1 ne);
        acts = λ told standing.
            subst (λ (y : State). Acts y d0 d2 x.outcome) (found told) (acts_opened s d0 d1 standing (reads told) (opens told) state x.outcome d2 (stood told standing).0 sent_is (x.acts (told_on told) (stood told standing).1));
      }
