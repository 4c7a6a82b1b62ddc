-- Why the words of a single request are answered so.
use Rattle.std.proofs.Common.{◌≡◌, inl, inr, ℕ, ◌≤◌, List, length, refl, sym, subst}
use Rattle.std.specs.Prelude.{Bool, Option, Some, Ok}
use Rattle.site_types.specs.Answers.{NeedsMemory}
use Rattle.site_types.specs.Requests.{takes_payload}
use Rattle.site_types.specs.declared.answer.Answer.{Answer}
use Rattle.site_types.specs.declared.answer.Answer.TheVariants.{OutOfMemory, BadRequest, TooMany, DiskFault, ReadFault, ClockFault, NotAVault}
use Rattle.site_types.specs.Limits.{payload_limit}
use Rattle.site_types.specs.declared.request.Request.{Request}
use Rattle.vault_disk.specs.Disk.{Image}
use Rattle.vault_disk.specs.Steps.{Rose}
use Rattle.vault_disk.specs.Input.{Input}
use Rattle.vault_disk.specs.Ticks.{Ticks}
use Rattle.desk_model.specs.State.{State}
use Rattle.vault_ledger.specs.Ledger.{stands}
use Rattle.desk_index.specs.Answers.{IsOfRequest}
use Rattle.site_desk.specs.Stands.{opened}
use Rattle.bp_cli.specs.Words.{timed_request}
use Rattle.bp_cli.specs.Gather.{IsUnread, IsUnasked, IsUntouched, IsGiven, IsUngathered, Gathers}
use Rattle.bp_cli.specs.Runs.{Outcome, refused, carried, said, HasRisen, IsModels}
use Rattle.bp_cli.specs.Singles.{IsAsked, IsExecuted}
use Rattle.bp_cli.specs.declared.words.TimedRequest.{TimedRequest}
use Rattle.bp_cli.specs.declared.gather.Inputs.{Inputs}
use Rattle.bp_cli.proofs.Executing.{entry_of}
use Rattle.bp_cli.proofs.Replying.{forgotten}
use Rattle.bp_cli.proofs.Rising.{risen}

pub unread : (input : Input) → IsUnread input input
unread input = record { left = refl; budget = refl; faults = refl }

pub unasked : (ticks : Ticks) → IsUnasked ticks ticks
unasked ticks = record { gave = refl; faults = refl }

pub untouched : (input : Input) (ticks : Ticks) → IsUntouched input input ticks ticks
untouched input ticks = record { source = unread input; clock = unasked ticks }

-- a fault in gathering has its cause
pub ungathered_rose : (a : Answer) (takes : Bool) (named : Option ℕ) (d d' : ℕ) (input input' : Input) (ticks ticks' : Ticks) → IsUngathered takes named input input' ticks ticks' a → HasRisen d d' input.faults input'.faults ticks.faults ticks'.faults a
ungathered_rose OutOfMemory takes named d d' input input' ticks ticks' is = tt
ungathered_rose ReadFault takes named d d' input input' ticks ticks' is = is.1
ungathered_rose (TooMany kind count limit) takes named d d' input input' ticks ticks' is = tt
ungathered_rose ClockFault takes named d d' input input' ticks ticks' is = is.1.rose
ungathered_rose _ takes named d d' input input' ticks ticks' is = absurd is

-- a desk answered
module _ (words : List (List ℕ)) (tells : Type 0) (seen : Image) (input input' : Input) (ticks ticks' : Ticks) where
  pub asked_heard : (asked : TimedRequest) (state : State) (o : Outcome) → timed_request words ≡ Ok asked → (tells → opened seen ≡ Ok state) → IsExecuted asked input input' ticks ticks' o → (tells → stands seen ≡ Some state → IsModels state o) → IsAsked words tells seen input input' ticks ticks' o
  asked_heard asked state (refused OutOfMemory) words_ask opens executed models = (inr (record { asks = record { asked = asked; words_ask = words_ask }; takes = executed.0 }), executed.1)
  asked_heard asked state (refused (BadRequest index)) words_ask opens executed models = absurd executed
  asked_heard asked state (refused DiskFault) words_ask opens executed models = absurd executed
  asked_heard asked state (refused (NotAVault offset)) words_ask opens executed models = absurd executed
  asked_heard asked state o words_ask opens executed models = record { asks = record { asked = asked; words_ask = words_ask }; opening = record { state = state; reads = opens }; executed = executed; models = models }

  -- want of memory for the text of an answer is asked for as the answer is
  pub asked_forgotten : (o : Outcome) → IsAsked words tells seen input input' ticks ticks' o → NeedsMemory (said o) → IsAsked words tells seen input input' ticks ticks' (forgotten o)
  asked_forgotten (refused (BadRequest index)) is needs = (inl is.1.source, is.1.clock)
  asked_forgotten (refused (NotAVault offset)) is needs = (inl is.1.source, is.1.clock)
  asked_forgotten (refused (TooMany kind count limit)) is needs = (inr (record { asks = is.asks; takes = is.executed.0.takes_it }), is.executed.1)
  asked_forgotten (refused OutOfMemory) is needs = absurd needs
  asked_forgotten (refused DiskFault) is needs = absurd needs
  asked_forgotten (refused ReadFault) is needs = absurd needs
  asked_forgotten (refused ClockFault) is needs = absurd needs
  asked_forgotten (refused _) is needs = absurd is.executed
  asked_forgotten (carried e a) is needs =
      let x = is.executed in
      record {
        asks = is.asks;
        opening = is.opening;
        executed = record { of = record { request = x.of.request; kind = tt }; payload = x.payload; short = x.short; moment = x.moment };
        models = λ told standing. refl;
      }

-- it was carried out
pub executed_step : (asked : TimedRequest) (input input' : Input) (ticks ticks' : Ticks) (g : Inputs) (payload : List ℕ) (a : Answer) → payload ≡ g.payload → Gathers (takes_payload asked.request) asked.moment input input' ticks ticks' g → IsOfRequest asked.request payload a
    → IsExecuted asked input input' ticks ticks' (carried (entry_of asked.request payload g.moment a) a)
executed_step asked input input' ticks ticks' g payload a is gathers kind = record {
  of = record { request = refl; kind = kind };
  payload = subst (λ (x : List ℕ). IsGiven (takes_payload asked.request) x input input') (sym is) gathers.payload;
  short = subst (λ (x : List ℕ). length x ≤ payload_limit) (sym is) gathers.short;
  moment = gathers.moment;
}

pub step_rose : (r : Request) (payload : List ℕ) (a : Answer) (d d' i i' t t' : ℕ) → IsOfRequest r payload a → (a ≡ DiskFault → Rose d d') → HasRisen d d' i i' t t' a
step_rose r payload a d d' i i' t t' kind failed = risen a d d' i i' t t' failed (λ is. absurd (subst (IsOfRequest r payload) is kind)) (λ is. absurd (subst (IsOfRequest r payload) is kind))
