-- A request on an open desk, from the step that carried it out.
use Rattle.std.proofs.Common.{◌≡◌, ◌≢◌, ◌⊎◌, inl, inr, ⊎_elim, ℕ, List, refl, ◌∙◌, ap}
use Rattle.std.specs.Prelude.{Some}
use Rattle.site_types.specs.declared.request.Request.{Request}
use Rattle.site_types.specs.declared.answer.Answer.{Answer}
use Rattle.site_types.specs.declared.answer.Answer.TheVariants.{OutOfMemory, DiskFault}
use Rattle.vault_disk.specs.Disk.{Disk, Image}
use Rattle.vault_disk.proofs.Moments.{started, weaker}
use Rattle.desk_model.specs.State.{State, durable}
use Rattle.desk_model.specs.Replay.{Mark, plain, memory, fault, Entry, answer_of}
use Rattle.vault_ledger.specs.Ledger.{stands}
use Rattle.desk_index.specs.Answers.{Answered, Moved, reached}
use Rattle.site_desk.specs.Stands.{Standing, StandsFor, Between}
use Rattle.bp_cli.specs.Runs.{Outcome, refused, carried, after_outcome, EndsBy, Ends, Acts, Acted}

abbrev pub mark_of : Answer → Mark
mark_of OutOfMemory = memory
mark_of DiskFault = fault
mark_of _ = plain

abbrev pub entry_of : Request → List ℕ → ℕ → Answer → Entry
entry_of r payload moment a = record { request = r; payload = payload; moment = moment; mark = mark_of a }

module _ (s : State) (r : Request) (payload : List ℕ) (moment : ℕ) where
  marked : (a : Answer) → Answered s r payload moment a → a ≡ answer_of s (entry_of r payload moment a)
  marked OutOfMemory is = refl
  marked DiskFault is = refl
  marked _ is = is

  moved_after : (new : State) (a : Answer) → a ≢ DiskFault → Moved s r payload moment a new → new ≡ after_outcome s (carried (entry_of r payload moment a) a)
  moved_after new OutOfMemory ne moved = moved
  moved_after new DiskFault ne moved = absurd (ne refl)
  moved_after new _ ne moved = moved

  before_or_after : (a : Answer) (c : Image) → StandsFor s (reached s r payload moment a) c → (stands c ≡ Some (durable s)) ⊎ EndsBy s (entry_of r payload moment a) (mark_of a) c
  before_or_after OutOfMemory c left = inl (⊎_elim (λ was. was) (λ is. is) left)
  before_or_after DiskFault c left = inr left
  before_or_after _ c left = left

  ended : (a : Answer) (new : State) (d0 d1 : Disk) → (a ≢ DiskFault → Standing d1 new) → Moved s r payload moment a new → Between s (reached s r payload moment a) d0 d1 → (c : Image) → d1.may_leave c → EndsBy s (entry_of r payload moment a) (mark_of a) c
  ended OutOfMemory new d0 d1 standing moved between c left = (standing (λ z. absurd (cc z))).each c left ∙ ap (λ (x : State). Some (durable x)) moved
  ended DiskFault new d0 d1 standing moved between c left = between.left c left
  ended _ new d0 d1 standing moved between c left = (standing (λ z. absurd (cc z))).each c left ∙ ap (λ (x : State). Some (durable x)) moved

  -- it was carried out
  pub acted_step : (Why : Outcome → Type 0) (new : State) (d0 d1 : Disk) (a : Answer) → Why (carried (entry_of r payload moment a) a) → (d0.tells → Standing d0 s → Answered s r payload moment a) → (d0.tells → Standing d0 s → a ≢ DiskFault → Standing d1 new)
      → (d0.tells → Standing d0 s → Moved s r payload moment a new) → (d0.tells → Standing d0 s → Between s (reached s r payload moment a) d0 d1) → Acted Why s new d0 d1 a
  acted_step Why new d0 d1 a why answered standing moved between = record {
    outcome = carried (entry_of r payload moment a) a;
    why = why;
    is = refl;
    models = λ told standing0. marked a (answered told standing0);
    moves = λ told standing0 ne. moved_after new a ne (moved told standing0);
    acts = λ told standing0. record {
      now = ended a new d0 d1 (standing told standing0) (moved told standing0) (between told standing0);
      during = weaker d0 d1 (λ c b. StandsFor s (reached s r payload moment a) c × (b ≡ d0.sent)) (λ c b. ((stands c ≡ Some (durable s)) ⊎ Ends s (carried (entry_of r payload moment a) a) c) × (b ≡ d0.sent)) (λ c b left. (before_or_after a c left.0, left.1)) (between told standing0).during;
    };
  }

-- nothing was
pub acts_none : (s : State) (d : Disk) (a : Answer) → Standing d s → Acts s d d (refused a)
acts_none s d a standing = record {
  now = λ c left. standing.each c left;
  during = started d (λ c b. ((stands c ≡ Some (durable s)) ⊎ Ends s (refused a) c) × (b ≡ d.sent));
}

pub acted_refused : (Why : Outcome → Type 0) (s : State) (d : Disk) (a : Answer) → Why (refused a) → Acted Why s s d d a
acted_refused Why s d a why = record {
  outcome = refused a;
  why = why;
  is = refl;
  models = λ told standing. tt;
  moves = λ told standing ne. refl;
  acts = λ told standing. acts_none s d a standing;
}
