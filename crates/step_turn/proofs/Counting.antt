-- The counter is an object that steps.
use Rattle.std.proofs.Common.{◌≡◌, ◌⊎◌, ℕ, true, false, refl, ◌∙◌, inl, inr, ⊎_elim}
use Rattle.std.specs.Prelude.{Ok, Err}
use Rattle.step_turn.specs.Meaning.{running, halted, Stepped, ReopenedSo}
use Rattle.step_turn.specs.Counters.{answer_of, tally_after, tally_of, counting}
use Rattle.step_turn.specs.declared.counter.Counter.{Counter}
use Rattle.step_turn.specs.declared.counter.Counted.{Counted}
use Rattle.step_turn.specs.declared.counter.Counted.TheVariants.{Failed}

pub same_tally : (c d : Counter) → c.count ≡ d.count → c.limit ≡ d.limit → tally_of c ≡ tally_of d
same_tally c d e f = λ k. record { count = e k; limit = f k }

pub reopened : (old new : Counter) → tally_of new ≡ tally_of old → new.stopped ≡ false → ReopenedSo counting old new (Ok tt)
reopened old new same runs s t between =
    ⊎_elim
    (λ (e : tally_of old ≡ s). (tt, (running s, inl refl, (runs, same ∙ e))))
    (λ (e : tally_of old ≡ t). (tt, (running t, inr refl, (runs, same ∙ e))))
    between

pub refused : (old new : Counter) → tally_of new ≡ tally_of old → new.stopped ≡ true → ReopenedSo counting old new (Err Failed)
refused old new same stops s t between =
    (tt, inr refl, (stops, ⊎_elim (λ (e : tally_of old ≡ s). inl (same ∙ e)) (λ (e : tally_of old ≡ t). inr (same ∙ e)) between))

pub stepped : (old new : Counter) (amount : ℕ) (answer : Counted) → answer ≡ answer_of (tally_of old) amount → tally_of new ≡ tally_after (tally_of old) amount → new.stopped ≡ false → Stepped counting old amount answer new
stepped old new amount answer is after runs = record {
  tells = tt;
  standing = running (tally_after (tally_of old) amount);
  calls = inl (tally_after (tally_of old) amount, (is, refl), refl);
  is_at = (runs, after);
}

pub failed : (old new : Counter) (amount : ℕ) → (tally_of new ≡ tally_of old) ⊎ (tally_of new ≡ tally_after (tally_of old) amount) → new.stopped ≡ true → Stepped counting old amount Failed new
failed old new amount either stops = record {
  tells = tt;
  standing = halted (tally_of old) (tally_after (tally_of old) amount);
  calls = inr (inr (refl, (tally_after (tally_of old) amount, answer_of (tally_of old) amount, (refl, refl), refl)));
  is_at = (stops, either);
}
