-- A counter with a limit.
use Rattle.std.specs.Prelude.{◌≡◌, ◌⊎◌, ℕ, ◌+◌, ltb, Bool, true, false, cond}
use Rattle.step_turn.specs.Meaning.{Meaning}
use Rattle.step_turn.specs.declared.counter.Counter.{Counter}
use Rattle.step_turn.specs.declared.counter.Counted.{Counted}
use Rattle.step_turn.specs.declared.counter.Counted.TheVariants.{Now, AtLimit, Failed}

pub record Tally : Type 0 where
  pub count : ℕ
  pub limit : ℕ

-- an amount is added, and the new count answered; one that would pass the limit is refused, and changes nothing
abbrev pub answer_of : Tally → ℕ → Counted
answer_of s amount = cond (ltb s.limit (s.count + amount)) AtLimit (Now (s.count + amount))

abbrev pub tally_after : Tally → ℕ → Tally
tally_after s amount = record { count = cond (ltb s.limit (s.count + amount)) s.count (s.count + amount); limit = s.limit }

abbrev pub is_failed : Counted → Bool
is_failed (Now count) = false
is_failed AtLimit = false
is_failed Failed = true

abbrev pub tally_of : Counter → Tally
tally_of c = record { count = c.count; limit = c.limit }

abbrev pub counting : Meaning Counter ℕ Counted
counting = record {
  State = Tally;
  tells = λ c. Unit {0};
  state = tally_of;
  stopped = λ c. c.stopped;
  between = λ c s t. (tally_of c ≡ s) ⊎ (tally_of c ≡ t);
  faults = λ c. c.faults;
  answers = λ s amount answer t. (answer ≡ answer_of s amount) × (t ≡ tally_after s amount);
  no_memory = λ answer. false;
  failed = is_failed;
  durable = λ s. s;
}
