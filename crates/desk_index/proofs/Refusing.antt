-- Steps that are refused.
use Rattle.std.proofs.Common.{◌≡◌, ◌≢◌, ℕ, Bool, true, false, List, [], ◌∷◌, ◌++◌, length, get_or, map, Option, Some, None, refl, sym, ap, subst, arith}
use Rattle.std.specs.Prelude.{codes, if◌then◌else◌}
use Rattle.std.specs.Option.{option_map_or}
use Rattle.site_types.specs.declared.answer.Answer.{Answer}
use Rattle.site_types.specs.declared.answer.Answer.TheVariants as answer
use Rattle.site_types.specs.declared.answer.Answer.TheVariants.{Done, OutOfMemory, Damaged, DiskFault}
use Rattle.site_types.specs.declared.request.Request.{Request}
use Rattle.site_types.specs.declared.request.Request.TheVariants as request
use Rattle.policy_book.specs.Book.{Book}
use Rattle.policy_book.specs.Requests.{refusals_of}
use Rattle.policy_book.specs.declared.fault.BookFault.{BookFault}
use Rattle.desk_model.specs.State.{State}
use Rattle.desk_model.specs.Refusals.{first_refusal}
use Rattle.desk_model.specs.Settings.{Removal, gone_client, gone_policy, refusal_answer, removal_of, setting_refusals, use_refusals, uses_of}
use Rattle.desk_model.specs.Step.{step}
use Rattle.desk_index.specs.Answers.{IsRefused, IsStepRefusal, IsUndone}

-- a refusal that is the model's
pub refused_as : (s : State) (request : Request) (payload : List ℕ) (moment : ℕ) (a : Answer) → IsUndone a → step s request payload moment ≡ (a, s) → IsRefused s request payload moment a
refused_as s request payload moment (Done body) refusal is = absurd refusal
refused_as s request payload moment DiskFault refusal is = absurd refusal
refused_as s request payload moment (Damaged recorded found) refusal is = absurd refusal
refused_as s request payload moment OutOfMemory refusal is = (tt, refl)
refused_as s request payload moment a refusal is = (sym (ap (λ (p : Answer × State). p.0) is), sym (ap (λ (p : Answer × State). p.1) is))

-- refusals that a step may give where they hold
abbrev pub ArePlain : List (Bool × Answer) → Type 0
ArePlain [] = Unit {0}
ArePlain (r ∷ rs) = (r.0 ≡ true → IsStepRefusal r.1) × ArePlain rs

pub first_plain : (refusals : List (Bool × Answer)) (a : Answer) → ArePlain refusals → first_refusal refusals ≡ Some a → IsStepRefusal a
first_plain [] a plain is = absurd (cc is)
first_plain (r ∷ rs) a plain is = at r.0 refl (first_plain rs a plain.1) is
  where
    at : (b : Bool) → r.0 ≡ b → (first_refusal rs ≡ Some a → IsStepRefusal a) → (if b then Some r.1 else first_refusal rs) ≡ Some a → IsStepRefusal a
    at true holds later here = let same : r.1 ≡ a = cc here in subst IsStepRefusal same (plain.0 holds)
    at false fails later there = later there

-- What a change of the site refuses.

-- a limit of something else than bytes
limited : (kind : List ℕ) (count limit : ℕ) → (kind ≢ codes "bytes") → IsStepRefusal (answer.TooMany kind count limit)
limited kind count limit other = ((λ same. absurd (other same)), tt)

plain_uses : (r : Request) (s : State) → ArePlain (use_refusals r s)
plain_uses r s = at (removal_of r)
  where
    at : (o : Option Removal) → ArePlain (option_map_or (λ removal. uses_of removal s) o [])
    at None = tt
    at (Some (gone_client name)) = ((λ _. (tt, tt)), ((λ _. (tt, tt)), tt))
    at (Some (gone_policy name)) = ((λ _. (tt, tt)), ((λ _. (tt, tt)), tt))

-- no refusal of a book speaks of bytes
abbrev ArePlainFaults : List (Bool × BookFault) → Type 0
ArePlainFaults [] = Unit {0}
ArePlainFaults (r ∷ rs) = IsStepRefusal (refusal_answer r.1) × ArePlainFaults rs

plain_book : (r : Request) (book : Book) → ArePlainFaults (refusals_of r book)
plain_book (request.UnitAdd name capacity segment fragment slots high low) book = (limited (codes "units") _ _ (λ same. omega (arith, ap (λ (l : List ℕ). get_or l 0 0) same)), ((tt, tt), tt))
plain_book (request.UnitChange name capacity slots high low) book = ((tt, tt), tt)
plain_book (request.ClientAdd name) book = (limited (codes "clients") _ _ (λ same. omega (arith, ap length same)), ((tt, tt), tt))
plain_book (request.ClientRemove name) book = ((tt, tt), ((tt, tt), tt))
plain_book (request.PolicyAdd policy policy_type lifecycle) book = (limited (codes "policies") _ _ (λ same. omega (arith, ap length same)), ((tt, tt), ((tt, tt), tt)))
plain_book (request.PolicyChange policy active lifecycle) book = ((tt, tt), ((tt, tt), tt))
plain_book (request.PolicyRemove policy) book = ((tt, tt), ((tt, tt), tt))
plain_book (request.PolicyClientAdd policy client) book = ((tt, tt), (limited (codes "policy-clients") _ _ (λ same. omega (arith, ap length same)), ((tt, tt), ((tt, tt), tt))))
plain_book (request.PolicyClientRemove policy client) book = ((tt, tt), ((tt, tt), tt))
plain_book (request.PolicySelect policy path) book = ((tt, tt), (limited (codes "selections") _ _ (λ same. omega (arith, ap length same)), ((tt, tt), tt)))
plain_book (request.PolicyUnselect policy path) book = ((tt, tt), ((tt, tt), tt))
plain_book (request.ScheduleAdd policy schedule kind frequency calendar windows) book = ((tt, tt), (limited (codes "schedules") _ _ (λ same. omega (arith, ap length same)), ((tt, tt), ((tt, tt), tt))))
plain_book (request.ScheduleChange policy schedule kind frequency calendar windows) book = ((tt, tt), ((tt, tt), ((tt, tt), tt)))
plain_book (request.ScheduleRemove policy schedule) book = ((tt, tt), ((tt, tt), tt))
plain_book (request.ZoneSet rule offset) book = tt
plain_book request.Load book = tt
plain_book (request.Backup client policy schedule start) book = tt
plain_book (request.Restore id copy) book = tt
plain_book (request.RestoreAt client policy before) book = tt

plain_before : (rs : List (Bool × BookFault)) (more : List (Bool × Answer)) → ArePlainFaults rs → ArePlain more → ArePlain (map (λ (r : Bool × BookFault). (r.0, refusal_answer r.1)) rs ++ more)
plain_before [] more faults plain = plain
plain_before (r ∷ rs) more faults plain = ((λ _. faults.0), plain_before rs more faults.1 plain)

pub plain_settings : (request : Request) (s : State) → ArePlain (setting_refusals request s)
plain_settings request s = plain_before (refusals_of request s.site.book) (use_refusals request s) (plain_book request s.site.book) (plain_uses request s)
