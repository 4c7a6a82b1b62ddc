-- A site file of which nothing is refused has few requests: each but the first adds something to the book, which has room for 288,016.
use Rattle.desk_model.proofs.Common.{◌≡◌, ◌≤◌, ◌+◌, ◌∙◌, ℕ, zero, suc, Bool, true, false, List, [], ◌∷◌, length, drop, refl, sym, ap, subst, arith, Option, Some, None, Ok, Err, not, is_some, if◌then◌else◌, option_map_or, Contains, bytes_eq, false≢true, not-false, length_push, bytes_eq-Decides, text_is, Request, Answer, State, IsSoundBook, Book, Policy, unit_name, client_name, policy_name, schedule_name, named, has, put, changed, itself, unit_of, with_listed, with_path, with_schedule, first_refusal, setting_refusals, set_by, all_set}
use Rattle.std.proofs.Common.{◌*◌}
use Rattle.std.specs.Cmp.Lexicographic.{slice_cmp}
use Rattle.std.specs.List.{list_all}
use Rattle.std.specs.Ordering.{match_ordering, nat_cmp, is_eq}
use Rattle.std.specs.declared.cmp.Ordering.{Ordering}
use Rattle.std.specs.declared.cmp.Ordering.TheVariants.{Less, Equal, Greater}
use Rattle.std.proofs.lemmas.Bool.{and_parts}
use Rattle.std.proofs.lemmas.Map.Text.{is_eq-slice_cmp}
use Rattle.site_types.specs.declared.request.Request.TheVariants as request
use Rattle.site_types.specs.declared.schedule.Schedule.{Schedule}
use Rattle.site_types.proofs.OptionLemmas.{same_value}
use Rattle.policy_book.specs.Kinds.{takes_files}
use Rattle.policy_book.specs.Requests as requests
use Rattle.desk_model.proofs.NamedLemmas.{length-added, some_named}
use Rattle.desk_model.proofs.Passing.{all_passed}

-- How much a book lists.

abbrev policy_size : Policy → ℕ
policy_size p = 1 + length p.clients + length p.selections + length p.schedules

abbrev policies_size : List Policy → ℕ
policies_size [] = 0
policies_size (p ∷ ps) = policy_size p + policies_size ps

-- units, clients, and policies, each with its clients, selections and schedules
abbrev book_size : Book → ℕ
book_size book = length book.units + length book.clients + policies_size book.policies

-- the most that a sound book lists
sound_policies : (ps : List Policy) → ((p : Policy) → Contains ps p → policy_size p ≤ 1121) → policies_size ps ≤ 1121 * length ps
sound_policies [] each = omega arith
sound_policies (p ∷ ps) each =
    let here = each p (zero, omega arith, refl) in
    let rest = sound_policies ps (λ q among. each q (suc among.0, omega (arith, among.1), among.2)) in
    omega (arith, here, rest)

sound_size : (book : Book) → IsSoundBook book → book_size book ≤ 288016
sound_size book sound =
    let units = sound.ordered.few in
    let clients = sound.few_clients in
    let policies = sound.few_policies in
    let each = sound_policies book.policies (λ p among. policy_few p (sound.policies p among).few_clients (sound.policies p among).few_selections (sound.policies p among).few_schedules) in
    omega (arith, units, clients, policies, each)
  where
    policy_few : (p : Policy) → length p.clients ≤ 1024 → length p.selections ≤ 64 → length p.schedules ≤ 32 → policy_size p ≤ 1121
    policy_few p clients selections schedules = omega (arith, clients, selections, schedules)

-- Requests that add to the book.

abbrev pub adds : Request → Bool
adds (request.UnitAdd name capacity segment fragment slots high low) = true
adds (request.ClientAdd name) = true
adds (request.PolicyAdd policy policy_type lifecycle) = true
adds (request.PolicyClientAdd policy client) = true
adds (request.PolicySelect policy path) = true
adds (request.ScheduleAdd policy schedule kind frequency calendar windows) = true
adds _ = false

-- a policy that is added
policies_added : (new : Policy) (ps : List Policy) → has policy_name new.name ps ≡ false → suc (policies_size ps) ≤ policies_size (put policy_name new ps)
policies_added new [] lacks = omega arith
policies_added new (p ∷ ps) lacks = first (bytes_eq p.name new.name) refl (policies_added new ps) lacks
  where
    at : (o : Ordering) → slice_cmp nat_cmp new.name p.name ≡ o → bytes_eq p.name new.name ≡ false → suc (policies_size ps) ≤ policies_size (put policy_name new ps) → suc (policies_size (p ∷ ps)) ≤ policies_size (match_ordering o (new ∷ p ∷ ps) (new ∷ ps) (p ∷ put policy_name new ps))
    at Less is differs more = omega arith
    at Equal is differs more =
        let same : new.name ≡ p.name = text_is new.name p.name (sym (is_eq-slice_cmp new.name p.name) ∙ ap is_eq is) in
        absurd (false≢true (sym differs ∙ (bytes_eq-Decides p.name new.name).1 (sym same)))
    at Greater is differs more = omega (arith, more)

    first : (b : Bool) → bytes_eq p.name new.name ≡ b → (has policy_name new.name ps ≡ false → suc (policies_size ps) ≤ policies_size (put policy_name new ps)) → is_some (if b then Some p else named policy_name new.name ps) ≡ false → suc (policies_size (p ∷ ps)) ≤ policies_size (match_ordering (slice_cmp nat_cmp new.name p.name) (new ∷ p ∷ ps) (new ∷ ps) (p ∷ put policy_name new ps))
    first true is later none = absurd (false≢true (sym none))
    first false is later none = at (slice_cmp nat_cmp new.name p.name) refl is (later none)

-- nothing is lost where an element is put in
put_keeps : {A : Type 0} (name_of : A → List ℕ) (new : A) (xs : List A) → length xs ≤ length (put name_of new xs)
put_keeps name_of new [] = omega arith
put_keeps {A} name_of new (x ∷ xs) = at (slice_cmp nat_cmp (name_of new) (name_of x)) (put_keeps name_of new xs)
  where
    at : (o : Ordering) → length xs ≤ length (put name_of new xs) → length (x ∷ xs) ≤ length (match_ordering o (new ∷ x ∷ xs) (new ∷ xs) (x ∷ put name_of new xs))
    at Less more = omega arith
    at Equal more = omega arith
    at Greater more = omega (arith, more)

-- a policy that is changed so that it lists one more
module _ (name : List ℕ) (change : Policy → Policy) (keeps : (p : Policy) → policy_size p ≤ policy_size (change p)) where
  one_kept : (b : Bool) (p : Policy) → policy_size p ≤ policy_size (if b then change p else p)
  one_kept true p = keeps p
  one_kept false p = omega arith

  policies_kept : (ps : List Policy) → policies_size ps ≤ policies_size (changed policy_name name change ps)
  policies_kept [] = omega arith
  policies_kept (p ∷ ps) = omega (arith, one_kept (bytes_eq p.name name) p, policies_kept ps)

  policies_changed : (ps : List Policy) (one : Policy) → named policy_name name ps ≡ Some one → suc (policy_size one) ≤ policy_size (change one) → suc (policies_size ps) ≤ policies_size (changed policy_name name change ps)
  policies_changed [] one is more = absurd (cc is)
  policies_changed (p ∷ ps) one is more = at (bytes_eq p.name name) is (λ rest. policies_changed ps one rest more)
    where
      at : (b : Bool) → (if b then Some p else named policy_name name ps) ≡ Some one → (named policy_name name ps ≡ Some one → suc (policies_size ps) ≤ policies_size (changed policy_name name change ps)) → suc (policies_size (p ∷ ps)) ≤ policies_size ((if b then change p else p) ∷ changed policy_name name change ps)
      at true here later =
          let grown : suc (policy_size p) ≤ policy_size (change p) = subst (λ (q : Policy). suc (policy_size q) ≤ policy_size (change q)) (sym (same_value p one here)) more in
          omega (arith, grown, policies_kept ps)
      at false there later = omega (arith, later there)

-- the policy of a name, and something of it
policy_there : (name : List ℕ) (book : Book) → not (has policy_name name book.policies) ≡ false → (p : Policy) × (named policy_name name book.policies ≡ Some p)
policy_there name book lacks = some_named policy_name name book.policies (not-false (has policy_name name book.policies) lacks)

-- Each of them that is not refused makes the book longer.

raises : (r : Request) (s : State) → adds r ≡ true → first_refusal (setting_refusals r s) ≡ None → suc (book_size s.site.book) ≤ book_size (set_by r s).site.book
raises (request.UnitAdd name capacity segment fragment slots high low) s is none =
    let passed = all_passed (setting_refusals (request.UnitAdd name capacity segment fragment slots high low) s) none in
    let longer = length-added unit_name (unit_of name (length s.site.book.units) (record { capacity = capacity; segment = segment; fragment = fragment; slots = slots; high = high; low = low })) s.site.book.units passed.1.0 in
    omega (arith, longer)
raises (request.ClientAdd name) s is none =
    let passed = all_passed (setting_refusals (request.ClientAdd name) s) none in
    let longer = length-added client_name (record { name = name; last = 0 }) s.site.book.clients passed.1.0 in
    omega (arith, longer)
raises (request.PolicyAdd policy policy_type lifecycle) s is none =
    let passed = all_passed (setting_refusals (request.PolicyAdd policy policy_type lifecycle) s) none in
    let longer = policies_added (record { name = policy; files = takes_files policy_type; active = true; lifecycle = lifecycle; clients = []; selections = []; schedules = [] }) s.site.book.policies passed.1.0 in
    omega (arith, longer)
raises (request.PolicyClientAdd policy client) s is none =
    let passed = all_passed (setting_refusals (request.PolicyClientAdd policy client) s) none in
    let one = policy_there policy s.site.book passed.0 in
    let fresh : has itself client one.0.clients ≡ false = sym (ap (λ (o : Option Policy). has itself client (option_map_or (λ p. p.clients) o [])) one.1) ∙ passed.1.1.1.0 in
    let longer = length-added itself client one.0.clients fresh in
    let all = policies_changed policy (with_listed client) (λ p. let kept = put_keeps itself client p.clients in omega (arith, kept)) s.site.book.policies one.0 one.1 (omega (arith, longer)) in
    omega (arith, all)
raises (request.PolicySelect policy path) s is none =
    let passed = all_passed (setting_refusals (request.PolicySelect policy path) s) none in
    let one = policy_there policy s.site.book passed.0 in
    let all = policies_changed policy (with_path path) (λ p. let longer = length_push p.selections path in omega (arith, longer)) s.site.book.policies one.0 one.1 (let longer = length_push one.0.selections path in omega (arith, longer)) in
    omega (arith, all)
raises (request.ScheduleAdd policy schedule kind frequency calendar windows) s is none =
    let new : Schedule = requests.schedule_of schedule kind frequency calendar windows in
    let passed = all_passed (setting_refusals (request.ScheduleAdd policy schedule kind frequency calendar windows) s) none in
    let one = policy_there policy s.site.book passed.0 in
    let fresh : has schedule_name schedule one.0.schedules ≡ false = sym (ap (λ (o : Option Policy). has schedule_name schedule (option_map_or (λ p. p.schedules) o [])) one.1) ∙ passed.1.1.0 in
    let longer = length-added schedule_name new one.0.schedules fresh in
    let all = policies_changed policy (with_schedule new) (λ p. let kept = put_keeps schedule_name new p.schedules in omega (arith, kept)) s.site.book.policies one.0 one.1 (omega (arith, longer)) in
    omega (arith, all)
raises r s is none = absurd (false≢true is)

-- requests that were carried out, each of which adds something
all_raise : (rs : List Request) (s t : State) → list_all adds rs ≡ true → all_set rs s ≡ Ok t → length rs + book_size s.site.book ≤ book_size t.site.book
all_raise [] s t are is =
    let same : s ≡ t = cc is in
    let kept : book_size s.site.book ≤ book_size t.site.book = subst (λ (u : State). book_size s.site.book ≤ book_size u.site.book) same (omega arith) in
    omega (arith, kept)
all_raise (r ∷ rs) s t are is = at (first_refusal (setting_refusals r s)) refl (all_raise rs (set_by r s) t parts.1) is
  where
    parts : (adds r ≡ true) × (list_all adds rs ≡ true)
    parts = and_parts (adds r) (list_all adds rs) are

    at : (o : Option Answer) → first_refusal (setting_refusals r s) ≡ o → (all_set rs (set_by r s) ≡ Ok t → length rs + book_size (set_by r s).site.book ≤ book_size t.site.book) → option_map_or (λ a. Err a) o (all_set rs (set_by r s)) ≡ Ok t → length (r ∷ rs) + book_size s.site.book ≤ book_size t.site.book
    at None none later done = let here = raises r s parts.0 none in omega (arith, here, later done)
    at (Some a) refused later done = absurd (cc done)

first_set : (r : Request) (rs : List Request) (s t : State) → all_set (r ∷ rs) s ≡ Ok t → all_set rs (set_by r s) ≡ Ok t
first_set r rs s t is = at (first_refusal (setting_refusals r s)) is
  where
    at : (o : Option Answer) → option_map_or (λ a. Err a) o (all_set rs (set_by r s)) ≡ Ok t → all_set rs (set_by r s) ≡ Ok t
    at None done = done
    at (Some a) done = absurd (cc done)

-- all of them but the first, which may set the zone
pub few_behind : (rs : List Request) (s t : State) → list_all adds (drop 1 rs) ≡ true → all_set rs s ≡ Ok t → IsSoundBook t.site.book → length rs ≤ 288017
few_behind [] s t are is sound = omega arith
few_behind (r ∷ rs) s t are is sound =
    let all = all_raise rs (set_by r s) t are (first_set r rs s t is) in
    let most = sound_size t.site.book sound in
    omega (arith, all, most)
