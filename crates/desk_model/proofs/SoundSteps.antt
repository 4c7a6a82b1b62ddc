-- Each step keeps a state sound.
use Rattle.desk_model.proofs.Common.{rules, ◌≡◌, ◌≤◌, ◌<◌, ◌∙◌, ℕ, zero, suc, Bool, true, false, List, [], ◌∷◌, ◌++◌, length, refl, sym, ap, subst, arith, Option, Some, None, Result, Ok, Err, is_some, unwrap_or, not, ◌&&◌, if◌then◌else◌, nat_le, nat_lt, fold, Contains, option_map_or, is_utf8, false≢true, nat_tests, last_moment, Answer, BackupId, Request, has, Policy, Book, policy_name, client_limit, adhoc, manual, last_of, State, initial, entries, Image, Job, has_image, Case, first_refusal, unless_refused, step_of, Asked, asked_of, image_limit, takes_all, is_known, last_time, later_job, latest_version, policy_asked, schedule_asked, backup_refusals, backup_case, base_of, image_asked, setting_refusals, set_by, zone_set, all_set, state_of, file_requests, file_case, case_of, step, Sound, IsBase, has_version}
use Rattle.std.specs.Result.{result_ok}
use Rattle.site_types.specs.Classes.{RequestClass, site_change, site_file, backup, restore, restore_at, class_of}
use Rattle.site_types.specs.Requests.{read_words}
use Rattle.site_types.specs.declared.request.Request.TheVariants as request
use Rattle.site_types.specs.declared.schedule.Schedule.{Schedule}
use Rattle.site_types.proofs.OptionLemmas.{guarded, chained, mapped}
use Rattle.schedule_windows.specs.Zones.{ZoneOf}
use Rattle.policy_book.specs.Kinds.{takes_files}
use Rattle.policy_book.specs.Requests.{schedule_of}
use Rattle.policy_book.specs.SiteFile.{Line, change_in, change_read, changes_site, requests_of, site_requests}
use Rattle.site_types.specs.declared.image.ImageRecord.{ImageRecord}
use Rattle.restore_engine.proofs.ReferenceLemmas.{referenced}
use Rattle.desk_model.specs.Backups.{backup_content, backup_shown, pieces_held_asked, pieces_needed_asked, reference_of, segment_refusals, unit_asked}
use Rattle.desk_model.proofs.NamedLemmas.{found_named}
use Rattle.desk_model.proofs.Passing.{all_passed, there_is}
use Rattle.desk_model.proofs.ImageLists.{has_one, of_entries}
use Rattle.desk_model.proofs.RuleLemmas.{latest_there}
use Rattle.desk_model.proofs.Staying.{resited, lists_changed}
use Rattle.desk_model.proofs.Asking.{Asks, words_ask}
use Rattle.desk_model.proofs.SiteSound.{client_is_added, client_is_removed, policy_is_added, policy_is_removed, policy_is_set, client_is_listed, client_is_unlisted, path_is_selected, path_is_unselected, schedule_is_added, schedule_is_changed, schedule_is_removed, unit_is_added, unit_is_changed}
use Rattle.desk_model.proofs.SealSound.{Fits, seal_sound}

-- the state of a new vault is sound
pub sound_initial : Sound initial
sound_initial = search rules

-- Changes of the site.

rezoned : (s : State) → Sound s → (zone : ZoneOf) → Sound (resited s (record { book = s.site.book; zone = zone }) s.stored)
rezoned s sound zone = lists_changed s sound s.site.book.clients s.site.book.policies zone sound.site
    (λ image among. record { client = (sound.images image among).client; last = omega arith; policy = (sound.images image among).policy; pieces = λ unit piece there. there })

pub set_sound : (r : Request) (s : State) → Sound s → Asks r → first_refusal (setting_refusals r s) ≡ None → Sound (set_by r s)
set_sound (request.UnitAdd name capacity segment fragment slots high low) s sound asks none =
    let passed = all_passed (setting_refusals (request.UnitAdd name capacity segment fragment slots high low) s) none in
    unit_is_added s sound name (record { capacity = capacity; segment = segment; fragment = fragment; slots = slots; high = high; low = low }) asks passed.0 passed.1.0
set_sound (request.UnitChange name capacity slots high low) s sound asks none = unit_is_changed s sound name (record { capacity = capacity; slots = slots; high = high; low = low }) asks
set_sound (request.ClientAdd name) s sound asks none =
    let passed = all_passed (setting_refusals (request.ClientAdd name) s) none in
    client_is_added s sound name passed.0 passed.1.0
set_sound (request.ClientRemove name) s sound asks none =
    let passed = all_passed (setting_refusals (request.ClientRemove name) s) none in
    client_is_removed s sound name passed.1.0 passed.1.1.0
set_sound (request.PolicyAdd policy policy_type lifecycle) s sound asks none =
    let passed = all_passed (setting_refusals (request.PolicyAdd policy policy_type lifecycle) s) none in
    policy_is_added s sound policy (takes_files policy_type) lifecycle passed.0 passed.1.1.0
set_sound (request.PolicyChange policy active lifecycle) s sound asks none =
    let passed = all_passed (setting_refusals (request.PolicyChange policy active lifecycle) s) none in
    policy_is_set s sound policy active lifecycle passed.1.0
set_sound (request.PolicyRemove policy) s sound asks none =
    let passed = all_passed (setting_refusals (request.PolicyRemove policy) s) none in
    policy_is_removed s sound policy passed.1.1.0
set_sound (request.PolicyClientAdd policy client) s sound asks none =
    let passed = all_passed (setting_refusals (request.PolicyClientAdd policy client) s) none in
    client_is_listed s sound policy client passed.1.0 passed.1.1.0
set_sound (request.PolicyClientRemove policy client) s sound asks none = client_is_unlisted s sound policy client
set_sound (request.PolicySelect policy path) s sound asks none =
    let passed = all_passed (setting_refusals (request.PolicySelect policy path) s) none in
    path_is_selected s sound policy path passed.1.0
set_sound (request.PolicyUnselect policy path) s sound asks none = path_is_unselected s sound policy path
set_sound (request.ScheduleAdd policy schedule kind frequency calendar windows) s sound asks none =
    let passed = all_passed (setting_refusals (request.ScheduleAdd policy schedule kind frequency calendar windows) s) none in
    schedule_is_added s sound policy (schedule_of schedule kind frequency calendar windows) passed.1.0 passed.1.1.1.0
set_sound (request.ScheduleChange policy schedule kind frequency calendar windows) s sound asks none =
    let passed = all_passed (setting_refusals (request.ScheduleChange policy schedule kind frequency calendar windows) s) none in
    schedule_is_changed s sound policy (schedule_of schedule kind frequency calendar windows) passed.1.0 passed.1.1.0
set_sound (request.ScheduleRemove policy schedule) s sound asks none = schedule_is_removed s sound policy schedule
set_sound r s sound asks none = rezoned s sound (unwrap_or (zone_set r) s.site.zone)

-- The requests of a site file.

pub all_set_sound : (requests : List Request) (s : State) → ((r : Request) → Contains requests r → Asks r) → Sound s → (t : State) → all_set requests s ≡ Ok t → Sound t
all_set_sound [] s asks sound t is = let same : s ≡ t = cc is in subst Sound same sound
all_set_sound (r ∷ requests) s asks sound t is = at (first_refusal (setting_refusals r s)) refl (all_set_sound requests (set_by r s) (λ q among. asks q (suc among.0, omega (arith, among.1), among.2))) is
  where
    at : (o : Option Answer) → first_refusal (setting_refusals r s) ≡ o → (Sound (set_by r s) → (u : State) → all_set requests (set_by r s) ≡ Ok u → Sound u) → option_map_or (λ a. Err a) o (all_set requests (set_by r s)) ≡ Ok t → Sound t
    at None none later done = later (set_sound r s sound (asks r (0, omega arith, refl)) none) t done
    at (Some a) refused later done = absurd (cc done)

read_so : (line : Line) (r : Request) → result_ok (read_words line) ≡ Some r → Asks r
read_so line r is = at (read_words line) refl is
  where
    at : (o : Result Request ℕ) → read_words line ≡ o → result_ok o ≡ Some r → Asks r
    at (Ok x) read some = let same : x ≡ r = cc some in words_ask line r (read ∙ ap (λ (y : Request). Ok y) same)
    at (Err index) read some = absurd (cc some)

changed_so : (line : Line) (r : Request) → change_read line ≡ Some r → Asks r
changed_so line r is =
    let read = chained change_in (result_ok (read_words line)) r is in
    read_so line r (read.1 ∙ (guarded (changes_site read.0) (Some read.0) r read.2).1)

lines_ask : (lines : List Line) (requests : List Request) → requests_of lines ≡ Some requests → (r : Request) → Contains requests r → Asks r
lines_ask [] requests is r among = let none : [] ≡ requests = cc is in absurd (nothing (subst (λ (rs : List Request). Contains rs r) (sym none) among))
  where
    nothing : Contains [] r → ⊥
    nothing (k, lt, here) = absurd (omega arith)
lines_ask (line ∷ lines) requests is r among =
    let first = chained _ (change_read line) requests is in
    let rest = mapped (λ rs. first.0 ∷ rs) (requests_of lines) requests first.2 in
    at first.0 rest.0 (changed_so line first.0 first.1) (lines_ask lines rest.0 rest.1) (subst (λ (rs : List Request). Contains rs r) (sym rest.2) among)
  where
    at : (x : Request) (xs : List Request) → Asks x → ((q : Request) → Contains xs q → Asks q) → Contains (x ∷ xs) r → Asks r
    at x xs here later (zero, lt, is) = subst Asks is here
    at x xs here later (suc k, lt, is) = later r (k, omega arith, is)

file_asks : (payload : List ℕ) (r : Request) → Contains (unwrap_or (file_requests payload) []) r → Asks r
file_asks payload r among = at (file_requests payload) refl among
  where
    at : (o : Option (List Request)) → file_requests payload ≡ o → Contains (unwrap_or o []) r → Asks r
    at None is (k, lt, here) = absurd (omega arith)
    at (Some requests) is there =
        let site = guarded (is_utf8 payload) (site_requests payload) requests is in
        let lines = chained requests_of _ requests site.1 in
        lines_ask lines.0 requests lines.2 r there

-- Backups.

-- of refusals of which none holds the first part has none that does
none_before : (before behind : List (Bool × Answer)) → first_refusal (before ++ behind) ≡ None → first_refusal before ≡ None
none_before [] behind none = refl
none_before (r ∷ before) behind none = at r.0 (none_before before behind) none
  where
    at : (b : Bool) → (first_refusal (before ++ behind) ≡ None → first_refusal before ≡ None) → (if b then Some r.1 else first_refusal (before ++ behind)) ≡ None → (if b then Some r.1 else first_refusal before) ≡ None
    at true later some = some
    at false later rest = later rest

client_room : (takes there : Bool) (count : ℕ) → (not takes && not there) ≡ false → (takes && not there && nat_le client_limit count) ≡ false → there ≡ false → (takes ≡ true) × (count < client_limit)
client_room takes true count p q unknown = absurd (false≢true (sym unknown))
client_room true false count p q unknown = (refl, grind (arith, nat_tests, q))
client_room false false count p q unknown = absurd (cc p)

-- a backup that nothing refuses is of an image that fits
module _ (s : State) (sound : Sound s) (asked : Asked) (payload : List ℕ) (moment : ℕ) where
  abbrev book : Book
  book = s.site.book

  abbrev policy : Policy
  policy = unwrap_or (policy_asked asked s) adhoc

  abbrev schedule : Schedule
  schedule = unwrap_or (schedule_asked asked s) manual

  abbrev image : Image
  image = image_asked asked payload moment s

  last_is : last_time asked.client s ≡ last_of asked.client book
  last_is = ap (λ (jobs : List (ℕ × Job)). fold (later_job asked.client) (last_of asked.client book) jobs) sound.no_jobs

  -- its base is an image of the client, whose last id time is at or above its time
  base_below : IsBase image.entry.base image.entry.id.time
  base_below = at (reference_of asked.client policy schedule s) refl
    where
      at : (o : Option ℕ) → reference_of asked.client policy schedule s ≡ o → IsBase (base_of o) image.entry.id.time
      at None is = tt
      at (Some time) is =
          let found = referenced policy.name asked.client schedule.kind (entries s.images) time is in
          let one = of_entries s.images found.0 found.1 in
          let kept = sound.images one.0 one.1 in
          let first : 1 ≤ time = subst (λ (k : ℕ). 1 ≤ k) (ap (λ (e : ImageRecord). e.id.time) one.2 ∙ found.3) kept.time.0 in
          let low : time ≤ last_of asked.client book =
          subst (λ (k : ℕ). k ≤ last_of asked.client book) (ap (λ (e : ImageRecord). e.id.time) one.2 ∙ found.3)
          (subst (λ (name : List ℕ). one.0.entry.id.time ≤ last_of name book) (ap (λ (e : ImageRecord). e.id.client) one.2 ∙ found.2) kept.last) in
          (first, omega (arith, low, last_is))

  new_one : has_image image.entry.id s.images ≡ false
  new_one = at (has_image image.entry.id s.images) refl
    where
      at : (b : Bool) → has_image image.entry.id s.images ≡ b → b ≡ false
      at false is = refl
      at true is =
          let one = has_one image.entry.id s.images is in
          let low : image.entry.id.time ≤ last_of asked.client book = subst (λ (id : BackupId). id.time ≤ last_of id.client book) one.2 (sound.images one.0 one.1).last in
          absurd (omega (arith, low, last_is))

  -- what its unit's slots refuse isn't looked at
  pub content_fits : moment ≤ last_moment → first_refusal (backup_refusals asked moment s) ≡ None → first_refusal (backup_content asked payload moment s) ≡ None → Fits s image.entry moment
  content_fits early none none_content =
      let passed = all_passed (backup_refusals asked moment s) none in
      let one = there_is (policy_asked asked s) passed.1.0 in
      let found = found_named policy_name asked.policy book.policies one.0 one.1 in
      let policy_is : policy ≡ one.0 = ap (λ (o : Option Policy). unwrap_or o adhoc) one.1 in
      let full : nat_le image_limit (length s.images) ≡ false = passed.0 in
      let late : nat_lt last_moment image.entry.id.time ≡ false = passed.1.1.1.1.1.1.1.1.1.0 in
      let many = (all_passed (backup_content asked payload moment s) none_content).1.0 in
      record {
        room = grind (arith, nat_tests, full);
        fresh = new_one;
        policy = subst (λ (p : Policy). has policy_name p.name book.policies ≡ true) (sym policy_is) (ap (λ (n : List ℕ). has policy_name n book.policies) found.0 ∙ ap is_some one.1);
        version = subst (λ (p : Policy). has_version p.lifecycle (latest_version p.lifecycle book) book ≡ true) (sym policy_is) (latest_there book sound.site.lifecycles one.0.lifecycle (sound.site.policies one.0 found.1).lifecycle);
        client = λ unknown.
            let room = client_room (takes_all asked.policy) (is_known asked.client book) (length book.clients) passed.1.1.0 passed.1.1.1.0 unknown in
            (subst (λ (p : Policy). takes_all p.name ≡ true) (sym policy_is) (ap takes_all found.0 ∙ room.0), room.1);
        time = (omega arith, grind (arith, nat_tests, late));
        base = base_below;
        completed = early;
        few = grind (arith, nat_tests, many);
      }

  pub backup_fits : moment ≤ last_moment → first_refusal (backup_refusals asked moment s) ≡ None → first_refusal (backup_shown asked payload moment s) ≡ None → Fits s image.entry moment
  backup_fits early none none_shown = content_fits early none (none_before (backup_content asked payload moment s) (segment_refusals (unit_asked asked s) (pieces_held_asked asked s) (pieces_needed_asked asked payload moment s)) none_shown)

  pub backup_sound : moment ≤ last_moment → first_refusal (backup_refusals asked moment s) ≡ None → first_refusal (backup_shown asked payload moment s) ≡ None → Sound (backup_case asked payload moment s).after
  backup_sound early none none_shown = seal_sound s sound image.entry.id policy.name schedule.name schedule.kind image.entry.base policy.lifecycle (latest_version policy.lifecycle book) moment image.bytes (backup_fits early none none_shown)

-- Steps.

-- a case whose state is sound where nothing refuses it
case_sound : (s : State) (c : Case) → Sound s → (first_refusal c.refusals ≡ None → first_refusal c.shown ≡ None → Sound c.after) → Sound (step_of s c).1
case_sound s c sound after = at (first_refusal c.refusals) refl
  where
    shown : (o : Option Answer) → (o ≡ None → Sound c.after) → Sound (unless_refused s o (c.answer, c.after)).1
    shown None good = good refl
    shown (Some a) good = sound

    at : (o : Option Answer) → first_refusal c.refusals ≡ o → Sound (unless_refused s o (unless_refused s (first_refusal c.shown) (c.answer, c.after))).1
    at None none = shown (first_refusal c.shown) (after none)
    at (Some a) refused = sound

-- what is known of a request, by its class
abbrev AskedIn : RequestClass → Type 0
AskedIn (site_change request) = Asks request
AskedIn _ = Unit {0}

asked_in : (r : Request) → Asks r → AskedIn (class_of r)
asked_in request.Load asks = asks
asked_in _ asks = asks

class_sound : (class : RequestClass) (s : State) (payload : List ℕ) (moment : ℕ) → AskedIn class → Sound s → moment ≤ last_moment → Sound (step_of s (case_of s class payload moment)).1
class_sound (site_change r) s payload moment asks sound early = case_sound s (case_of s (site_change r) payload moment) sound (λ none none_shown. set_sound r s sound asks none)
class_sound site_file s payload moment asks sound early = case_sound s (file_case (file_requests payload) s) sound (λ none none_shown. at (all_set (unwrap_or (file_requests payload) []) s) refl)
  where
    at : (result : Result State Answer) → all_set (unwrap_or (file_requests payload) []) s ≡ result → Sound (state_of s result)
    at (Ok t) is = all_set_sound (unwrap_or (file_requests payload) []) s (file_asks payload) sound t is
    at (Err a) is = sound
class_sound (backup client policy schedule start) s payload moment asks sound early =
    case_sound s (case_of s (backup client policy schedule start) payload moment) sound (backup_sound s sound (asked_of client policy schedule start) payload moment early)
class_sound (restore id copy) s payload moment asks sound early = case_sound s (case_of s (restore id copy) payload moment) sound (λ none none_shown. sound)
class_sound (restore_at client policy before) s payload moment asks sound early = case_sound s (case_of s (restore_at client policy before) payload moment) sound (λ none none_shown. sound)

pub sound_step : (s : State) (request : Request) (payload : List ℕ) (moment : ℕ) → Sound s → Asks request → moment ≤ last_moment → Sound (step s request payload moment).1
sound_step s request payload moment sound asks early = class_sound (class_of request) s payload moment (asked_in request asks) sound early
