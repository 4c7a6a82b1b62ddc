-- A schedule that isn't due where there is no image isn't due after one.
use Rattle.desk_rules.proofs.Common.{◌≡◌, ◌||◌, ◌&&◌, ℕ, ℤ, List, [], ◌∷◌, Bool, true, false, cond, Option, None, refl, sym, ◌∙◌, ap, filter, ImageRecord, Schedule, Policy, is_due_for, may_be_due, foremost, line_of, due_of_client, last_in, last_time, Mode, Frequency, Calendar}
use Rattle.std.specs.List.{list_any}
use Rattle.schedule_windows.specs.declared.civil.Civil.{Civil}
use Rattle.schedule_windows.specs.declared.schedule.Last.{Last}
use Rattle.schedule_windows.specs.Schedules.{comes_round, is_before, is_due_in, is_due}
use Rattle.schedule_windows.specs.Weeks.{is_open, opened, spans}
use Rattle.schedule_windows.specs.Zones.{ZoneOf, civil_at}
use Rattle.std.proofs.lemmas.Bool.{or_parts}

none_then : {X : Type 0} (p q : X → Bool) (xs : List X) → ((x : X) → p x ≡ false → q x ≡ false) → list_any p xs ≡ false → list_any q xs ≡ false
none_then p q [] gives none = refl
none_then p q (x ∷ xs) gives none =
    let both : (p x ≡ false) × (list_any p xs ≡ false) = or_parts (p x) (list_any p xs) none in
    (λ j. gives x both.0 j || list_any q xs) ∙ none_then p q xs gives both.1

not_both : (a b d : Bool) → (a && b) ≡ false → (b ≡ false → d ≡ false) → (a && d) ≡ false
not_both true b d first second = second first
not_both false b d first second = refl

closed_first : (a b : Bool) → (a && true) ≡ false → (a && b) ≡ false
closed_first true b first = absurd (cc)
closed_first false b first = refl

not_round : (mode : Mode) (last : Option Last) (moment : ℕ) (start : ℤ) → comes_round mode None moment start ≡ false → comes_round mode last moment start ≡ false
not_round (Frequency seconds) last moment start first = absurd (cc)
not_round (Calendar items) last moment start first = closed_first _ (is_before last start) first

not_due : (s : Schedule) (last : Option Last) (moment : ℕ) (now : Civil) → is_due s None moment now ≡ false → is_due s last moment now ≡ false
not_due s last moment now none =
    none_then (is_due_in s None moment now) (is_due_in s last moment now) (spans s.windows)
    (λ w first. not_both (is_open now w) (comes_round s.mode None moment (opened now w)) (comes_round s.mode last moment (opened now w)) first (not_round s.mode last moment (opened now w)))
    none

filter_twice : {X : Type 0} (p q : X → Bool) (xs : List X) → ((x : X) → p x ≡ false → q x ≡ false) → filter q (filter p xs) ≡ filter q xs
filter_twice p q [] gives = refl
filter_twice {X} p q (x ∷ xs) gives = at (p x) refl (filter_twice p q xs gives)
  where
    at : (b : Bool) → p x ≡ b → filter q (filter p xs) ≡ filter q xs → filter q (cond b (x ∷ filter p xs) (filter p xs)) ≡ cond (q x) (x ∷ filter q xs) (filter q xs)
    at true passes later = λ j. cond (q x) (x ∷ later j) (later j)
    at false other later = later ∙ (λ j. cond {A = List X} (sym (gives x other) j) (x ∷ filter q xs) (filter q xs))

-- so those that may be due have all that are
pub still_due : (zone : ZoneOf) (images : List ImageRecord) (moment : ℕ) (policy client : List ℕ) (ss : List Schedule) → filter (is_due_for zone images moment policy client) (filter (may_be_due zone moment) ss) ≡ filter (is_due_for zone images moment policy client) ss
still_due zone images moment policy client ss =
    filter_twice (may_be_due zone moment) (is_due_for zone images moment policy client) ss
    (λ s. not_due s (last_in zone (last_time images policy client s.name)) moment (civil_at zone moment))

-- the line of a client is that of those that may be due
pub line_of_possible : (zone : ZoneOf) (images : List ImageRecord) (moment : ℕ) (policy : Policy) (client name : List ℕ) (listed possible : List Schedule) → name ≡ policy.name → listed ≡ policy.schedules → possible ≡ filter (may_be_due zone moment) listed → line_of name client (foremost (filter (is_due_for zone images moment name client) possible)) ≡ due_of_client zone images moment policy client
line_of_possible zone images moment policy client name listed possible name_is listed_is possible_is =
    (λ j. line_of (name_is j) client (foremost (filter (is_due_for zone images moment (name_is j) client) ((possible_is ∙ ap (filter (may_be_due zone moment)) listed_is) j))))
    ∙ ap (λ (ss : List Schedule). line_of policy.name client (foremost ss)) (still_due zone images moment policy.name client policy.schedules)
