-- When a schedule by calendar comes round.
use Rattle.schedule_windows.proofs.Common.{◌≡◌, ◌∙◌, ℕ, ℤ, pos, Bool, true, false, List, refl, sym, ap, if◌then◌else◌, is_open, opened, start_if_open, int_div_euclid, WeekSpan, is_run_day, is_before, comes_round, is_due_in}
use Rattle.std.specs.Prelude.{◌&&◌, Option, Some, None}
use Rattle.site_types.specs.declared.calendar.CalendarItem.{CalendarItem}
use Rattle.site_types.specs.declared.schedule.Mode.{Mode}
use Rattle.site_types.specs.declared.schedule.Mode.TheVariants.{Calendar}
use Rattle.site_types.specs.declared.schedule.Schedule.{Schedule}
use Rattle.schedule_windows.specs.declared.civil.Civil.{Civil}
use Rattle.schedule_windows.specs.declared.schedule.Last.{Last}

pub calendar_round : (mode : Mode) (items seen : List CalendarItem) (last : Option Last) (moment : ℕ) (started seen_start day seen_day : ℤ) (named before : Bool) → mode ≡ Calendar items → seen ≡ items → seen_start ≡ started → seen_day ≡ day → day ≡ int_div_euclid seen_start (pos 86_400) → named ≡ is_run_day seen seen_day → before ≡ is_before last seen_start → (named && before) ≡ comes_round mode last moment started
calendar_round mode items seen last moment started seen_start day seen_day named before e f s g h p q =
    (λ i. p i && q i) ∙ (λ i. is_run_day (f i) ((g ∙ h) i) && is_before last seen_start) ∙ ap (λ (x : ℤ). is_run_day items (int_div_euclid x (pos 86_400)) && is_before last x) s ∙ sym (ap (λ (m : Mode). comes_round m last moment started) e)

due_by : (c : Civil) (w : WeekSpan) (mode : Mode) (last : Option Last) (moment : ℕ) (b : Bool) (o : Option ℤ) (s : ℤ) → o ≡ (if b then Some (opened c w) else None) → o ≡ Some s → comes_round mode last moment s ≡ (b && comes_round mode last moment (opened c w))
due_by c w mode last moment true o s e f = let same : s ≡ opened c w = cc in ap (comes_round mode last moment) same
due_by c w mode last moment false o s e f = absurd (cc)

-- a schedule is due in an open window exactly if it comes round there
pub is_due_in-open : (schedule : Schedule) (last : Option Last) (moment : ℕ) (c : Civil) (w : WeekSpan) (s seen : ℤ) (comes : Bool) → start_if_open c w ≡ Some s → seen ≡ s → comes ≡ comes_round schedule.mode last moment seen → comes ≡ is_due_in schedule last moment c w
is_due_in-open schedule last moment c w s seen comes e f g = g ∙ ap (comes_round schedule.mode last moment) f ∙ due_by c w schedule.mode last moment (is_open c w) (start_if_open c w) s refl e
