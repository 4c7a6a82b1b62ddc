use Rattle.schedule_windows.proofs.Common.{◌≡◌, ◌∙◌, ap, sym, pos, arith, ℤ, ◌<ℤ◌, FitsSigned, to_z, of_z, w16, w128, to_z-of_z, nanos_of_seconds, signed_arith, next_at, transition_view}
use Rattle.std.specs.Prelude.{option_map}
use borrow.Author.Differences.{lt-true}
use Rattle.schedule_windows.proofs.rule.is_steady.Goals as goal

pub returns-then-year_of : goal.returns-then-year_of
returns-then-year_of c = λ under.
    let last : ℤ = c.instant-then-year_of.result.nanosecond in
    let next : ℤ = c.in-Some.transition.timestamp.nanosecond in
    let below = lt-true (to_z w128 (of_z w128 last)) (to_z w128 (of_z w128 next)) under in
    let next_range = c.in-Some.transition.timestamp.in_range in
    let at = c.instant-then-year_of.ensures in
    let last_range = c.instant-then-year_of.result.in_range in
    let first_fits : FitsSigned w16 c.year_of.result = omega (arith, signed_arith) in
    let last_fits : FitsSigned w16 c.year_of-2.result = omega (arith, signed_arith) in
    let same : c.year_of.result ≡ c.year_of-2.result = sym (to_z-of_z w16 c.year_of.result first_fits) ∙ ap (to_z w16) c.if-year_of.true ∙ to_z-of_z w16 c.year_of-2.result last_fits in
    let before : nanos_of_seconds (pos c.args.last) <ℤ next = omega (arith, signed_arith) in
    record {
      year = sym c.year_of.ensures.value ∙ same ∙ c.year_of-2.ensures.value;
      next = (next, c.in-Some.transition.info);
      is_next = ap (next_at c.args.rule.now) (sym c.instant.ensures) ∙ sym c.next_transition.ensures ∙ ap (option_map transition_view) c.in-Some.is;
      before = before;
    }
