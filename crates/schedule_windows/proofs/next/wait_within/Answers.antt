use Rattle.schedule_windows.proofs.Common.{◌≡◌, ◌+◌, ℕ, List, refl, arith, inl, inr, leb_tells, WeekSpan, is_span_open, spans}
use Rattle.schedule_windows.specs.Opens.{is_open_after}
use Rattle.std.proofs.lemmas.List.Folds.{list_any_kept}
use Rattle.schedule_windows.proofs.Walks.{any_neither, any_last}
use Rattle.schedule_windows.proofs.next.wait_within.Goals as goal

pub loop-index-init : goal.loop-index-init
unfolding is_open_after
loop-index-init c = record { range = omega arith; closed = λ k h. refl; open_then = λ h. absurd (omega arith) }

pub loop-index-preserved : goal.loop-index-preserved
unfolding is_open_after
loop-index-preserved c =
    let xs : List WeekSpan = spans c.args.windows.now in
    let i : ℕ = c.loop-index.index in
    let w : WeekSpan = c.span_at.result in
    let here = c.span_at.ensures.value in
    let known = c.loop-index.invariant in
    let wait : ℕ = c.span_wait.result in
    let least : ℕ = c.min-least.result in
    record {
      range = omega arith;
      closed = λ k h. any_neither (is_span_open (c.args.count + k)) xs i w here (known.closed k (omega arith)) (c.span_wait.ensures.closed k (omega arith));
      open_then = λ h. elim (leb_tells c.loop-index.least wait) [
        | inl first ↦
            let below = first.1 in
            let same : least ≡ c.loop-index.least = omega arith in
            rw same (list_any_kept (is_span_open (c.args.count + c.loop-index.least)) xs i (known.open_then (omega arith)))
        | inr second ↦
            let below = second.1 in
            let same : least ≡ wait = omega arith in
            rw same (any_last (is_span_open (c.args.count + wait)) xs i w here c.span_wait.ensures.open_then)
      ];
    }
