-- What a call adds to a history.
use Rattle.std.proofs.Common.{◌≡◌, ℕ, suc, ◌≤◌, true, false, List, [], ◌∷◌, refl, sym, ◌∙◌, subst, true≢false}
use Rattle.std.specs.Prelude.{Some, None, Ok, Err}
use Rattle.step_turn.specs.Meaning.{Meaning, Standing, running, halted, IsAt, Calls, Reopens, HasCause, Stepped, ReopenedSo}
use Rattle.step_turn.specs.Histories.{call_count, Replays, turn_of, Reaches}
use Rattle.step_turn.specs.Order.{IsAdded}
use Rattle.step_turn.specs.declared.entry.Call.{Call}
use Rattle.step_turn.specs.declared.entry.Entry.{Entry}
use Rattle.step_turn.specs.declared.entry.Entry.TheVariants.{Called}
use Rattle.step_turn.proofs.Growth.{reaches-append}

module _ {S Q A : Type 0} (M : Meaning S Q A) where
  -- what follows an object, wherever it stands
  abbrev Leads : S → List (Entry Q A) → S → Type 0
  Leads old more new = M.tells old → (s : Standing M.State) → IsAt M old s → M.tells new × ((t : Standing M.State) × Replays M s more t × IsAt M new t)

  abbrev made : List (Entry Q A) → ℕ → Q → A → S → S → Call Q A
  made log seat asked answer old new = record {
    number = suc (call_count log);
    seat = seat;
    asked = asked;
    answer = answer;
    before = M.faults old;
    after = M.faults new;
  }

  call_leads : (c : Call Q A) (old new : S) → M.stopped old ≡ false → (M.tells old → Stepped M old c.asked c.answer new) → Leads old (Called c ∷ []) new
  call_leads c old new runs stepped told (halted s t) at = absurd (true≢false (sym at.0 ∙ runs))
  call_leads c old new runs stepped told (running s) at =
      let p = stepped told in
      (p.tells, (p.standing, (p.standing, subst (λ (x : M.State). Calls M (running x) c.asked c.answer p.standing) at.1 p.calls, refl), p.is_at))

  refusal_leads : (c : Call Q A) (old new : S) → M.stopped old ≡ true → (M.tells old → ReopenedSo M old new (Err c.answer)) → Leads old (Called c ∷ []) new
  refusal_leads c old new stops refused told (running s) at = absurd (true≢false (sym stops ∙ at.0))
  refusal_leads c old new stops refused told (halted s t) at =
      let p = refused told s t at.1 in
      (p.0, (halted s t, (halted s t, (p.1, refl), refl), p.2))

  reopening_leads : (first last : ℕ) (old new : S) → M.stopped old ≡ true → (M.tells old → ReopenedSo M old new (Ok tt)) → (told : M.tells old) (s : Standing M.State) → IsAt M old s
      → M.tells new × ((t : Standing M.State) × Reopens M s t × IsAt M new t)
  reopening_leads first last old new stops opened told (running s) at = absurd (true≢false (sym stops ∙ at.0))
  reopening_leads first last old new stops opened told (halted s t) at =
      let p = opened told s t at.1 in
      (p.0, (p.1.0, p.1.1, p.1.2))

  module _ (start : S) (log : List (Entry Q A)) (seat : ℕ) (asked : Q) (answer : A) where
    pub steps : (old new : S) → Reaches M start log old → M.stopped old ≡ false → (M.tells old → Stepped M old asked answer new) → HasCause M old new answer → IsAdded M start log seat asked answer new
    steps old new r runs stepped cause =
        let c = made log seat asked answer old new in (
          None,
          c,
          record {
            number_is = refl;
            seat_is = refl;
            asked_is = refl;
            answer_is = refl;
            reaches = reaches-append M start log (Called c ∷ []) old new r (refl, tt) (refl, cause.later, cause.failed, refl) (call_leads c old new runs stepped);
          },
        )

    pub refuses : (old new : S) → Reaches M start log old → M.stopped old ≡ true → (M.tells old → ReopenedSo M old new (Err answer)) → HasCause M old new answer → IsAdded M start log seat asked answer new
    refuses old new r stops refused cause =
        let c = made log seat asked answer old new in (
          None,
          c,
          record {
            number_is = refl;
            seat_is = refl;
            asked_is = refl;
            answer_is = refl;
            reaches = reaches-append M start log (Called c ∷ []) old new r (refl, tt) (refl, cause.later, cause.failed, refl) (refusal_leads c old new stops refused);
          },
        )

    pub reopens : (old mid new : S) → Reaches M start log old → M.stopped old ≡ true → (M.tells old → ReopenedSo M old mid (Ok tt)) → M.faults old ≤ M.faults mid → M.stopped mid ≡ false
        → (M.tells mid → Stepped M mid asked answer new) → HasCause M mid new answer → IsAdded M start log seat asked answer new
    reopens old mid new r stops opened later runs stepped cause =
        let c = made log seat asked answer mid new in
        let counts : ℕ × ℕ = (M.faults old, M.faults mid) in (
          Some counts,
          c,
          record {
            number_is = refl;
            seat_is = refl;
            asked_is = refl;
            answer_is = refl;
            reaches = reaches-append M start log (turn_of (Some counts) c) old new r (refl, tt) (refl, later, (refl, cause.later, cause.failed, refl))
                (λ told s at.
                let p = reopening_leads 0 0 old mid stops opened told s at in
                let q = call_leads c mid new runs stepped p.0 p.1.0 p.1.2 in
                (q.0, (q.1.0, (p.1.0, p.1.1, q.1.1), q.1.2)));
          },
        )
