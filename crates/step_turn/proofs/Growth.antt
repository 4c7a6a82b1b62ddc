-- How a legal history goes on.
use Rattle.std.proofs.Common.{◌≡◌, ℕ, suc, ◌+◌, ◌==◌, ◌++◌, Bool, true, false, cond, List, [], ◌∷◌, refl, ap, subst, arith}
use Rattle.step_turn.specs.Meaning.{Meaning, Standing, running, IsAt}
use Rattle.step_turn.specs.Histories.{calls, call_count, made_by, Numbered, Counted, Replays, IsLegal, Reaches}
use Rattle.step_turn.specs.declared.entry.Call.{Call}
use Rattle.step_turn.specs.declared.entry.Entry.{Entry}
use Rattle.step_turn.specs.declared.entry.Entry.TheVariants.{Called, Reopened}

module _ {Q A : Type 0} where
  pub call_count-append : (es fs : List (Entry Q A)) → call_count (es ++ fs) ≡ call_count es + call_count fs
  call_count-append [] fs = omega arith
  call_count-append (Called c ∷ es) fs = let i = call_count-append es fs in omega arith
  call_count-append (Reopened p q ∷ es) fs = call_count-append es fs

  pub calls-append : (es fs : List (Entry Q A)) → calls (es ++ fs) ≡ calls es ++ calls fs
  calls-append [] fs = refl
  calls-append (Called c ∷ es) fs = ap (λ k. c ∷ k) (calls-append es fs)
  calls-append (Reopened p q ∷ es) fs = calls-append es fs

  made_next : (b : Bool) (c : Call Q A) (xs ys zs : List (Call Q A)) → xs ≡ ys ++ zs → cond b (c ∷ xs) xs ≡ cond b (c ∷ ys) ys ++ zs
  made_next true c xs ys zs e = ap (λ k. c ∷ k) e
  made_next false c xs ys zs e = e

  pub made_by-append : (seat : ℕ) (es fs : List (Entry Q A)) → made_by seat (es ++ fs) ≡ made_by seat es ++ made_by seat fs
  made_by-append seat [] fs = refl
  made_by-append seat (Called c ∷ es) fs = made_next (c.seat == seat) c _ _ _ (made_by-append seat es fs)
  made_by-append seat (Reopened p q ∷ es) fs = made_by-append seat es fs

  pub numbered-append : (n : ℕ) (es fs : List (Entry Q A)) → Numbered n es → Numbered (n + call_count es) fs → Numbered n (es ++ fs)
  numbered-append n [] fs h k = subst (λ m. Numbered m fs) (omega arith) k
  numbered-append n (Called c ∷ es) fs h k = (h.0, numbered-append (suc n) es fs h.1 (subst (λ m. Numbered m fs) (omega arith) k))
  numbered-append n (Reopened p q ∷ es) fs h k = numbered-append n es fs h k

module _ {S Q A : Type 0} (M : Meaning S Q A) where
  pub replays-append : (s : Standing M.State) (es fs : List (Entry Q A)) (t u : Standing M.State) → Replays M s es t → Replays M t fs u → Replays M s (es ++ fs) u
  replays-append s [] fs t u is h = subst (λ (x : Standing M.State). Replays M x fs u) is h
  replays-append s (e ∷ es) fs t u r h = (r.0, r.1, replays-append r.0 es fs t u r.2 h)

  pub counted-append : (n : ℕ) (es fs : List (Entry Q A)) (d m : ℕ) → Counted M n es d → Counted M d fs m → Counted M n (es ++ fs) m
  counted-append n [] fs d m is h = subst (λ (x : ℕ). Counted M x fs m) is h
  counted-append n (Called c ∷ es) fs d m r h = (r.0, r.1, r.2, counted-append c.after es fs d m r.3 h)
  counted-append n (Reopened p q ∷ es) fs d m r h = (r.0, r.1, counted-append q es fs d m r.2 h)

  module _ (start : S) where
    pub reaches-legal : (log : List (Entry Q A)) (object : S) → Reaches M start log object → IsLegal M start log
    reaches-legal log object r = record {
      numbered = r.numbered;
      counted = (M.faults object, r.counted);
      replays = λ told. let e = (r.replays told).1 in (e.0, e.1);
    }

    -- a history goes on with what leads from its object to another
    pub reaches-append : (log more : List (Entry Q A)) (old new : S) → Reaches M start log old → Numbered (call_count log) more → Counted M (M.faults old) more (M.faults new)
        → (M.tells old → (s : Standing M.State) → IsAt M old s → M.tells new × ((t : Standing M.State) × Replays M s more t × IsAt M new t))
        → Reaches M start (log ++ more) new
    reaches-append log more old new r numbered counted leads = record {
      numbered = numbered-append 0 log more r.numbered (subst (λ m. Numbered m more) (omega arith) numbered);
      counted = counted-append (M.faults start) log more (M.faults old) (M.faults new) r.counted counted;
      replays = λ told.
          let before = r.replays told in
          let after = leads before.0 before.1.0 before.1.2 in
          (after.0, (after.1.0, replays-append (running (M.state start)) log more before.1.0 after.1.0 before.1.1 after.1.1, after.1.2));
    }
