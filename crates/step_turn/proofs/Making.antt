-- A turn that is made, its seats and notes, and joins keep the rule.
use Rattle.std.proofs.Common.{◌≡◌, ◌≢◌, ℕ, zero, suc, ◌+◌, ◌-◌, ◌<◌, ◌==◌, ◌++◌, Bool, true, false, cond, List, [], ◌∷◌, length, set, refl, sym, ap, ◌∙◌, subst, inl, inr, ⊎_elim, arith, ltb, eq-eqb, ne_eqb, lit<}
use Rattle.std.specs.Prelude.{Option, Some, None, All, slice_set}
use mathlib.Core.Option.{some, some-ne-none, some-injective}
use lib.ListN.{get_elem?}
use Rattle.atomic_table.specs.Table.{State, Splits, Joins, opening}
use Rattle.atomic_table.proofs.Lists.{at_longer, set_again, set_else}
use Rattle.step_turn.specs.Meaning.{Meaning}
use Rattle.step_turn.specs.Histories.{calls, made_by, Every, StartsWith, Reaches}
use Rattle.atomic_table.specs.Seated.{TableId}
use Rattle.step_turn.specs.Seats.{SeatValue, AreNew}
use Rattle.step_turn.specs.Order.{spent, making, maker, seated, noted, left_of, right_of, joined, Book, ChairFits, Fits, IsOrdered, HasChair}
use Rattle.step_turn.specs.declared.entry.Call.{Call}
use Rattle.step_turn.specs.declared.entry.Entry.{Entry}
use Rattle.step_turn.specs.declared.view.Chair.{Chair}
use Rattle.step_turn.specs.declared.view.View.{View}
use Rattle.step_turn.proofs.Growth.{reaches-legal}
use Rattle.step_turn.specs.declared.entry.Entry.TheVariants.{Called, Reopened}
use Rattle.step_turn.specs.Meaning.{running}
use Rattle.step_turn.proofs.Keeping.{off, every_map, every_append, set_each, seats_of, away_else, held_else, none_some}

module _ {S Q A : Type 0} (M : Meaning S Q A) (start : S) (count : ℕ) where
  abbrev Ruled : State (Option S) (View Q A) → Type 0
  Ruled = IsOrdered M start count

  -- SPLIT

  at_old : (s : State (Option S) (View Q A)) (i j : ℕ) (w x u : View Q A) → get_elem? s.views j ≡ some u → j ≢ i → get_elem? (set s.views i w ++ x ∷ []) j ≡ some u
  at_old s i j w x u at ne = at_longer (set s.views i w) (x ∷ []) j u (set_else s.views i j w ne ∙ at)

  -- what holds of the views as they are and of the one added holds of each
  add_each : (P : ℕ → View Q A → Type 0) (vs : List (View Q A)) (x : View Q A) → ((j : ℕ) (u : View Q A) → get_elem? vs j ≡ some u → P j u) → P (length vs) x
      → (j : ℕ) (u : View Q A) → get_elem? (vs ++ x ∷ []) j ≡ some u → P j u
  add_each P [] x old new zero u e = subst (P 0) (some-injective x u e) new
  add_each P [] x old new (suc j) u e = absurd (some-ne-none u (sym e))
  add_each P (v ∷ vs) x old new zero u e = old zero u e
  add_each P (v ∷ vs) x old new (suc j) u e = add_each (λ k y. P (suc k) y) vs x (λ k y f. old (suc k) y f) new j u e

  -- a note is added, which has seen as much as a view
  pub notes : (i : ℕ) (v : View Q A) → HasChair v → v.to_make ≡ 0 → Splits Ruled i v (left_of v) (right_of v)
  notes i v seat none_left s h at =
      let same : left_of v ≡ v = λ k. record { seen = v.seen; heard = v.heard; chairs = v.chairs; seats = v.seats; to_make = less k; ticket = v.ticket; has_turn = v.has_turn } in
      let note : right_of v ≡ noted v.seats v.seen = ap (λ b. cond b (noted v.seats v.seen) (seated v.seats (v.seats - v.to_make) [] v.seen [] None false)) (eq-eqb v.to_make 0 none_left) in
      subst (λ (p : View Q A × View Q A). Ruled record { words = s.words; homes = s.homes; views = slice_set s.views i p.0 ++ p.1 ∷ [] }) (λ k. (sym same k, sym note k))
      (subst (λ (vs : List (View Q A)). Ruled record { words = s.words; homes = s.homes; views = vs ++ noted v.seats v.seen ∷ [] }) (sym (set_again s.views i v at)) with_note)
    where
      less : v.to_make - 1 ≡ v.to_make
      less = omega (arith, none_left)

      with_note : Ruled record { words = s.words; homes = s.homes; views = s.views ++ noted v.seats v.seen ∷ [] }
      with_note =
          let b = h.book in
          let mine = h.fits i v at in
          record {
            book = b;
            words = h.words;
            below = h.below;
            order = h.order;
            legal = h.legal;
            served = h.served;
            home = h.home;
            away = λ out. let a = h.away out in (a.0, (a.1.0, at_longer s.views _ _ a.1.0 a.1.1, a.1.2));
            held = λ n from to. let a = h.held n from to in (a.0, at_longer s.views _ _ a.0 a.1, a.2);
            made = h.made;
            callers = h.callers;
            fits = add_each (Fits count b) s.views (noted v.seats v.seen) h.fits record {
              seen = mine.seen;
              heard = tt;
              chairs = tt;
              ticket = λ t own. absurd (cc);
              unseated = λ _. refl;
              turn = λ t. absurd (off t);
              making = λ some. absurd (omega (arith, some));
              seats = inr (seats_of count v seat mine.seats);
            };
          }

  made_none : (n : ℕ) (log : List (Entry Q A)) → Every (λ (c : Call Q A). c.seat < n) (calls log) → made_by n log ≡ []
  made_none n [] h = refl
  made_none n (Called c ∷ es) h = ap (λ b. cond b (c ∷ made_by n es) (made_by n es)) (ne_eqb c.seat n (λ e. absurd (omega (arith, e, h.0)))) ∙ made_none n es h.1
  made_none n (Reopened p q ∷ es) h = made_none n es h

  abbrev one_more : Book Q A → ℕ → Book Q A
  one_more b place = record {
    ticket = b.ticket;
    serving = b.serving;
    log = b.log;
    made = suc b.made;
    maker = b.maker;
    out = b.out;
    ticket_at = b.ticket_at;
    chair_at = λ n. cond (n == b.made) place (b.chair_at n);
  }

  chair_kept : (b : Book Q A) (place n : ℕ) → n < b.made → (one_more b place).chair_at n ≡ b.chair_at n
  chair_kept b place n lt = ap (λ k. cond k place (b.chair_at n)) (ne_eqb n b.made (λ e. absurd (omega (arith, e, lt))))

  chair_new : (b : Book Q A) (place n : ℕ) → n ≡ b.made → (one_more b place).chair_at n ≡ place
  chair_new b place n e = ap (λ k. cond k place (b.chair_at n)) (eq-eqb n b.made e)

  with_seat : (i k : ℕ) (s : State (Option S) (View Q A)) (h : Ruled s) → get_elem? s.views i ≡ some (making count (suc k))
      → Ruled record { words = s.words; homes = s.homes; views = set s.views i (making count k) ++ seated count h.book.made [] [] [] None false ∷ [] }
  with_seat i k s h at =
      let b = h.book in
      let v = making count (suc k) in
      let w = making count k in
      let x = seated count b.made [] [] [] None false in
      let vs = set s.views i w in
      let mine = h.fits i v at in
      let left = mine.making (omega arith) in
      record {
        book = one_more b (length vs);
        words = h.words;
        below = h.below;
        order = h.order;
        legal = h.legal;
        served = h.served;
        home = h.home;
        away = λ out. let a = h.away out in (a.0, (a.1.0, at_old s i _ w x a.1.0 a.1.1 (away_else M start count s h i v at refl a.1.0 a.1.1 a.1.2), a.1.2));
        held = λ n from to. let a = h.held n from to in (a.0, at_old s i _ w x a.0 a.1 (held_else M start count s h i v at n (λ e. absurd (cc)) a.0 a.1 a.2), a.2);
        made = omega (arith, left.1);
        callers = every_map (λ (c : Call Q A). c.seat < b.made) (λ (c : Call Q A). c.seat < suc b.made) (λ c lt. omega (arith, lt)) (calls b.log) h.callers;
        fits = add_each (Fits count (one_more b (length vs))) vs x
            (set_each (Fits count (one_more b (length vs))) s.views i w
            (λ j u ne e.
            let f = h.fits j u e in
            record {
              seen = f.seen;
              heard = f.heard;
              chairs = every_map (ChairFits b.made b.chair_at b.log j) (ChairFits (suc b.made) (one_more b (length vs)).chair_at b.log j)
                  (λ c p. record { was_made = omega (arith, p.was_made); here = chair_kept b (length vs) c.number p.was_made ∙ p.here; own = p.own }) u.chairs f.chairs;
              ticket = f.ticket;
              unseated = f.unseated;
              turn = f.turn;
              making = λ some. absurd (ne (sym (f.making some).0 ∙ left.0));
              seats = f.seats;
            })
            record {
              seen = (b.log, refl);
              heard = tt;
              chairs = tt;
              ticket = λ t own. absurd (cc);
              unseated = λ _. refl;
              turn = λ t. absurd (off t);
              making = λ some. (left.0, omega (arith, left.1));
              seats = inr refl;
            })
            record {
              seen = (b.log, refl);
              heard = tt;
              chairs = (record { was_made = omega arith; here = chair_new b (length vs) b.made refl; own = made_none b.made b.log h.callers }, tt);
              ticket = λ t own. absurd (cc);
              unseated = λ _. refl;
              turn = λ t. absurd (off t);
              making = λ some. absurd (omega (arith, some));
              seats = inr refl;
            };
      }

  pub makes_seat : (i k : ℕ) (v : View Q A) → v ≡ making count (suc k) → Splits Ruled i v (left_of v) (right_of v)
  makes_seat i k v is s h at =
      let here : get_elem? s.views i ≡ some (making count (suc k)) = at ∙ ap some is in
      let left = (h.fits i (making count (suc k)) here).making (omega arith) in
      let less : left_of v ≡ making count k = ap left_of is ∙ (λ j. making count (one_less j)) in
      let number : count - suc k ≡ h.book.made = omega (arith, left.1) in
      let more : right_of v ≡ seated count h.book.made [] [] [] None false = ap right_of is ∙ ap (λ b. cond b (noted count []) (seated count (count - suc k) [] [] [] None false)) (ne_eqb (suc k) 0 (λ e. absurd (omega (arith, e)))) ∙ ap (λ n. seated count n [] [] [] None false) number in
      subst (λ (p : View Q A × View Q A). Ruled record { words = s.words; homes = s.homes; views = set s.views i p.0 ++ p.1 ∷ [] }) (λ j. (sym less j, sym more j)) (with_seat i k s h here)
    where
      one_less : suc k - 1 ≡ k
      one_less = omega arith

  pub next_seat : (seats number : ℕ) → number < seats → right_of (making {Q = Q} {A = A} seats (seats - number)) ≡ seated seats number [] [] [] None false
  next_seat seats number lt =
      let n : seats - (seats - number) ≡ number = omega (arith, lt) in
      ap (λ b. cond b (noted seats []) (seated seats (seats - (seats - number)) [] [] [] None false)) (ne_eqb (seats - number) 0 (λ e. absurd (omega (arith, e, lt)))) ∙ ap (λ k. seated seats k [] [] [] None false) n

  -- JOIN

  abbrev moved : Book Q A → ℕ → ℕ → Book Q A
  moved b other i = record {
    ticket = b.ticket;
    serving = b.serving;
    log = b.log;
    made = b.made;
    maker = b.maker;
    out = b.out;
    ticket_at = b.ticket_at;
    chair_at = λ n. cond (b.chair_at n == other) i (b.chair_at n);
  }

  moved_else : (b : Book Q A) (other i n j : ℕ) → b.chair_at n ≡ j → j ≢ other → (moved b other i).chair_at n ≡ j
  moved_else b other i n j e ne = ap (λ k. cond k i (b.chair_at n)) (ne_eqb (b.chair_at n) other (λ q. ne (sym e ∙ q))) ∙ e

  moved_here : (b : Book Q A) (other i n : ℕ) → b.chair_at n ≡ other → (moved b other i).chair_at n ≡ i
  moved_here b other i n e = ap (λ k. cond k i (b.chair_at n)) (eq-eqb (b.chair_at n) other e)

  longer_starts : (log xs ys : List (Entry Q A)) → StartsWith log xs → StartsWith log ys → (b : Bool) → StartsWith log (cond b ys xs)
  longer_starts log xs ys p q true = q
  longer_starts log xs ys p q false = p

  pub joins : (i other : ℕ) (v w : View Q A) (first : Chair Q A) (rest_of : List (Chair Q A)) → v.chairs ≡ first ∷ rest_of → v.ticket ≡ None → v.has_turn ≡ false → v.to_make ≡ 0 → w.ticket ≡ None → w.has_turn ≡ false → w.to_make ≡ 0
      → Joins Ruled i v other w (joined v w) spent
  joins i other v w first rest_of seated_at free idle all_made free' idle' all_made' s h at apart at' =
      let b = h.book in
      let both = joined v w in
      let there : get_elem? s.views other ≡ some w = sym (set_else s.views i other both apart) ∙ at' in
      let mine = h.fits i v at in
      let theirs = h.fits other w there in
      let keep : (j : ℕ) (u : View Q A) → get_elem? s.views j ≡ some u → j ≢ i → j ≢ other → get_elem? (set (set s.views i both) other spent) j ≡ some u = λ j u e ne ne'. set_else (set s.views i both) other j spent ne' ∙ (set_else s.views i j both ne ∙ e) in
      record {
        book = moved b other i;
        words = h.words;
        below = h.below;
        order = h.order;
        legal = h.legal;
        served = h.served;
        home = h.home;
        away = λ out. let a = h.away out in (a.0, (a.1.0, keep _ a.1.0 a.1.1 (away_else M start count s h i v at idle a.1.0 a.1.1 a.1.2) (away_else M start count s h other w there idle' a.1.0 a.1.1 a.1.2), a.1.2));
        held = λ n from to. let a = h.held n from to in (a.0, keep _ a.0 a.1 (held_else M start count s h i v at n (none_some M start count v n free) a.0 a.1 a.2) (held_else M start count s h other w there n (none_some M start count w n free') a.0 a.1 a.2), a.2);
        made = h.made;
        callers = h.callers;
        fits = set_each (Fits count (moved b other i)) (set s.views i both) other spent
            (λ j u ne e. set_each (λ k x. k ≢ other → Fits count (moved b other i) k x) s.views i both
            (λ k x ne' e' ne''.
            let f = h.fits k x e' in
            record {
              seen = f.seen;
              heard = f.heard;
              chairs = every_map (ChairFits b.made b.chair_at b.log k) (ChairFits b.made (moved b other i).chair_at b.log k) (λ c p. record { was_made = p.was_made; here = moved_else b other i c.number k p.here ne''; own = p.own }) x.chairs f.chairs;
              ticket = f.ticket;
              unseated = f.unseated;
              turn = f.turn;
              making = f.making;
              seats = f.seats;
            })
            (λ ne'. record {
              seen = longer_starts b.log v.seen w.seen mine.seen theirs.seen (ltb (length v.seen) (length w.seen));
              heard = every_append (StartsWith b.log) (v.heard ++ w.heard) (v.seen ∷ w.seen ∷ []) (every_append (StartsWith b.log) v.heard w.heard mine.heard theirs.heard) (mine.seen, (theirs.seen, tt));
              chairs = every_append (ChairFits b.made (moved b other i).chair_at b.log i) v.chairs w.chairs
                  (every_map (ChairFits b.made b.chair_at b.log i) (ChairFits b.made (moved b other i).chair_at b.log i) (λ c p. record { was_made = p.was_made; here = moved_else b other i c.number i p.here ne'; own = p.own }) v.chairs mine.chairs)
                  (every_map (ChairFits b.made b.chair_at b.log other) (ChairFits b.made (moved b other i).chair_at b.log i) (λ c p. record { was_made = p.was_made; here = moved_here b other i c.number p.here; own = p.own }) w.chairs theirs.chairs);
              ticket = mine.ticket;
              unseated = λ _. free;
              turn = λ t. absurd (off (sym idle ∙ t));
              making = λ some. absurd (omega (arith, some, all_made, all_made'));
              seats = inr (⊎_elim (λ e. absurd (off_spent v first rest_of seated_at e)) (λ e. e) mine.seats);
            })
            j u e ne)
            record {
              seen = (b.log, refl);
              heard = tt;
              chairs = tt;
              ticket = λ t own. absurd (cc);
              unseated = λ _. refl;
              turn = λ t. absurd (off t);
              making = λ some. absurd (omega (arith, some));
              seats = inl refl;
            };
      }
    where
      off_spent : (v : View Q A) (c : Chair Q A) (cs : List (Chair Q A)) → v.chairs ≡ c ∷ cs → v ≡ spent → ⊥
      off_spent v c cs is e = off_list c cs (sym is ∙ ap (λ x. x.chairs) e)
        where
          off_list : (c : Chair Q A) (cs : List (Chair Q A)) → c ∷ cs ≡ [] → ⊥
          off_list c cs e = absurd (cc)

  -- NEW

  pub opens : (object : S) → start ≡ object → M.stopped start ≡ false → Ruled (opening (0 ∷ 0 ∷ []) (Some object ∷ []) (maker count))
  opens object is runs = record {
    book = record { ticket = 0; serving = 0; log = []; made = 0; maker = 0; out = false; ticket_at = λ _. 0; chair_at = λ _. 0 };
    words = refl;
    below = lit< tt;
    order = omega arith;
    legal = reaches-legal M start [] start here;
    served = refl;
    home = λ _. (object, refl, subst (λ o. Reaches M start [] o) is here);
    away = λ out. absurd (off out);
    held = λ n from to. absurd (omega (arith, to));
    made = omega arith;
    callers = tt;
    fits = only_first;
  }
    where
      here : Reaches M start [] start
      here = record { numbered = tt; counted = refl; replays = λ told. (told, (running (M.state start), refl, (runs, refl))) }

      only_first : (i : ℕ) (v : View Q A) → get_elem? (maker count ∷ []) i ≡ some v → Fits count (record { ticket = 0; serving = 0; log = []; made = 0; maker = 0; out = false; ticket_at = λ _. 0; chair_at = λ _. 0 }) i v
      only_first (suc i) v e = absurd (some-ne-none v (sym e))
      only_first zero v e = subst (Fits count (record { ticket = 0; serving = 0; log = []; made = 0; maker = 0; out = false; ticket_at = λ _. 0; chair_at = λ _. 0 }) 0) (some-injective (maker count) v e) record {
        seen = ([], refl);
        heard = tt;
        chairs = tt;
        ticket = λ t own. absurd (cc);
        unseated = λ _. refl;
        turn = λ t. absurd (off t);
        making = λ some. (refl, omega arith);
        seats = inr refl;
      }

module _ {Q A : Type 0} where
  pub are_new-push : (turn : TableId) (n : ℕ) (xs : List (SeatValue Q A)) (x : SeatValue Q A) → AreNew turn n xs → x ≡ record { number = n + length xs; seen = []; own = []; turn = turn } → AreNew turn n (xs ++ x ∷ [])
  are_new-push turn n [] x h e = (subst (λ k. x ≡ record { number = k; seen = []; own = []; turn = turn }) (omega arith) e, tt)
  are_new-push turn n (y ∷ ys) x h e = (h.0, are_new-push turn (suc n) ys x h.1 (subst (λ k. x ≡ record { number = k; seen = []; own = []; turn = turn }) (omega arith) e))

  pub new_of_turn : (turn : TableId) (n : ℕ) (xs : List (SeatValue Q A)) → AreNew turn n xs → All (λ (x : SeatValue Q A). x.turn ≡ turn) xs
  new_of_turn turn n [] new k d lt = absurd (omega (arith, lt))
  new_of_turn turn n (x ∷ xs) new zero d lt = ap (λ y. y.turn) new.0
  new_of_turn turn n (x ∷ xs) new (suc k) d lt = new_of_turn turn (suc n) xs new.1 k d (omega (arith, lt))
