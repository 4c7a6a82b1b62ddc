-- Each kind of step keeps the rule of a turn.
use Rattle.std.proofs.Common.{◌≡◌, ◌≢◌, ◌⊎◌, ℕ, zero, suc, ◌+◌, ◌%◌, ◌^◌, ◌≤◌, ◌<◌, ◌==◌, ◌++◌, Bool, true, false, cond, List, [], ◌∷◌, length, set, refl, sym, ap, ◌∙◌, subst, inr, ⊎_elim, true≢false, arith, append_assoc, eq-eqb, ne_eqb}
use Rattle.std.specs.Prelude.{Option, Some, None, slice_index, slice_set, MatchBool}
use Rattle.std.proofs.lemmas.List.{append-nil}
use Rattle.std.proofs.Math.Nat.{mod-eq_of_lt}
use mathlib.Core.Option.{some, none, some-ne-none, some-injective}
use mathlib.Core.Logic.{dite}
use native.Mathlib.Decide.{ℕ_discrete}
use prog.Atomic.{either}
use lib.ListN.{get_elem?}
use Rattle.std.proofs.lemmas.Bool.Decides.{nat_tests}
use Rattle.atomic_table.specs.Table.{State, Me, step, Act, keeps, takes, gives, Valid, carried_after, put_back, Allows, stepped}
use Rattle.atomic_table.proofs.Lists.{at_set, set_again, set_here, set_else}
use Rattle.step_turn.specs.Meaning.{Meaning}
use Rattle.step_turn.specs.Histories.{calls, call_count, made_by, turn_of, Every, StartsWith, IsLegal, Reaches}
use Rattle.step_turn.specs.Order.{spent, with_ticket, looked, with_call, served, Book, ChairFits, Fits, IsOrdered, HasChair, is_ticket, Waits, TookTicket, Looked, Advanced}
use Rattle.step_turn.specs.declared.entry.Call.{Call}
use Rattle.step_turn.specs.declared.entry.Entry.{Entry}
use Rattle.step_turn.specs.declared.view.Chair.{Chair}
use Rattle.step_turn.specs.declared.view.View.{View}
use Rattle.step_turn.proofs.Growth.{call_count-append, calls-append, made_by-append, reaches-legal}

pub off : false ≡ true → ⊥
off e = true≢false (sym e)

-- lists

module _ {X : Type 0} where
  pub every_map : (P Q : X → Type 0) → ((x : X) → P x → Q x) → (xs : List X) → Every P xs → Every Q xs
  every_map P Q f [] h = tt
  every_map P Q f (x ∷ xs) h = (f x h.0, every_map P Q f xs h.1)

  pub every_append : (P : X → Type 0) (xs ys : List X) → Every P xs → Every P ys → Every P (xs ++ ys)
  every_append P [] ys h k = k
  every_append P (x ∷ xs) ys h k = (h.0, every_append P xs ys h.1 k)

  pub starts_whole : (xs : List X) → StartsWith xs xs
  starts_whole xs = ([], sym (append-nil xs))

  pub starts_longer : (more xs front : List X) → StartsWith xs front → StartsWith (xs ++ more) front
  starts_longer more xs front s = (s.0 ++ more, ap (λ l. l ++ more) s.1 ∙ append_assoc front s.0 more)

  -- what holds of each other element and of the new one holds of each
  pub set_each : (P : ℕ → X → Type 0) (xs : List X) (i : ℕ) (y : X) → ((j : ℕ) (x : X) → j ≢ i → get_elem? xs j ≡ some x → P j x) → P i y
      → (j : ℕ) (x : X) → get_elem? (set xs i y) j ≡ some x → P j x
  set_each P xs i y others mine j x e =
      ⊎_elim
      (λ (t : (j ≡ i) × (y ≡ x)). subst (λ (z : ℕ × X). P z.0 z.1) (λ k. (sym t.0 k, t.1 k)) mine)
      (λ (t : (j ≢ i) × (get_elem? xs j ≡ some x)). others j x t.0 t.1)
      (at_set xs i j y x e)

  pub at_below : (xs : List X) (i : ℕ) (x : X) → get_elem? xs i ≡ some x → i < length xs
  at_below [] i x e = absurd (some-ne-none x (sym e))
  at_below (y ∷ ys) zero x e = omega arith
  at_below (y ∷ ys) (suc i) x e = let b = at_below ys i x e in omega arith

  pub same_at : (xs : List X) (i j : ℕ) (x y : X) → get_elem? xs i ≡ some x → get_elem? xs j ≡ some y → i ≡ j → x ≡ y
  same_at xs i j x y a b e = some-injective x y (sym a ∙ ap (λ k. get_elem? xs k) e ∙ b)

module _ {Q A : Type 0} where
  not_spent : (v : View Q A) → HasChair v → v ≡ spent → ⊥
  not_spent v h e = off_chairs (sym h.1 ∙ ap (λ w. w.chairs) e)
    where
      off_chairs : h.0 ∷ [] ≡ [] → ⊥
      off_chairs e = absurd (cc)

  no_chairs : (v : View Q A) → HasChair v → v.chairs ≡ [] → ⊥
  no_chairs v h e = absurd (cc)

  pub seats_of : (count : ℕ) (v : View Q A) → HasChair v → (v ≡ spent) ⊎ (v.seats ≡ count) → v.seats ≡ count
  seats_of count v h s = ⊎_elim (λ e. absurd (not_spent v h e)) (λ e. e) s

abbrev number_in : Option ℕ → ℕ
number_in None = 0
number_in (Some n) = n

some_same : (x y : ℕ) → Some x ≡ Some y → x ≡ y
some_same x y e = ap number_in e

module _ {S Q A : Type 0} (M : Meaning S Q A) (start : S) (count : ℕ) where
  abbrev Ordered : State (Option S) (View Q A) → Type 0
  Ordered = IsOrdered M start count

  -- the view with the turn is another one than this, which hasn't it
  pub away_else : (s : State (Option S) (View Q A)) (h : Ordered s) (i : ℕ) (v : View Q A) → get_elem? s.views i ≡ some v → v.has_turn ≡ false
      → (u : View Q A) → get_elem? s.views (h.book.ticket_at h.book.serving) ≡ some u → u.has_turn ≡ true → h.book.ticket_at h.book.serving ≢ i
  away_else s h i v at idle u there turn same = true≢false (sym turn ∙ ap (λ w. w.has_turn) (same_at s.views _ _ u v there at same) ∙ idle)

  -- a view that has a ticket is the one that has it
  pub held_else : (s : State (Option S) (View Q A)) (h : Ordered s) (i : ℕ) (v : View Q A) → get_elem? s.views i ≡ some v → (n : ℕ) → v.ticket ≢ Some n
      → (u : View Q A) → get_elem? s.views (h.book.ticket_at n) ≡ some u → u.ticket ≡ Some n → h.book.ticket_at n ≢ i
  held_else s h i v at n lacks u there has same = lacks (ap (λ w. w.ticket) (sym (same_at s.views _ _ u v there at same)) ∙ has)

  pub none_some : (v : View Q A) (n : ℕ) → v.ticket ≡ None → v.ticket ≢ Some n
  none_some v n a b = absurd (cc)

  -- TAKE TICKET

  abbrev ticketed : Book Q A → ℕ → Book Q A
  ticketed b i = record {
    ticket = suc b.ticket;
    serving = b.serving;
    log = b.log;
    made = b.made;
    maker = b.maker;
    out = b.out;
    ticket_at = λ n. cond (n == b.ticket) i (b.ticket_at n);
    chair_at = b.chair_at;
  }

  ticket_else : (b : Book Q A) (i n : ℕ) → n ≢ b.ticket → (ticketed b i).ticket_at n ≡ b.ticket_at n
  ticket_else b i n ne = ap (λ k. cond k i (b.ticket_at n)) (ne_eqb n b.ticket ne)

  ticket_here : (b : Book Q A) (i n : ℕ) → n ≡ b.ticket → (ticketed b i).ticket_at n ≡ i
  ticket_here b i n e = ap (λ k. cond k i (b.ticket_at n)) (eq-eqb n b.ticket e)

  took : (s : State (Option S) (View Q A)) (h : Ordered s) (i : ℕ) (v : View Q A) → get_elem? s.views i ≡ some v → HasChair v → v.ticket ≡ None → v.has_turn ≡ false → suc h.book.ticket < 2 ^ 64
      → Ordered record { words = suc h.book.ticket ∷ h.book.serving ∷ []; homes = s.homes; views = slice_set s.views i (with_ticket v (Some h.book.ticket)) }
  took s h i v at seat free idle room =
      let b = h.book in
      let w = with_ticket v (Some b.ticket) in
      let mine = h.fits i v at in
      record {
        book = ticketed b i;
        words = refl;
        below = room;
        order = omega (arith, h.order);
        legal = h.legal;
        served = h.served;
        home = h.home;
        away = λ out.
            let a = h.away out in
            let turned = (h.fits _ a.1.0 a.1.1).turn a.1.2 in
            let within = (h.fits _ a.1.0 a.1.1).ticket b.serving turned.1 in
            let place = ticket_else b i b.serving (λ e. absurd (omega (arith, within.1, e))) in
            let apart = away_else s h i v at idle a.1.0 a.1.1 a.1.2 in
            (a.0, (a.1.0, subst (λ j. get_elem? (set s.views i w) j ≡ some a.1.0) (sym place) (set_else s.views i _ w apart ∙ a.1.1), a.1.2));
        held = λ n from to. dite (ℕ_discrete n b.ticket)
            (λ e. (w, subst (λ j. get_elem? (set s.views i w) j ≡ some w) (sym (ticket_here b i n e)) (set_here s.views i w (at_below s.views i v at)), ap Some (sym e)))
            (λ ne.
            let a = h.held n from (omega (arith, to, ne)) in
            let apart = held_else s h i v at n (none_some v n free) a.0 a.1 a.2 in
            (a.0, subst (λ j. get_elem? (set s.views i w) j ≡ some a.0) (sym (ticket_else b i n ne)) (set_else s.views i _ w apart ∙ a.1), a.2));
        made = h.made;
        callers = h.callers;
        fits = set_each (Fits count (ticketed b i)) s.views i w
            (λ j u ne e.
            let f = h.fits j u e in
            record {
              seen = f.seen;
              heard = f.heard;
              chairs = f.chairs;
              ticket = λ t has. let g = f.ticket t has in (g.0, omega (arith, g.1), ticket_else b i t (λ e'. absurd (omega (arith, g.1, e'))) ∙ g.2);
              unseated = f.unseated;
              turn = f.turn;
              making = f.making;
              seats = f.seats;
            })
            record {
              seen = mine.seen;
              heard = mine.heard;
              chairs = mine.chairs;
              ticket = λ t has.
                  let e : b.ticket ≡ t = some_same b.ticket t has in
                  (subst (λ n. b.serving ≤ n) e h.order, omega (arith, e), ticket_here b i t (sym e));
              unseated = λ e. absurd (no_chairs v seat e);
              turn = λ t. absurd (off (sym idle ∙ t));
              making = mine.making;
              seats = inr (seats_of count v seat mine.seats);
            };
      }

  -- the view stays, or the exchange failed
  stays : (s : State (Option S) (View Q A)) → Ordered s → (i : ℕ) (v : View Q A) → get_elem? s.views i ≡ some v → Ordered record { words = s.words; homes = s.homes; views = slice_set s.views i v }
  stays s h i v at = subst (λ (vs : List (View Q A)). Ordered record { words = s.words; homes = s.homes; views = vs }) (sym (set_again s.views i v at)) h

  took_or_not : (slots : ℕ) (s : State (Option S) (View Q A)) (h : Ordered s) (i : ℕ) (me : Me (Option S) (View Q A)) (old : ℕ) → get_elem? s.views i ≡ some me.0 → HasChair me.0 → me.0.ticket ≡ None → me.0.has_turn ≡ false → old + 1 < 2 ^ 64
      → (b : Bool) → (h.book.ticket == old) ≡ b
      → (w : View Q A) × (a : Act (Option S)) × Valid s.homes me.1 a × Ordered (stepped record { words = h.book.ticket ∷ h.book.serving ∷ []; homes = s.homes; views = s.views } 0 (either (h.book.ticket == old) (old + 1) h.book.ticket) i me.1 w a)
      × TookTicket (step slots 0 old (old + 1) none) me h.book.ticket (w, carried_after me.1 a)
  took_or_not slots s h i me old at seat free idle room true is =
      let same : h.book.ticket ≡ old = grind (arith, nat_tests) in (
        with_ticket me.0 (Some h.book.ticket),
        keeps,
        tt,
        rw is (subst (λ (n : ℕ). Ordered record { words = n ∷ h.book.serving ∷ []; homes = s.homes; views = slice_set s.views i (with_ticket me.0 (Some h.book.ticket)) }) (omega (arith, same)) (took s h i me.0 at seat free idle (omega (arith, same, room)))),
        rw is refl,
      )
  took_or_not slots s h i me old at seat free idle room false is = (
    me.0,
    keeps,
    tt,
    rw is (subst (λ (ws : List ℕ). Ordered record { words = ws; homes = s.homes; views = slice_set s.views i me.0 }) h.words (stays s h i me.0 at)),
    rw is (λ k. (with_ticket me.0 (free k), me.1)),
  )

  pub takes_ticket : (slots i : ℕ) (me : Me (Option S) (View Q A)) (old : ℕ) → HasChair me.0 → me.0.ticket ≡ None → me.0.has_turn ≡ false → old + 1 < 2 ^ 64
      → Allows Ordered slots i me 0 (λ n. either (n == old) (old + 1) n) (TookTicket (step slots 0 old (old + 1) none) me)
  takes_ticket slots i me old seat free idle room s h len at lt =
      let P : List ℕ → Type 0 = λ ws. (w : View Q A) × (a : Act (Option S)) × Valid s.homes me.1 a × Ordered (stepped record { words = ws; homes = s.homes; views = s.views } 0 (either (slice_index ws 0 == old) (old + 1) (slice_index ws 0)) i me.1 w a)
      × TookTicket (step slots 0 old (old + 1) none) me (slice_index ws 0) (w, carried_after me.1 a) in
      subst P (sym h.words) (took_or_not slots s h i me old at seat free idle room (h.book.ticket == old) refl)

  -- LOAD SERVING

  held_kept : (s : State (Option S) (View Q A)) (h : Ordered s) (i : ℕ) (v w : View Q A) → get_elem? s.views i ≡ some v → w.ticket ≡ v.ticket → (n : ℕ) → h.book.serving ≤ n → n < h.book.ticket
      → (u : View Q A) × (get_elem? (set s.views i w) (h.book.ticket_at n) ≡ some u) × (u.ticket ≡ Some n)
  held_kept s h i v w at same n from to =
      let a = h.held n from to in
      dite (ℕ_discrete (h.book.ticket_at n) i)
      (λ e. (w, subst (λ j. get_elem? (set s.views i w) j ≡ some w) (sym e) (set_here s.views i w (at_below s.views i v at)), same ∙ ap (λ x. x.ticket) (sym (same_at s.views _ _ a.0 v a.1 at e)) ∙ a.2))
      (λ ne. (a.0, set_else s.views i _ w ne ∙ a.1, a.2))

  looked_only : (s : State (Option S) (View Q A)) (h : Ordered s) (i : ℕ) (v : View Q A) → get_elem? s.views i ≡ some v → HasChair v → v.has_turn ≡ false
      → Ordered record { words = h.book.ticket ∷ h.book.serving ∷ []; homes = s.homes; views = slice_set s.views i (looked v h.book.log false) }
  looked_only s h i v at seat idle =
      let b = h.book in
      let w = looked v b.log false in
      let mine = h.fits i v at in
      record {
        book = b;
        words = refl;
        below = h.below;
        order = h.order;
        legal = h.legal;
        served = h.served;
        home = h.home;
        away = λ out. let a = h.away out in (a.0, (a.1.0, set_else s.views i _ w (away_else s h i v at idle a.1.0 a.1.1 a.1.2) ∙ a.1.1, a.1.2));
        held = held_kept s h i v w at refl;
        made = h.made;
        callers = h.callers;
        fits = set_each (Fits count b) s.views i w (λ j u ne e. h.fits j u e) record {
          seen = starts_whole b.log;
          heard = tt;
          chairs = mine.chairs;
          ticket = mine.ticket;
          unseated = mine.unseated;
          turn = λ t. absurd (off t);
          making = mine.making;
          seats = inr (seats_of count v seat mine.seats);
        };
      }

  is_in : (s : State (Option S) (View Q A)) (h : Ordered s) (i : ℕ) (v : View Q A) → get_elem? s.views i ≡ some v → v.has_turn ≡ false → v.ticket ≡ Some h.book.serving → (o : Bool) → h.book.out ≡ o → h.book.out ≡ false
  is_in s h i v at idle has false is = is
  is_in s h i v at idle has true is =
      let a = h.away is in
      absurd (away_else s h i v at idle a.1.0 a.1.1 a.1.2 (((h.fits i v at).ticket h.book.serving has).2))

  abbrev begun : Book Q A → Book Q A
  begun b = record { ticket = b.ticket; serving = b.serving; log = b.log; made = b.made; maker = b.maker; out = true; ticket_at = b.ticket_at; chair_at = b.chair_at }

  began : (s : State (Option S) (View Q A)) (h : Ordered s) (i : ℕ) (v : View Q A) (object : S) → get_elem? s.views i ≡ some v → HasChair v → v.has_turn ≡ false → v.ticket ≡ Some h.book.serving → s.homes ≡ some (Some object) ∷ []
      → Ordered record { words = h.book.ticket ∷ h.book.serving ∷ []; homes = slice_set s.homes 0 none; views = slice_set s.views i (looked v h.book.log true) }
  began s h i v object at seat idle has home =
      let b = h.book in
      let w = looked v b.log true in
      let mine = h.fits i v at in
      record {
        book = begun b;
        words = refl;
        below = h.below;
        order = h.order;
        legal = h.legal;
        served = h.served;
        home = λ out. absurd (true≢false out);
        away = λ out. (
          ap (λ (hs : List (mathlib.Core.Option.Option (Option S))). slice_set hs 0 none) home,
          (w, subst (λ j. get_elem? (set s.views i w) j ≡ some w) (sym ((mine.ticket b.serving has).2)) (set_here s.views i w (at_below s.views i v at)), refl),
        );
        held = held_kept s h i v w at refl;
        made = h.made;
        callers = h.callers;
        fits = set_each (Fits count (begun b)) s.views i w
            (λ j u ne e.
            let f = h.fits j u e in
            record {
              seen = f.seen;
              heard = f.heard;
              chairs = f.chairs;
              ticket = f.ticket;
              unseated = f.unseated;
              turn = λ t. let g = f.turn t in (refl, g.1, g.2);
              making = f.making;
              seats = f.seats;
            })
            record {
              seen = starts_whole b.log;
              heard = tt;
              chairs = mine.chairs;
              ticket = mine.ticket;
              unseated = mine.unseated;
              turn = λ t. (refl, has, refl);
              making = mine.making;
              seats = inr (seats_of count v seat mine.seats);
            };
      }

  ticket_is : (o : Option ℕ) (n : ℕ) → is_ticket o n ≡ true → o ≡ Some n
  ticket_is None n e = absurd (off e)
  ticket_is (Some t) n e = let same : t ≡ n = grind (arith, nat_tests) in ap Some same

  module _ (legal : List (Entry Q A) → Type 0) (reached : List (Entry Q A) → S → Type 0) (is_legal : (log : List (Entry Q A)) → IsLegal M start log → legal log) (is_reached : (log : List (Entry Q A)) (object : S) → Reaches M start log object → reached log object) where
    look_now : (s : State (Option S) (View Q A)) (h : Ordered s) (i : ℕ) (me : Me (Option S) (View Q A)) → get_elem? s.views i ≡ some me.0 → HasChair me.0 → me.0.has_turn ≡ false
        → (b : Bool) → is_ticket me.0.ticket h.book.serving ≡ b
        → (w : View Q A) × (a : Act (Option S)) × Valid s.homes me.1 a × Ordered (stepped record { words = h.book.ticket ∷ h.book.serving ∷ []; homes = s.homes; views = s.views } 1 h.book.serving i me.1 w a)
        × Looked legal reached me h.book.serving (w, carried_after me.1 a)
    look_now s h i me at seat idle false is =
        let mine = h.fits i me.0 at in (
          looked me.0 h.book.log false,
          keeps,
          tt,
          looked_only s h i me.0 at seat idle,
          record {
            seen = h.book.log;
            count = h.served;
            is_legal = is_legal h.book.log h.legal;
            mine = mine.seen;
            heard = mine.heard;
            own = every_map (ChairFits h.book.made h.book.chair_at h.book.log i) _ (λ c f. f.own) me.0.chairs mine.chairs;
            turn = rw is refl;
          },
        )
    look_now s h i me at seat idle true is =
        let mine = h.fits i me.0 at in
        let has = ticket_is me.0.ticket h.book.serving is in
        let home = h.home (is_in s h i me.0 at idle has h.book.out refl) in (
          looked me.0 h.book.log true,
          takes 0 (Some home.0),
          ap (λ (hs : List (mathlib.Core.Option.Option (Option S))). get_elem? hs 0) home.1,
          began s h i me.0 home.0 at seat idle has home.1,
          record {
            seen = h.book.log;
            count = h.served;
            is_legal = is_legal h.book.log h.legal;
            mine = mine.seen;
            heard = mine.heard;
            own = every_map (ChairFits h.book.made h.book.chair_at h.book.log i) _ (λ c f. f.own) me.0.chairs mine.chairs;
            turn = rw is (home.0, refl, is_reached h.book.log home.0 home.2);
          },
        )

    pub looks : (slots i : ℕ) (me : Me (Option S) (View Q A)) → HasChair me.0 → me.0.has_turn ≡ false → Allows Ordered slots i me 1 (λ n. n) (Looked legal reached me)
    looks slots i me seat idle s h len at lt =
        let P : List ℕ → Type 0 = λ ws. (w : View Q A) × (a : Act (Option S)) × Valid s.homes me.1 a × Ordered (stepped record { words = ws; homes = s.homes; views = s.views } 1 (slice_index ws 1) i me.1 w a)
        × Looked legal reached me (slice_index ws 1) (w, carried_after me.1 a) in
        subst P (sym h.words) (look_now s h i me at seat idle (is_ticket me.0.ticket h.book.serving) refl)

  -- ADVANCE SERVING

  abbrev advanced : Book Q A → List (Entry Q A) → Book Q A
  advanced b es = record { ticket = b.ticket; serving = suc b.serving; log = b.log ++ es; made = b.made; maker = b.maker; out = false; ticket_at = b.ticket_at; chair_at = b.chair_at }

  count_turn : (r : Option (ℕ × ℕ)) (c : Call Q A) → call_count (turn_of r c) ≡ 1
  count_turn None c = refl
  count_turn (Some counts) c = refl

  calls_turn : (r : Option (ℕ × ℕ)) (c : Call Q A) → calls (turn_of r c) ≡ c ∷ []
  calls_turn None c = refl
  calls_turn (Some counts) c = refl

  made_turn : (n : ℕ) (r : Option (ℕ × ℕ)) (c : Call Q A) → made_by n (turn_of r c) ≡ cond (c.seat == n) (c ∷ []) []
  made_turn n None c = refl
  made_turn n (Some counts) c = refl

  made_else : (n : ℕ) (log : List (Entry Q A)) (r : Option (ℕ × ℕ)) (c : Call Q A) → c.seat ≢ n → made_by n (log ++ turn_of r c) ≡ made_by n log
  made_else n log r c ne =
      made_by-append n log (turn_of r c) ∙ ap (λ l. made_by n log ++ l) (made_turn n r c ∙ ap (λ b. cond b (c ∷ []) []) (ne_eqb c.seat n ne)) ∙ append-nil (made_by n log)

  pub made_more : (n : ℕ) (log : List (Entry Q A)) (r : Option (ℕ × ℕ)) (c : Call Q A) → c.seat ≡ n → made_by n (log ++ turn_of r c) ≡ made_by n log ++ c ∷ []
  made_more n log r c e =
      made_by-append n log (turn_of r c) ∙ ap (λ l. made_by n log ++ l) (made_turn n r c ∙ ap (λ b. cond b (c ∷ []) []) (eq-eqb c.seat n e))

  -- the one chair of the seat that ends its turn
  my_chair : (s : State (Option S) (View Q A)) (h : Ordered s) (i : ℕ) (v : View Q A) → get_elem? s.views i ≡ some v → (seat : HasChair v) → ChairFits h.book.made h.book.chair_at h.book.log i seat.0
  my_chair s h i v at seat = (subst (Every (ChairFits h.book.made h.book.chair_at h.book.log i)) seat.1 (h.fits i v at).chairs).0

  module _ (s : State (Option S) (View Q A)) (h : Ordered s) (i : ℕ) (v : View Q A) (object : S) (r : Option (ℕ × ℕ)) (c : Call Q A) (at : get_elem? s.views i ≡ some v) (seat : HasChair v) (has : v.has_turn ≡ true)
      (by : c.seat ≡ seat.0.number) (reaches : Reaches M start (h.book.log ++ turn_of r c) object) where
    my_ticket : (h.book.serving < h.book.ticket) × (h.book.ticket_at h.book.serving ≡ i)
    my_ticket = let t = (h.fits i v at).ticket h.book.serving ((h.fits i v at).turn has).1 in (t.1, t.2)

    end_chair : Every (ChairFits h.book.made h.book.chair_at (h.book.log ++ turn_of r c) i) (with_call v.chairs c)
    end_chair =
        let f = my_chair s h i v at seat in
        subst (λ hs. Every (ChairFits h.book.made h.book.chair_at (h.book.log ++ turn_of r c) i) (with_call hs c)) (sym seat.1)
        (record { was_made = f.was_made; here = f.here; own = made_more seat.0.number h.book.log r c by ∙ ap (λ l. l ++ c ∷ []) f.own }, tt)

    end_others : (j : ℕ) (u : View Q A) → j ≢ i → get_elem? s.views j ≡ some u → Fits count (advanced h.book (turn_of r c)) j u
    end_others j u ne e =
        let b = h.book in
        let f = h.fits j u e in
        let mine = my_chair s h i v at seat in
        let turn = my_ticket in
        record {
          seen = starts_longer (turn_of r c) b.log u.seen f.seen;
          heard = every_map (StartsWith b.log) (StartsWith (b.log ++ turn_of r c)) (λ l p. starts_longer (turn_of r c) b.log l p) u.heard f.heard;
          chairs = every_map (ChairFits b.made b.chair_at b.log j) (ChairFits b.made b.chair_at (b.log ++ turn_of r c) j)
              (λ k p. record {
                was_made = p.was_made;
                here = p.here;
                own = made_else k.number b.log r c (λ same. ne (sym p.here ∙ ap b.chair_at (sym same ∙ by) ∙ mine.here)) ∙ p.own;
              }) u.chairs f.chairs;
          ticket = λ t own.
              let g = f.ticket t own in
              let apart : t ≢ b.serving = λ same. ne (sym g.2 ∙ ap b.ticket_at same ∙ turn.1) in
              (omega (arith, g.0, apart), g.1, g.2);
          unseated = f.unseated;
          turn = λ t. absurd (ne (sym ((f.ticket b.serving (f.turn t).1).2) ∙ turn.1));
          making = f.making;
          seats = f.seats;
        }

    ended : s.homes ≡ none ∷ [] → Ordered record {
      words = h.book.ticket ∷ ((h.book.serving + 1) % 2 ^ 64) ∷ [];
      homes = slice_set s.homes 0 (some (Some object));
      views = slice_set s.views i (served v (turn_of r c) c);
    }
    ended away =
        let b = h.book in
        let w = served v (turn_of r c) c in
        let mine = h.fits i v at in
        let turn = my_ticket in
        record {
          book = advanced b (turn_of r c);
          words = λ k. b.ticket ∷ next turn.0 k ∷ [];
          below = h.below;
          order = omega (arith, turn.0);
          legal = reaches-legal M start (b.log ++ turn_of r c) object reaches;
          served = call_count-append b.log (turn_of r c) ∙ ended_count;
          home = λ _. (object, ap (λ (hs : List (mathlib.Core.Option.Option (Option S))). slice_set hs 0 (some (Some object))) away, reaches);
          away = λ out. absurd (off out);
          held = λ n from to.
              let a = h.held n (omega (arith, from)) to in
              let apart = held_else s h i v at n (λ same. let e = some_same b.serving n (sym (mine.turn has).1 ∙ same) in absurd (omega (arith, from, e))) a.0 a.1 a.2 in
              (a.0, set_else s.views i _ w apart ∙ a.1, a.2);
          made = h.made;
          callers = subst (Every (λ (k : Call Q A). k.seat < b.made)) (sym (calls-append b.log (turn_of r c) ∙ ap (λ l. calls b.log ++ l) (calls_turn r c)))
              (every_append (λ (k : Call Q A). k.seat < b.made) (calls b.log) (c ∷ []) h.callers (subst (λ n. n < b.made) (sym by) (my_chair s h i v at seat).was_made, tt));
          fits = set_each (Fits count (advanced b (turn_of r c))) s.views i w end_others record {
            seen = subst (λ l. StartsWith (b.log ++ turn_of r c) (l ++ turn_of r c)) (sym (mine.turn has).2) (starts_whole (b.log ++ turn_of r c));
            heard = every_map (StartsWith b.log) (StartsWith (b.log ++ turn_of r c)) (λ l p. starts_longer (turn_of r c) b.log l p) v.heard mine.heard;
            chairs = end_chair;
            ticket = λ t own. absurd (cc);
            unseated = λ _. refl;
            turn = λ t. absurd (off t);
            making = mine.making;
            seats = inr (seats_of count v seat mine.seats);
          };
        }
      where
        next : h.book.serving < h.book.ticket → (h.book.serving + 1) % 2 ^ 64 ≡ suc h.book.serving
        next lt = mod-eq_of_lt (omega (arith, lt, h.below)) ∙ omega arith

        ended_count : call_count h.book.log + call_count (turn_of r c) ≡ suc h.book.serving
        ended_count = let e = h.served in let k = count_turn r c in omega (arith, e, k)

  pub advances : (made : Option (ℕ × ℕ) → Call Q A → Type 0) (slots i : ℕ) (me : Me (Option S) (View Q A)) (object : S) (r : Option (ℕ × ℕ)) (c : Call Q A) → (seat : HasChair me.0) → me.0.has_turn ≡ true → me.1 ≡ (0, Some object) ∷ []
      → c.seat ≡ seat.0.number → Reaches M start (me.0.seen ++ turn_of r c) object → made r c → Allows Ordered slots i me 1 (λ n. (n + 1) % 2 ^ 64) (λ found. Advanced made me)
  advances made slots i me object r c seat has slot by reaches is_made s h len at lt =
      let P : List ℕ → Type 0 = λ ws. Ordered record { words = slice_set ws 1 ((slice_index ws 1 + 1) % 2 ^ 64); homes = slice_set s.homes 0 (some (Some object)); views = slice_set s.views i (served me.0 (turn_of r c) c) } in
      let mine = (h.fits i me.0 at).turn has in
      let done = ended s h i me.0 object r c at seat has by (subst (λ l. Reaches M start (l ++ turn_of r c) object) mine.2 reaches) (h.away mine.0).0 in (
        served me.0 (turn_of r c) c,
        gives,
        tt,
        subst (λ (x : List (ℕ × Option S)). Ordered record { words = slice_set s.words 1 ((slice_index s.words 1 + 1) % 2 ^ 64); homes = put_back s.homes x; views = slice_set s.views i (served me.0 (turn_of r c) c) }) (sym slot) (subst P (sym h.words) done),
        (r, c, is_made, refl),
      )

-- WAITING

starts_through : {X : Type 0} (xs ys zs : List X) → StartsWith xs ys → StartsWith ys zs → StartsWith xs zs
starts_through xs ys zs p q = (q.0 ++ p.0, p.1 ∙ ap (λ l. l ++ p.0) q.1 ∙ append_assoc zs q.0 p.0)

module _ {S Q A : Type 0} where
  pub waits_first : (me : Me (Option S) (View Q A)) → me.0.has_turn ≡ false → Waits me me
  waits_first me idle = record { view = λ seen t. refl; slots = refl; idle = idle; mine = λ log p. p; heard = λ log p q. q }

  module _ (legal : List (Entry Q A) → Type 0) (reached : List (Entry Q A) → S → Type 0) (old me after : Me (Option S) (View Q A)) (found : ℕ) (w : Waits old me) (l : Looked legal reached me found after) where
    chairs_same : me.0.chairs ≡ old.0.chairs
    chairs_same = ap (λ v. v.chairs) (w.view [] false)

    ticket_same : me.0.ticket ≡ old.0.ticket
    ticket_same = ap (λ v. v.ticket) (w.view [] false)

    -- what a later look tells is told of the seat as it was
    pub waits_done : Looked legal reached old found after
    waits_done = record {
      seen = l.seen;
      count = l.count;
      is_legal = l.is_legal;
      mine = w.mine l.seen l.mine;
      heard = w.heard l.seen l.mine l.heard;
      own = subst (Every (λ (h : Chair Q A). made_by h.number l.seen ≡ h.own)) chairs_same l.own;
      turn = subst (λ (x : Option ℕ × (View Q A × View Q A) × List (ℕ × Option S)). MatchBool (is_ticket x.0 found) ((object : S) × (after ≡ (x.1.0, (0, Some object) ∷ x.2)) × reached l.seen object) (after ≡ (x.1.1, x.2)))
          (λ k. (ticket_same k, (w.view l.seen true k, w.view l.seen false k), w.slots k)) l.turn;
    }

    -- the seat still waits where another ticket was found
    pub waits_on : is_ticket me.0.ticket found ≡ false → Waits old after
    waits_on other =
        let e : after ≡ (looked me.0 l.seen false, me.1) = subst (λ b. MatchBool b ((object : S) × (after ≡ (looked me.0 l.seen true, (0, Some object) ∷ me.1)) × reached l.seen object) (after ≡ (looked me.0 l.seen false, me.1))) other l.turn in
        subst (λ (x : Me (Option S) (View Q A)). Waits old x) (sym e) record {
          view = λ seen t. w.view seen t;
          slots = w.slots;
          idle = refl;
          mine = λ log p. w.mine log (starts_through log l.seen me.0.seen p l.mine);
          heard = λ log p q. w.heard log (starts_through log l.seen me.0.seen p l.mine) (every_map (StartsWith l.seen) (StartsWith log) (λ x r. starts_through log l.seen x p r) me.0.heard l.heard);
        }

pub other_ticket : (o : Option ℕ) (t n : ℕ) → o ≡ Some t → n ≢ t → is_ticket o n ≡ false
other_ticket o t n e ne = subst (λ x. is_ticket x n ≡ false) (sym e) (ne_eqb t n (λ q. ne (sym q)))

abbrev object_or : {S : Type 0} → S → Option S → S
object_or x None = x
object_or x (Some y) = y

abbrev object_in : {S : Type 0} → S → List (ℕ × Option S) → S
object_in x [] = x
object_in x (y ∷ ys) = object_or x y.1

pub same_object : {S : Type 0} (x y : S) → ◌≡◌ {A = List (ℕ × Option S)} ((0, Some x) ∷ []) ((0, Some y) ∷ []) → x ≡ y
same_object x y e = ap (object_in x) e
