-- All seats are joined, and the turn is closed.
use Rattle.std.proofs.Common.{◌≡◌, ℕ, zero, suc, ◌+◌, ◌-◌, ◌^◌, ◌≤◌, ◌<◌, ◌==◌, ◌||◌, ◌++◌, Bool, true, false, cond, List, [], ◌∷◌, get_or, set, refl, sym, ap, ◌∙◌, subst, inl, inr, ⊎_elim, arith, append_assoc, min}
use Rattle.std.specs.Prelude.{Option, Some, None}
use Rattle.std.proofs.lemmas.List.{append-nil}
use Rattle.std.proofs.Math.Nat.{eq-or-lt_of_le}
use Rattle.std.proofs.lemmas.Bool.Decides.{nat_tests}
use mathlib.Core.Option.{some, none, some-injective}
use lib.ListN.{get_elem?}
use Rattle.atomic_table.specs.Table.{State, Me, Final, Seen}
use Rattle.atomic_table.specs.Seated.{TableId}
use Rattle.step_turn.specs.Meaning.{Meaning, Rose}
use Rattle.step_turn.specs.Histories.{calls, made_by, failures, Counted, Every, Among, StartsWith}
use Rattle.step_turn.specs.Seats.{SeatValue, TurnValue, has_number, missing, Closes}
use Rattle.step_turn.specs.Order.{chair, joined, own_of, at_rest, ChairFits, Fits, IsOrdered, Knows, IsIdle, Gathers}
use Rattle.step_turn.specs.declared.entry.Call.{Call}
use Rattle.step_turn.specs.declared.entry.Entry.{Entry}
use Rattle.step_turn.specs.declared.entry.Entry.TheVariants.{Called, Reopened}
use Rattle.step_turn.specs.declared.view.Chair.{Chair}
use Rattle.step_turn.specs.declared.view.View.{View}
use Rattle.step_turn.proofs.Keeping.{off, every_map, every_append, same_at}

pub emptied : (fs : List Bool) → get_or (set fs 0 false) 0 false ≡ false
emptied [] = refl
emptied (x ∷ xs) = refl

module _ {X : Type 0} where
  abbrev some_or : X → Option X → X
  some_or x None = x
  some_or x (Some y) = y

  pub same_some : (x y : X) → Some x ≡ Some y → x ≡ y
  same_some x y e = ap (some_or x) e

  among_front : (x : X) (xs ys : List X) → Among x xs → Among x (xs ++ ys)
  among_front x [] ys h = absurd h
  among_front x (z ∷ zs) ys h = ⊎_elim (λ e. inl e) (λ t. inr (among_front x zs ys t)) h

  among_behind : (x : X) (xs ys : List X) → Among x ys → Among x (xs ++ ys)
  among_behind x [] ys h = h
  among_behind x (z ∷ zs) ys h = inr (among_behind x zs ys h)

  pub every_front : (P : X → Type 0) (xs ys : List X) → Every P (xs ++ ys) → Every P xs
  every_front P [] ys h = tt
  every_front P (x ∷ xs) ys h = (h.0, every_front P xs ys h.1)

  pub every_last : (P : X → Type 0) (xs : List X) (y : X) → Every P (xs ++ y ∷ []) → P y
  every_last P [] y h = h.0
  every_last P (x ∷ xs) y h = every_last P xs y h.1

  every_among : (P : X → Type 0) (xs : List X) (x : X) → Every P xs → Among x xs → P x
  every_among P [] x h a = absurd a
  every_among P (z ∷ zs) x h a = ⊎_elim (λ e. subst P (sym e) h.0) (λ t. every_among P zs x h.1 t) a

module _ {Q A : Type 0} where
  knows_more : (v w : View Q A) (x : SeatValue Q A) → Knows v x → Knows (joined v w) x
  knows_more v w x k = (
    among_front (chair x.number x.own) v.chairs w.chairs k.0,
    inr (⊎_elim
        (λ e. among_behind x.seen (v.heard ++ w.heard) (v.seen ∷ w.seen ∷ []) (inl e))
        (λ t. among_front x.seen (v.heard ++ w.heard) (v.seen ∷ w.seen ∷ []) (among_front x.seen v.heard w.heard t))
        k.1),
  )

  knows_joined : (v w : View Q A) (number : ℕ) (id : TableId) → Knows (joined v (at_rest number w)) record { number = number; seen = w.seen; own = own_of w; turn = id }
  knows_joined v w number id = (
    among_behind (chair number (own_of w)) v.chairs (chair number (own_of w) ∷ []) (inl refl),
    inr (among_behind w.seen (v.heard ++ w.heard) (v.seen ∷ w.seen ∷ []) (inr (inl refl))),
  )

module _ {S Q A : Type 0} where
  pub gathers_first : (me : Me (Option S) (View Q A)) (c : Chair Q A) (cs : List (Chair Q A)) (seats : List (SeatValue Q A)) → IsIdle me → me.0.chairs ≡ c ∷ cs → Gathers me me seats seats
  gathers_first me c cs seats idle are = record {
    idle = idle;
    chair = c;
    chairs = cs;
    chairs_are = are;
    keeps_known = λ x k. k;
    taken = [];
    all_is = sym (append-nil seats);
    knows = tt;
  }

  pub gathers_more : (old me me' : Me (Option S) (View Q A)) (all left left' : List (SeatValue Q A)) (x : SeatValue Q A) (number : ℕ) (w : View Q A) (id : TableId) → Gathers old me all left → left ≡ left' ++ x ∷ []
      → record { number = number; seen = w.seen; own = own_of w; turn = id } ≡ x → me' ≡ (joined me.0 (at_rest number w), me.1) → Gathers old me' all left'
  gathers_more old me me' all left left' x number w id g popped is e =
      subst (λ (m : Me (Option S) (View Q A)). Gathers old m all left') (sym e) record {
        idle = (g.idle.0, g.idle.1, g.idle.2, ap (λ n. n + 0) g.idle.3);
        chair = g.chair;
        chairs = g.chairs ++ chair number (own_of w) ∷ [];
        chairs_are = ap (λ cs. cs ++ chair number (own_of w) ∷ []) g.chairs_are;
        keeps_known = λ y k. knows_more me.0 (at_rest number w) y (g.keeps_known y k);
        taken = x ∷ g.taken;
        all_is = g.all_is ∙ ap (λ l. l ++ g.taken) popped ∙ append_assoc left' (x ∷ []) g.taken;
        knows = (subst (Knows (joined me.0 (at_rest number w))) is (knows_joined me.0 w number id), every_map (Knows me.0) (Knows (joined me.0 (at_rest number w))) (λ y k. knows_more me.0 (at_rest number w) y k) g.taken g.knows);
      }

-- whoever has no number missing has each of them
tested : (b : Bool) (n : ℕ) → cond b n (suc n) ≡ 0 → (b ≡ true) × (n ≡ 0)
tested true n e = (refl, e)
tested false n e = absurd (omega (arith, e))

number_case : {Q A : Type 0} (P : SeatValue Q A → Type 0) (n : ℕ) (x : SeatValue Q A) (others : Bool) → P x → (others ≡ true → (y : SeatValue Q A) × (y.number ≡ n) × P y) → (b : Bool) → (x.number == n) ≡ b → (b || others) ≡ true → (y : SeatValue Q A) × (y.number ≡ n) × P y
number_case P n x others h later true is e = let same : x.number ≡ n = grind (arith, nat_tests) in (x, same, h)
number_case P n x others h later false is e = later e

some_number : {Q A : Type 0} (P : SeatValue Q A → Type 0) (n : ℕ) (xs : List (SeatValue Q A)) → Every P xs → has_number n xs ≡ true → (x : SeatValue Q A) × (x.number ≡ n) × P x
some_number P n [] h e = absurd (off e)
some_number P n (x ∷ xs) h e = number_case P n x (has_number n xs) h.0 (λ t. some_number P n xs h.1 t) (x.number == n) refl e

has_each : {Q A : Type 0} (count : ℕ) (xs : List (SeatValue Q A)) → missing count xs ≡ 0 → (n : ℕ) → n < count → has_number n xs ≡ true
has_each zero xs nothing n lt = absurd (omega (arith, lt))
has_each (suc k) xs nothing n lt =
    let t = tested (has_number k xs) (missing k xs) nothing in
    ⊎_elim (λ (e : n ≡ k). ap (λ m. has_number m xs) e ∙ t.0) (λ (l : n < k). has_each k xs t.1 n l) (eq-or-lt_of_le (omega (arith, lt)))

module _ {S Q A : Type 0} (M : Meaning S Q A) where
  fail_case : (n after fs last : ℕ) (b : Bool) → (b ≡ true → Rose n after) → n ≤ after → min (after + fs) (2 ^ 64 - 1) ≤ last → min (n + cond b (suc fs) fs) (2 ^ 64 - 1) ≤ last
  fail_case n after fs last true rose later i = let r = rose refl in omega (arith, r, i)
  fail_case n after fs last false rose later i = omega (arith, later, i)

  -- no more calls fail than the count of faults rises by
  few_fail : (n : ℕ) (es : List (Entry Q A)) (last : ℕ) → Counted M n es last → min (n + failures M es) (2 ^ 64 - 1) ≤ last
  few_fail n [] last e = omega (arith, e)
  few_fail n (Reopened p q ∷ es) last h = let i = few_fail q es last h.2 in let l = h.1 in omega (arith, i, l)
  few_fail n (Called c ∷ es) last h = fail_case n c.after (failures M es) last (M.failed c.answer) h.2 h.1 (few_fail c.after es last h.3)

  module _ (turn : TurnValue S) where
    -- what the last state says of the seats that were joined, none of which is missing
    pub closes : (i : ℕ) (me : Me (Option S) (View Q A)) (first : SeatValue Q A) (rest_of all : List (SeatValue Q A)) (words : List ℕ) (slots : List (Option S)) (slot : Option S)
        → all ≡ rest_of ++ first ∷ [] → Knows me.0 first → Every (Knows me.0) rest_of → me.0.ticket ≡ None → missing turn.seats all ≡ 0
        → Final (Seen (IsOrdered M turn.start turn.seats) i me.0) words slots → get_elem? slots 0 ≡ some slot → (object : S) × (slot ≡ Some object) × Closes M turn all object
    closes i me first rest_of all words slots slot all_is knows_first knows free nothing f taken =
        let h = f.1.0 in
        let at = f.1.1 in
        let b = h.book in
        let mine = h.fits i me.0 at in
        let knows_all : Every (Knows me.0) all = subst (Every (Knows me.0)) (sym all_is) (every_append (Knows me.0) rest_of (first ∷ []) knows (knows_first, tt)) in
        let each : (n : ℕ) → n < turn.seats → b.chair_at n ≡ i = λ n lt.
        let x = some_number (Knows me.0) n all knows_all (has_each turn.seats all nothing n lt) in
        ap b.chair_at (sym x.1) ∙ (every_among (ChairFits b.made b.chair_at b.log i) me.0.chairs (chair x.0.number x.0.own) mine.chairs x.2.0).here in
        let home = h.home (is_home i me.0 (f.0) h at free each b.out refl) in
        let there = f.4 0 (Some home.0) (ap (λ (hs : List (mathlib.Core.Option.Option (Option S))). get_elem? hs 0) home.1) in (
          home.0,
          some-injective slot (Some home.0) (sym taken ∙ there),
          record {
            log = b.log;
            reaches = home.2;
            begins = every_map (Knows me.0) (λ (x : SeatValue Q A). StartsWith b.log x.seen) (λ x k. every_among (StartsWith b.log) (me.0.seen ∷ me.0.heard) x.seen (mine.seen, mine.heard) k.1) all knows_all;
            own = every_map (Knows me.0) (λ (x : SeatValue Q A). made_by x.number b.log ≡ x.own) (λ x k. (every_among (ChairFits b.made b.chair_at b.log i) me.0.chairs (chair x.number x.own) mine.chairs k.0).own) all knows_all;
            whole = every_map (λ (c : Call Q A). c.seat < b.made) (λ (c : Call Q A). c.seat < turn.seats) (λ c lt. let m = h.made in omega (arith, lt, m)) (calls b.log) h.callers;
            few = few_fail (M.faults turn.start) b.log (M.faults home.0) home.2.counted;
          },
        )
      where
        is_home : (i : ℕ) (v : View Q A) (s : State (Option S) (View Q A)) (h : IsOrdered M turn.start turn.seats s) → get_elem? s.views i ≡ some v → v.ticket ≡ None → ((n : ℕ) → n < turn.seats → h.book.chair_at n ≡ i) → (o : Bool) → h.book.out ≡ o → h.book.out ≡ false
        is_home i v s h at free each false is = is
        is_home i v s h at free each true is =
            let a = h.away is in
            let u = a.1.0 in
            let f = h.fits (h.book.ticket_at h.book.serving) u a.1.1 in
            let has = (f.turn a.1.2).1 in
            absurd (by_chairs u.chairs refl f has a.1.1)
          where
            by_chairs : (hs : List (Chair Q A)) → (h.away is).1.0.chairs ≡ hs → Fits turn.seats h.book (h.book.ticket_at h.book.serving) (h.away is).1.0 → (h.away is).1.0.ticket ≡ Some h.book.serving → get_elem? s.views (h.book.ticket_at h.book.serving) ≡ some (h.away is).1.0 → ⊥
            by_chairs [] e f has there = absurd (no_ticket (sym has ∙ f.unseated e))
              where
                no_ticket : Some h.book.serving ≡ None → ⊥
                no_ticket e = absurd (cc)
            by_chairs (x ∷ xs) e f has there =
                let c = (subst (Every (ChairFits h.book.made h.book.chair_at h.book.log (h.book.ticket_at h.book.serving))) e f.chairs).0 in
                let made = h.made in
                let here : h.book.ticket_at h.book.serving ≡ i = sym c.here ∙ each x.number (let lt = c.was_made in omega (arith, lt, made)) in
                let same = same_at s.views _ _ (h.away is).1.0 v there at here in
                absurd (no_ticket (sym has ∙ ap (λ w. w.ticket) same ∙ free))
              where
                no_ticket : Some h.book.serving ≡ None → ⊥
                no_ticket e = absurd (cc)
