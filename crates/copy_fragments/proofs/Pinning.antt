-- How slots are pinned for pieces, and how those pins are taken back.
use Rattle.std.proofs.Common.{◌≡◌, ◌≢◌, ⊎_elim, ℕ, suc, ◌+◌, ◌-◌, ◌<◌, ◌≤◌, List, [], ◌∷◌, ◌++◌, length, take, get_or, Some, None, refl, sym, ◌∙◌, ap, arith, true, false}
use Rattle.std.specs.Prelude.{Bool, Option, cond, if◌then◌else◌, ◌||◌, ◌==◌, nat_lt, is_some}
use Rattle.std.specs.List.{count_by}
use Rattle.std.proofs.lemmas.Bool.{cases_eq, cases_lt}
use Rattle.std.proofs.lemmas.Bool.Decides.{nat_tests}
use Rattle.std.proofs.lemmas.List.Sums.{count_by-le-length, sum_by-cons, sum_by_more, sum_by_push}
use Rattle.segment_pool.specs.declared.slot.Slot.{Slot}
use Rattle.segment_pool.specs.Slots.{AreSound, Becomes, IsAsBefore, IsPinnedAtMost, PinnedAgain, Placed, PoolState, at_slot, held, number_held, one_if_held, room_beside, while_held}
use Rattle.copy_fragments.specs.Placings.{PinnedEach, times}
use Rattle.copy_fragments.specs.PlacingSteps.{ArePinned, UnpinnedEach}

same_time : (s : ℕ) → ◌≡◌ {A = ℕ} (cond (s == s) 1 0) 1
same_time s = grind (arith, nat_tests)

pub other_time : (s t : ℕ) → t ≢ s → ◌≡◌ {A = ℕ} (cond (s == t) 1 0) 0
other_time s t ne = grind (arith, nat_tests)

-- one slot more in a list
pub record OneMore (slot : ℕ) (done next : List ℕ) : Type 0 where
  pub here : times slot next ≡ times slot done + 1
  pub elsewhere : (t : ℕ) → t ≢ slot → times t next ≡ times t done

pub push_more : (slot : ℕ) (done : List ℕ) → OneMore slot done (done ++ slot ∷ [])
push_more slot done = record {
  here = omega (arith, sum_by_push (λ (s : ℕ). cond (s == slot) 1 0) done slot, same_time slot);
  elsewhere = λ t ne. omega (arith, sum_by_push (λ (s : ℕ). cond (s == t) 1 0) done slot, other_time slot t ne);
}

pub take_more : (slot i : ℕ) (slots : List ℕ) → i < length slots → slot ≡ get_or slots i 0 → OneMore slot (take i slots) (take (i + 1) slots)
take_more slot i slots within is = record {
  here = omega (arith, sum_by_more (λ (s : ℕ). cond (s == slot) 1 0) slots i 0 within, same_time slot, ap (λ (k : ℕ). times slot (k ∷ [])) is);
  elsewhere = λ t ne. omega (arith, sum_by_more (λ (s : ℕ). cond (s == t) 1 0) slots i 0 within, other_time slot t ne, ap (λ (k : ℕ). times t (k ∷ [])) is);
}

or_true : {X : Type 0} (b : Bool) (x y : X) → (if b || true then x else y) ≡ x
or_true true x y = refl
or_true false x y = refl

some_lt : (n : ℕ) → 0 < n → nat_lt 0 n ≡ true
some_lt n lt = grind (arith, nat_tests)

-- a pinned slot is held
pinned_held : (what : Slot) → 0 < what.pins → while_held what ≡ Some what
pinned_held what lt = ap (λ (b : Bool). if what.live || b then Some what else None) (some_lt what.pins lt) ∙ or_true what.live (Some what) None

-- a slot with so many pins
abbrev with_pins : Slot → ℕ → Slot
with_pins what n = record what { pins = n }

not_none : {X : Type 0} (o : Option X) (x : X) → o ≡ None → o ≡ Some x → ⊥
not_none o x none some = absurd (cc (none, some))

-- one slot more is unpinned
module _ (old now new : PoolState) (slot : ℕ) (done next all : List ℕ) (more : OneMore slot done next) (le : times slot next ≤ times slot all) (so_far : UnpinnedEach old now done) (pinned : ArePinned old all) where
  still : (what : Slot) × (held old slot ≡ Some what) × (times slot next ≤ what.pins) × (held now slot ≡ Some (with_pins what (what.pins - times slot done)))
  still =
      let had = pinned slot (omega (arith, le, more.here)) in
      let enough : times slot next ≤ had.0.pins = omega (arith, le, had.2) in (
        had.0,
        had.1,
        enough,
        ⊎_elim
            (λ some. so_far.less slot had.0 had.1 some ∙ pinned_held (with_pins had.0 (had.0.pins - times slot done)) (omega (arith, enough, more.here)))
            (λ few. so_far.others slot (omega (arith, few)) ∙ had.1 ∙ ap (λ (k : ℕ). Some (with_pins had.0 k)) (omega (arith, few)))
            (cases_lt 0 (times slot done)),
      )

  pub held_still : (what : Slot) × (held now slot ≡ Some what) × (0 < what.pins)
  held_still = (with_pins still.0 (still.0.pins - times slot done), still.3, omega (arith, still.2, more.here))

  pub unpinned_on : ((what : Slot) → held now slot ≡ Some what → Becomes now new slot (while_held (record what { pins = what.pins - 1 }))) → UnpinnedEach old new next
  unpinned_on becomes =
      let what : Slot = still.0 in
      let b = becomes (with_pins what (what.pins - times slot done)) still.3 in
      record {
        file = b.file ∙ so_far.file;
        size = b.size ∙ so_far.size;
        limit = b.slots ∙ so_far.limit;
        less = λ t w is some. ⊎_elim
            (λ same.
            let w_is : still.0 ≡ w = let e = still.1 in let f = ap (λ (k : ℕ). held old k) (sym same) ∙ is in cc (e, f) in
            let left : what.pins - times slot done - 1 ≡ w.pins - times t next = omega (arith, more.here, ap (λ (k : ℕ). times k next) same, ap (λ (x : Slot). x.pins) w_is) in
            ap (held new) same ∙ b.here ∙ (λ i. while_held (with_pins (w_is i) (left i))))
            (λ ne. b.elsewhere t ne ∙ so_far.less t w is (omega (arith, some, more.elsewhere t ne)) ∙ ap (λ (k : ℕ). while_held (with_pins w (w.pins - k))) (sym (more.elsewhere t ne)))
            (cases_eq t slot);
        others = λ t none. ⊎_elim
            (λ same. absurd (omega (arith, none, more.here, ap (λ (k : ℕ). times k next) same)))
            (λ ne. b.elsewhere t ne ∙ so_far.others t (omega (arith, none, more.elsewhere t ne)))
            (cases_eq t slot);
        beside = λ n. omega (arith, b.beside n, so_far.beside n);
      }

-- a slot is pinned once more, for one piece more
module _ (start now new : PoolState) (slot n : ℕ) (digest done next : List ℕ) (more : OneMore slot done next) (so_far : PinnedEach start now done) where
  pub pinned_again : PinnedAgain now new slot n digest → PinnedEach start new next
  pinned_again again =
      let w : Slot = again.was.what in
      let b = again.now in
      record {
        file = b.file ∙ so_far.file;
        size = b.size ∙ so_far.size;
        limit = b.slots ∙ so_far.limit;
        again = λ t what is. ⊎_elim
            (λ same.
            let w_is : again.was.what ≡ with_pins what (what.pins + times slot done) = let e = again.was.is_held in let f = so_far.again slot what (ap (held start) (sym same) ∙ is) in cc (e, f) in
            let count : what.pins + times slot done + 1 ≡ what.pins + times t next = omega (arith, more.here, ap (λ (k : ℕ). times k next) same) in
            ap (held new) same ∙ b.here ∙ (λ i. Some (with_pins (w_is i) ((w_is i).pins + 1))) ∙ ap (λ (k : ℕ). Some (with_pins what k)) count)
            (λ ne. b.elsewhere t ne ∙ so_far.again t what is ∙ ap (λ (k : ℕ). Some (with_pins what (what.pins + k))) (sym (more.elsewhere t ne)))
            (cases_eq t slot);
        others = λ t free none. ⊎_elim
            (λ same. absurd (omega (arith, none, more.here, ap (λ (k : ℕ). times k next) same)))
            (λ ne. b.elsewhere t ne ∙ so_far.others t free (omega (arith, none, more.elsewhere t ne)))
            (cases_eq t slot);
        placed = λ t free some. ⊎_elim
            (λ same.
            let free' : held start slot ≡ None = ap (held start) (sym same) ∙ free in
            let had : (x : Slot) × (held now slot ≡ Some x) × (x.live ≡ false) × (x.pins ≡ times slot done) × (x.count ≡ 0) = ⊎_elim
            (λ before. so_far.placed slot free' before)
            (λ few. absurd (not_none (held now slot) again.was.what (so_far.others slot free' (omega (arith, few))) again.was.is_held))
            (cases_lt 0 (times slot done)) in
            let w_is : again.was.what ≡ had.0 = let e = again.was.is_held in let f = had.1 in cc (e, f) in (
              with_pins w (w.pins + 1),
              ap (held new) same ∙ b.here,
              ap (λ (x : Slot). x.live) w_is ∙ had.2,
              omega (arith, ap (λ (x : Slot). x.pins) w_is, had.3, more.here, ap (λ (k : ℕ). times k next) same),
              ap (λ (x : Slot). x.count) w_is ∙ had.4,
            ))
            (λ ne.
            let had = so_far.placed t free (omega (arith, some, more.elsewhere t ne)) in
            (had.0, b.elsewhere t ne ∙ had.1, had.2, had.3 ∙ sym (more.elsewhere t ne), had.4))
            (cases_eq t slot);
      }

  pub pinned_new : Placed now new slot n digest → PinnedEach start new next
  pinned_new placed =
      let b = placed.now in
      record {
        file = b.file ∙ so_far.file;
        size = b.size ∙ so_far.size;
        limit = b.slots ∙ so_far.limit;
        again = λ t what is. ⊎_elim
            (λ same. absurd (not_none (held now slot) (with_pins what (what.pins + times slot done)) placed.lowest.free (so_far.again slot what (ap (held start) (sym same) ∙ is))))
            (λ ne. b.elsewhere t ne ∙ so_far.again t what is ∙ ap (λ (k : ℕ). Some (with_pins what (what.pins + k))) (sym (more.elsewhere t ne)))
            (cases_eq t slot);
        others = λ t free none. ⊎_elim
            (λ same. absurd (omega (arith, none, more.here, ap (λ (k : ℕ). times k next) same)))
            (λ ne. b.elsewhere t ne ∙ so_far.others t free (omega (arith, none, more.elsewhere t ne)))
            (cases_eq t slot);
        placed = λ t free some. ⊎_elim
            (λ same.
            let free' : held start slot ≡ None = ap (held start) (sym same) ∙ free in
            let first : times slot done ≡ 0 = ⊎_elim
            (λ before. let had = so_far.placed slot free' before in absurd (not_none (held now slot) had.0 placed.lowest.free had.1))
            (λ few. omega (arith, few)) (cases_lt 0 (times slot done)) in
            (_, ap (held new) same ∙ b.here, refl, omega (arith, first, more.here, ap (λ (k : ℕ). times k next) same), refl))
            (λ ne.
            let had = so_far.placed t free (omega (arith, some, more.elsewhere t ne)) in
            (had.0, b.elsewhere t ne ∙ had.1, had.2, had.3 ∙ sym (more.elsewhere t ne), had.4))
            (cases_eq t slot);
      }

-- a refused piece changes no slot
pub pinned_before : (start now new : PoolState) (slots : List ℕ) → PinnedEach start now slots → IsAsBefore now new → PinnedEach start new slots
pinned_before start now new slots so_far before = record {
  file = before.file ∙ so_far.file;
  size = before.size ∙ so_far.size;
  limit = before.slots ∙ so_far.limit;
  again = λ s w is. before.same s ∙ so_far.again s w is;
  others = λ s free none. before.same s ∙ so_far.others s free none;
  placed = λ s free some. let had = so_far.placed s free some in (had.0, before.same s ∙ had.1, had.2, had.3, had.4);
}

-- what was pinned can be unpinned
module _ (start now : PoolState) (slots : List ℕ) (each : PinnedEach start now slots) where
  are_pinned_at : (slot : ℕ) (o : Option Slot) → held start slot ≡ o → 1 ≤ times slot slots → (what : Slot) × (held now slot ≡ Some what) × (times slot slots ≤ what.pins)
  are_pinned_at slot None free some = let had = each.placed slot free some in (had.0, had.1, omega (arith, had.3))
  are_pinned_at slot (Some what) is some = (with_pins what (what.pins + times slot slots), each.again slot what is, omega arith)

  pub are_pinned : ArePinned now slots
  are_pinned slot some = are_pinned_at slot (held start slot) refl some

-- no slot is pinned more often than before by more than so many slots
module _ (start now : PoolState) (slots : List ℕ) (most : ℕ) (each : PinnedEach start now slots) (few : IsPinnedAtMost most start) where
  few_pins_at : (slot : ℕ) (o : Option Slot) (what : Slot) → held start slot ≡ o → held now slot ≡ Some what → what.pins ≤ most + length slots
  few_pins_at slot (Some w) what is now_is =
      let same : what ≡ with_pins w (w.pins + times slot slots) = let a = each.again slot w is in cc (a, now_is) in
      omega (arith, ap (λ (x : Slot). x.pins) same, few slot w is, count_by-le-length (λ (s : ℕ). s == slot) slots)
  few_pins_at slot None what is now_is = ⊎_elim
      (λ some.
      let had = each.placed slot is some in
      let same : what ≡ had.0 = let a = had.1 in cc (a, now_is) in
      omega (arith, ap (λ (x : Slot). x.pins) same, had.3, count_by-le-length (λ (s : ℕ). s == slot) slots))
      (λ none. absurd (not_none (held now slot) what (each.others slot is (omega (arith, none))) now_is))
      (cases_lt 0 (times slot slots))

  pub few_pins : IsPinnedAtMost (most + length slots) now
  few_pins slot what is = few_pins_at slot (held start slot) what refl is

freed : (what : Slot) → what.live ≡ false → what.pins ≡ 0 → while_held what ≡ None
freed what dead none = (λ i. if (dead i) || nat_lt 0 (none i) then Some what else None)

-- as many are held where the same are
same_count : (t u : List (Option Slot)) → ((s : ℕ) → at_slot t s ≡ at_slot u s) → count_by is_some t ≡ count_by is_some u
same_count [] [] same = refl
same_count [] (y ∷ ys) same = omega (arith, same_count [] ys (λ s. same (suc s)), sum_by-cons (λ (o : Option Slot). cond (is_some o) 1 0) y ys, ap one_if_held (same 0))
same_count (x ∷ xs) [] same = omega (arith, same_count xs [] (λ s. same (suc s)), sum_by-cons (λ (o : Option Slot). cond (is_some o) 1 0) x xs, ap one_if_held (same 0))
same_count (x ∷ xs) (y ∷ ys) same = omega (arith, same_count xs ys (λ s. same (suc s)), sum_by-cons (λ (o : Option Slot). cond (is_some o) 1 0) x xs, sum_by-cons (λ (o : Option Slot). cond (is_some o) 1 0) y ys, ap one_if_held (same 0))

-- once all pins are taken back, all is as before
module _ (start now new : PoolState) (slots : List ℕ) (sound : AreSound start.size start.table) (each : PinnedEach start now slots) (back : UnpinnedEach now new slots) where
  back_at : (slot : ℕ) (o : Option Slot) → held start slot ≡ o → held new slot ≡ o
  back_at slot None free = ⊎_elim
      (λ some.
      let had = each.placed slot free some in
      back.less slot had.0 had.1 some ∙ freed (with_pins had.0 (had.0.pins - times slot slots)) had.2 (omega (arith, had.3)))
      (λ few. let none : times slot slots ≡ 0 = omega (arith, few) in back.others slot none ∙ each.others slot free none)
      (cases_lt 0 (times slot slots))
  back_at slot (Some what) is = ⊎_elim
      (λ some. back.less slot (with_pins what (what.pins + times slot slots)) (each.again slot what is) some
      ∙ ap (λ (k : ℕ). while_held (with_pins what k)) (let z : what.pins + times slot slots - times slot slots ≡ what.pins = omega arith in z) ∙ (sound slot what is).2)
      (λ few.
      let none : times slot slots ≡ 0 = omega (arith, few) in
      back.others slot none ∙ each.again slot what is ∙ ap (λ (k : ℕ). Some (with_pins what k)) (let z : what.pins + times slot slots ≡ what.pins = omega (arith, none) in z))
      (cases_lt 0 (times slot slots))

  pub as_before : ((n : ℕ) → room_beside start n ≤ room_beside now n) → IsAsBefore start new
  as_before beside =
      let number : number_held new ≡ number_held start = same_count new.table start.table (λ s. back_at s (held start s) refl) in
      record {
        file = back.file ∙ each.file;
        size = back.size ∙ each.size;
        slots = back.limit ∙ each.limit;
        same = λ s. back_at s (held start s) refl;
        number = number;
        room = omega (arith, beside (number_held start), back.beside (number_held start), ap (room_beside new) number);
        beside = λ n. omega (arith, beside n, back.beside n);
      }

pub sound_before : (start now : PoolState) → IsAsBefore start now → AreSound now.size now.table → AreSound start.size start.table
sound_before start now before sound s what is = let had = sound s what (before.same s ∙ is) in (had.0, omega (arith, had.1, before.size), had.2)
