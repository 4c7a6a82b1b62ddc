-- A pool that keeps the slots of a copy, slot by slot.
use Rattle.std.proofs.Common.{◌≡◌, ◌≢◌, ◌+◌, ◌-◌, ◌<◌, ◌≤◌, ◌^◌, ⊎_elim, ℕ, List, [], ◌∷◌, ◌++◌, length, get_or, take, drop, Some, None, true, false, refl, sym, ◌∙◌, ap, subst, append_assoc, zero-add, arith}
use Rattle.std.specs.Prelude.{Bool, Option, ◌==◌, ◌||◌, Contains}
use Rattle.std.specs.List.{list_any}
use Rattle.std.proofs.lemmas.Bool.{cases_eq, cases_lt, cond-true, cond-false, or_parts}
use Rattle.std.proofs.lemmas.List.{append-nil, drop_all, drop_more, map-append, take_all, take_more}
use Rattle.std.proofs.lemmas.List.Elements.{Contains-push_cases}
use Rattle.std.proofs.lemmas.List.Folds.{list_any-append}
use Rattle.segment_pool.specs.Slots.{PoolState, Becomes, count_of, held, made_live, while_held}
use Rattle.segment_pool.specs.declared.slot.Slot.{Slot}
use Rattle.copy_fragments.specs.PlacingSteps.{ArePinned}
use Rattle.copy_fragments.specs.Placings.{PinnedEach, times}
use Rattle.pool_journal.specs.declared.segments.NewSegment.{NewSegment}
use Rattle.vault_ledger.specs.Following.{CountsFit, HoldsNow, IsPlacedSegment, kept_slot, newly_live}
use Rattle.vault_ledger.specs.Ledger.{has_slot}
use Rattle.vault_ledger.specs.Pools.{HoldsLive, live_slot, slots_in, unrecorded}
use Rattle.vault_ledger.proofs.LiveSlots.{found_slot, slot_behind, slot_there, times_behind, times_first, times_past, times_push}

-- the pool held what a ledger says, and then the slots of a copy were pinned
abbrev pub IsPlacedOn : PoolState → List NewSegment → List ℕ → List ℕ → PoolState → Type 0
IsPlacedOn before known named slots pool = HoldsLive known named before × PinnedEach before pool slots

-- One slot, as the pool's calls change it.

-- what a live slot is after its count was raised and a pin was taken back
made_kept : (pins count length : ℕ) (digest : List ℕ) (live : Bool) →
    let what : Slot = record { pins = pins; count = count; length = length; digest = digest; live = live } in
    let counted : Slot = record (made_live what) { count = (made_live what).count + 1 } in
    ((made_live what).live ≡ true) × ((made_live what).count ≡ count_of (Some what)) × ((made_live what).pins ≡ pins) × (while_held (record counted { pins = counted.pins - 1 }) ≡ Some (kept_slot what))
made_kept pins count length digest true = (refl, refl, refl, refl)
made_kept pins count length digest false = (refl, refl, refl, refl)

pub is_made_live : (what : Slot) → ((made_live what).live ≡ true) × ((made_live what).count ≡ count_of (Some what)) × ((made_live what).pins ≡ what.pins)
is_made_live what = let all = made_kept what.pins what.count what.length what.digest what.live in (all.0, all.1, all.2)

-- a change of a slot behind another of the same
pub changed_again : (a b c : PoolState) (slot : ℕ) (x y : Slot) → HoldsNow a b slot x → Becomes b c slot (Some y) → HoldsNow a c slot y
changed_again a b c slot x y first second = record {
  pool = record { file = second.file ∙ first.pool.file; size = second.size ∙ first.pool.size; slots = second.slots ∙ first.pool.slots };
  here = second.here;
  elsewhere = λ t ne. second.elsewhere t ne ∙ first.elsewhere t ne;
}

pub changed_once : (a b : PoolState) (slot : ℕ) (x : Slot) → Becomes a b slot (Some x) → HoldsNow a b slot x
changed_once a b slot x now = record { pool = record { file = now.file; size = now.size; slots = now.slots }; here = now.here; elsewhere = now.elsewhere }

pub unchanged : (pool : PoolState) (slot : ℕ) (what : Slot) → held pool slot ≡ Some what → HoldsNow pool pool slot what
unchanged pool slot what is = record { pool = record { file = refl; size = refl; slots = refl }; here = is; elsewhere = λ t ne. refl }

-- a slot was made live, counted and unpinned
pub kept_now : (a b c d : PoolState) (slot : ℕ) (what : Slot) → HoldsNow a b slot (made_live what)
    → ((w : Slot) → held b slot ≡ Some w → Becomes b c slot (Some (record w { count = w.count + 1 })))
    → ((w : Slot) → held c slot ≡ Some w → Becomes c d slot (while_held (record w { pins = w.pins - 1 })))
    → HoldsNow a d slot (kept_slot what)
kept_now a b c d slot what live raised unpinned =
    let counted : Slot = record (made_live what) { count = (made_live what).count + 1 } in
    let second = raised (made_live what) live.here in
    let last = unpinned counted second.here in
    changed_again a c d slot counted (kept_slot what) (changed_again a b c slot (made_live what) counted live second)
    (subst (λ o. Becomes c d slot o) (made_kept what.pins what.count what.length what.digest what.live).3 last)

-- What a caller's slots allow at each of them.

pub pinned_first : (slot : ℕ) (rest : List ℕ) (pool : PoolState) → ArePinned pool (slot ∷ rest) → (what : Slot) × (held pool slot ≡ Some what) × (1 ≤ what.pins)
pinned_first slot rest pool pinned =
    let first = times_first slot rest in
    let one = pinned slot (omega (arith, first)) in
    (one.0, one.1, omega (arith, first, one.2))

pub pinned_next : (old new : PoolState) (slot : ℕ) (rest : List ℕ) (what : Slot) → held old slot ≡ Some what → HoldsNow old new slot (kept_slot what) → ArePinned old (slot ∷ rest) → ArePinned new rest
pinned_next old new slot rest what is now pinned t some = ⊎_elim
    (λ same.
    let one = pinned slot (omega (arith, times_first slot rest)) in
    let equal : one.0 ≡ what = let e = one.1 in cc (e, is) in
    let first : times t rest + 1 ≤ what.pins = omega (arith, one.2, ap (λ (w : Slot). w.pins) equal, times_first slot rest, ap (λ (k : ℕ). times k rest) same) in
    (kept_slot what, ap (λ (k : ℕ). held new k) same ∙ now.here, omega (arith, first)))
    (λ ne.
    let past = times_past t slot rest ne in
    let one = pinned t (omega (arith, past, some)) in
    (one.0, now.elsewhere t ne ∙ one.1, omega (arith, past, one.2)))
    (cases_eq t slot)

pub counts_next : (old new : PoolState) (slot : ℕ) (what : Slot) (more n : ℕ) → held old slot ≡ Some what → HoldsNow old new slot (kept_slot what) → n ≡ more + 1 → CountsFit n old → CountsFit more new
counts_next old new slot what more n is now n_is fit t = ⊎_elim
    (λ same.
    let before : count_of (held old slot) ≡ count_of (Some what) = ap count_of is in
    let after : count_of (held new t) ≡ count_of (Some what) + 1 = ap count_of (ap (λ (k : ℕ). held new k) same ∙ now.here) in
    omega (arith, n_is, fit slot, before, after))
    (λ ne. omega (arith, n_is, fit t, ap count_of (now.elsewhere t ne)))
    (cases_eq t slot)

-- pins leave the counts as they were
pub counts_pinned : (before pool : PoolState) (slots : List ℕ) (more : ℕ) → PinnedEach before pool slots → CountsFit more before → CountsFit more pool
counts_pinned before pool slots more pinned fit t = at (held before t) refl
  where
    at : (o : Option Slot) → held before t ≡ o → count_of (held pool t) + more < 2 ^ 64
    at (Some what) is = omega (arith, fit t, ap count_of is, ap count_of (pinned.again t what is))
    at None is = ⊎_elim
        (λ some. let one = pinned.placed t is some in omega (arith, fit t, ap count_of one.1, cond-false one.0.live one.0.count 0 one.2))
        (λ none. omega (arith, fit t, ap count_of (pinned.others t is (omega (arith, none)))))
        (cases_lt 0 (times t slots))

-- The pool between two slots.

-- the live segments are counted, and pinned as often as their slots are still to come; slots that aren't live are as they were before the first
pub record IsKeeping (start : PoolState) (live : List NewSegment) (named rest : List ℕ) (pool : PoolState) : Type 0 where
  pub here : (s : NewSegment) → Contains live s → held pool s.slot ≡ Some (record (live_slot s (times s.slot named)) { pins = times s.slot rest })
  pub others : (t : ℕ) → has_slot t live ≡ false → held pool t ≡ held start t
  pub only : (t : ℕ) → has_slot t live ≡ false → times t named ≡ 0
  pub free : (t : ℕ) → has_slot t live ≡ false → times t rest ≡ 0 → held start t ≡ None
  pub waiting : (t : ℕ) → has_slot t live ≡ false → 1 ≤ times t rest → (what : Slot) × (held start t ≡ Some what) × (what.live ≡ false) × (what.pins ≡ times t rest)

keeping_none : (before start : PoolState) (known : List NewSegment) (named slots : List ℕ) → IsPlacedOn before known named slots start → IsKeeping start known named slots start
keeping_none before start known named slots placed = record {
  here = λ s among. placed.1.again s.slot (live_slot s (times s.slot named)) (placed.0.here s among) ∙ ap (λ (k : ℕ). Some (record (live_slot s (times s.slot named)) { pins = k })) (zero-add (times s.slot slots));
  others = λ t none. refl;
  only = placed.0.only;
  free = λ t none no. placed.1.others t (placed.0.others t none) no;
  waiting = λ t none some. let one = placed.1.placed t (placed.0.others t none) some in (one.0, one.1, one.2, one.3);
}

keeping_all : (start pool : PoolState) (live : List NewSegment) (named : List ℕ) → IsKeeping start live named [] pool → HoldsLive live named pool
keeping_all start pool live named k = record { here = k.here; others = λ t none. k.others t none ∙ k.free t none refl; only = k.only }

-- a slot is live already, or it is as it was before the first and becomes live now
pub data IsNext (start : PoolState) (live : List NewSegment) (slot : ℕ) (rest : List ℕ) (what : Slot) : Type 0 where
  is_live : has_slot slot live ≡ true → what.live ≡ true → IsNext start live slot rest what
  becomes_live : has_slot slot live ≡ false → what.live ≡ false → held start slot ≡ Some what → what.pins ≡ times slot rest + 1 → IsNext start live slot rest what

module _ (start old : PoolState) (live : List NewSegment) (named rest : List ℕ) (slot : ℕ) (what : Slot) (k : IsKeeping start live named (slot ∷ rest) old) (is : held old slot ≡ Some what) where
  next_is : IsNext start live slot rest what
  next_is = at (has_slot slot live) refl
    where
      at : (b : Bool) → has_slot slot live ≡ b → IsNext start live slot rest what
      at true there =
          let found = found_slot slot live there in
          let one : what ≡ record (live_slot found.0 (times found.0.slot named)) { pins = times found.0.slot (slot ∷ rest) } = let e = ap (λ (t : ℕ). held old t) found.2 ∙ is in let f = k.here found.0 found.1 in cc (e, f) in
          is_live there (ap (λ (w : Slot). w.live) one)
      at false none =
          let first = times_first slot rest in
          let one = k.waiting slot none (omega (arith, first)) in
          let same : one.0 ≡ what = let e = one.1 in let f = sym (k.others slot none) ∙ is in cc (e, f) in
          becomes_live none (sym (ap (λ (w : Slot). w.live) same) ∙ one.2) (sym (k.others slot none) ∙ is) (sym (ap (λ (w : Slot). w.pins) same) ∙ one.3 ∙ first)

  module _ (new : PoolState) (now : HoldsNow old new slot (kept_slot what)) where
    kept_other : (x : NewSegment) → Contains live x → x.slot ≢ slot → held new x.slot ≡ Some (record (live_slot x (times x.slot (named ++ slot ∷ []))) { pins = times x.slot rest })
    kept_other x among ne =
        let count = sym (times_behind x.slot slot named ne) in
        let pins = times_past x.slot slot rest ne in
        now.elsewhere x.slot ne ∙ k.here x among ∙ (λ i. Some (record (live_slot x (count i)) { pins = pins i }))

    -- slots that aren't live stay as they were, whatever became live
    kept_more : (more : List NewSegment) → ((t : ℕ) → has_slot t more ≡ false → (has_slot t live ≡ false) × (t ≢ slot)) → ((x : NewSegment) → Contains more x → held new x.slot ≡ Some (record (live_slot x (times x.slot (named ++ slot ∷ []))) { pins = times x.slot rest }))
        → IsKeeping start more (named ++ slot ∷ []) rest new
    kept_more more apart here = record {
      here = here;
      others = λ t none. now.elsewhere t (apart t none).1 ∙ k.others t (apart t none).0;
      only = λ t none. times_behind t slot named (apart t none).1 ∙ k.only t (apart t none).0;
      free = λ t none no. k.free t (apart t none).0 (times_past t slot rest (apart t none).1 ∙ no);
      waiting = λ t none some.
          let past = times_past t slot rest (apart t none).1 in
          let one = k.waiting t (apart t none).0 (omega (arith, past, some)) in
          (one.0, one.1, one.2, one.3 ∙ past);
    }

    kept_live : has_slot slot live ≡ true → IsKeeping start live (named ++ slot ∷ []) rest new
    kept_live there = kept_more live (λ t none. (none, λ same. absurd (let e = ap (λ (s : ℕ). has_slot s live) (sym same) ∙ none in cc (e, there))))
        (λ x among. ⊎_elim
        (λ same.
        let one : what ≡ record (live_slot x (times x.slot named)) { pins = times x.slot (slot ∷ rest) } = let e = ap (λ (t : ℕ). held old t) same ∙ is in let f = k.here x among in cc (e, f) in
        let count : times x.slot named + 1 ≡ times x.slot (named ++ slot ∷ []) = sym (times_push x.slot named) ∙ ap (λ (s : ℕ). times x.slot (named ++ s ∷ [])) same in
        let pins : times x.slot (slot ∷ rest) - 1 ≡ times x.slot rest = omega (arith, times_first x.slot rest, ap (λ (s : ℕ). times x.slot (s ∷ rest)) same) in
        ap (λ (t : ℕ). held new t) same ∙ now.here ∙ ap (λ (w : Slot). Some (kept_slot w)) one ∙ (λ i. Some (record (live_slot x (count i)) { pins = pins i })))
        (kept_other x among) (cases_eq x.slot slot))

    abbrev segment : NewSegment
    segment = record { slot = slot; length = what.length; digest = what.digest }

    kept_new : has_slot slot live ≡ false → what.live ≡ false → what.pins ≡ times slot rest + 1 → IsKeeping start (live ++ segment ∷ []) (named ++ slot ∷ []) rest new
    kept_new none unlive pinned = kept_more (live ++ segment ∷ []) (λ t no. slot_behind t live segment no)
        (λ x among. ⊎_elim
        (λ before. kept_other x before (λ same. absurd (let e = sym (ap (λ (s : ℕ). has_slot s live) same) ∙ slot_there live x before in cc (e, none))))
        (λ same.
        let count : count_of (Some what) + 1 ≡ times slot (named ++ slot ∷ []) = omega (arith, cond-false what.live what.count 0 unlive, times_push slot named, k.only slot none) in
        let pins : what.pins - 1 ≡ times slot rest = omega (arith, pinned) in
        subst (λ (y : NewSegment). held new y.slot ≡ Some (record (live_slot y (times y.slot (named ++ slot ∷ []))) { pins = times y.slot rest })) same
        (now.here ∙ (λ i. Some (record (live_slot segment (count i)) { pins = pins i }))))
        (Contains-push_cases live segment x among))

-- The order of what is recorded.

pub any_slot : (slot : ℕ) (segments : List NewSegment) → list_any (λ (s : ℕ). s == slot) (slots_in segments) ≡ has_slot slot segments
any_slot slot [] = refl
any_slot slot (s ∷ segments) = ap (λ (b : Bool). (s.slot == slot) || b) (any_slot slot segments)

pub recorded_slot : (slot : ℕ) (live : List NewSegment) (rest : List ℕ) → has_slot slot live ≡ true → unrecorded (slots_in live) (slot ∷ rest) ≡ unrecorded (slots_in live) rest
recorded_slot slot live rest there = cond-true (list_any (λ (s : ℕ). s == slot) (slots_in live)) _ _ (any_slot slot live ∙ there)

pub unrecorded_slot : (s : NewSegment) (live : List NewSegment) (rest : List ℕ) → has_slot s.slot live ≡ false → unrecorded (slots_in live) (s.slot ∷ rest) ≡ s.slot ∷ unrecorded (slots_in (live ++ s ∷ [])) rest
unrecorded_slot s live rest none =
    cond-false (list_any (λ (t : ℕ). t == s.slot) (slots_in live)) _ _ (any_slot s.slot live ∙ none)
    ∙ ap (λ (l : List ℕ). s.slot ∷ unrecorded l rest) (sym (map-append (λ (r : NewSegment). r.slot) live (s ∷ [])))

-- All slots.

-- some of the slots were kept, these are still to come, and these segments became live
pub record KeptSoFar (before start : PoolState) (known : List NewSegment) (named slots done rest : List ℕ) (added : List NewSegment) (pool : PoolState) : Type 0 where
  pub keeping : IsKeeping start (known ++ added) (named ++ done) rest pool
  pub order : unrecorded (slots_in known) slots ≡ slots_in added ++ unrecorded (slots_in (known ++ added)) rest
  pub fits : (s : NewSegment) → Contains added s → IsPlacedSegment before start s

module _ (before start : PoolState) (known : List NewSegment) (named slots : List ℕ) (placed : IsPlacedOn before known named slots start) where
  pub all_kept : (i : ℕ) (added : List NewSegment) (pool : PoolState) → length slots ≤ i → KeptSoFar before start known named slots (take i slots) (drop i slots) added pool
      → HoldsLive (known ++ added) (named ++ slots) pool × (slots_in added ≡ unrecorded (slots_in known) slots)
  all_kept i added pool past far =
      let all : KeptSoFar before start known named slots slots [] added pool = subst (λ (l : List ℕ). KeptSoFar before start known named slots l [] added pool) (take_all i slots past) (subst (λ (l : List ℕ). KeptSoFar before start known named slots (take i slots) l added pool) (drop_all i slots past) far) in
      (keeping_all start pool (known ++ added) (named ++ slots) all.keeping, sym (all.order ∙ append-nil (slots_in added)))

  module _ (slot : ℕ) (done rest : List ℕ) (added : List NewSegment) (old new : PoolState) (what : Slot) (is : held old slot ≡ Some what) (now : HoldsNow old new slot (kept_slot what)) (far : KeptSoFar before start known named slots done (slot ∷ rest) added old) where
    next_by : (added' : List NewSegment) → added' ≡ added ++ newly_live slot what → IsNext start (known ++ added) slot rest what → KeptSoFar before start known named slots (done ++ slot ∷ []) rest added' new
    next_by added' more (is_live there live) =
        subst (λ (l : List NewSegment). KeptSoFar before start known named slots (done ++ slot ∷ []) rest l new) (sym (more ∙ ap (λ (l : List NewSegment). added ++ l) (cond-true what.live _ _ live) ∙ append-nil added)) (record {
          keeping = subst (λ (l : List ℕ). IsKeeping start (known ++ added) l rest new) (append_assoc named done (slot ∷ [])) (kept_live start old (known ++ added) (named ++ done) rest slot what far.keeping is new now there);
          order = far.order ∙ ap (λ (l : List ℕ). slots_in added ++ l) (recorded_slot slot (known ++ added) rest there);
          fits = far.fits;
        })
    next_by added' more (becomes_live none unlive held_before pinned) =
        let s : NewSegment = record { slot = slot; length = what.length; digest = what.digest } in
        let assoc : (known ++ added) ++ s ∷ [] ≡ known ++ (added ++ s ∷ []) = append_assoc known added (s ∷ []) in
        subst (λ (l : List NewSegment). KeptSoFar before start known named slots (done ++ slot ∷ []) rest l new) (sym (more ∙ ap (λ (l : List NewSegment). added ++ l) (cond-false what.live _ _ unlive))) (record {
          keeping = subst (λ (l : List NewSegment). IsKeeping start l (named ++ (done ++ slot ∷ [])) rest new) assoc
              (subst (λ (l : List ℕ). IsKeeping start ((known ++ added) ++ s ∷ []) l rest new) (append_assoc named done (slot ∷ [])) (kept_new start old (known ++ added) (named ++ done) rest slot what far.keeping is new now none unlive pinned));
          order = far.order ∙ ap (λ (l : List ℕ). slots_in added ++ l) (unrecorded_slot s (known ++ added) rest none)
              ∙ sym (append_assoc (slots_in added) (slot ∷ []) (unrecorded (slots_in ((known ++ added) ++ s ∷ [])) rest))
              ∙ (λ j. sym (map-append (λ (r : NewSegment). r.slot) added (s ∷ [])) j ++ unrecorded (slots_in (assoc j)) rest);
          fits = λ t among. ⊎_elim (far.fits t)
              (λ same. subst (IsPlacedSegment before start) same (record {
                was_free = placed.0.others slot (or_parts (has_slot slot known) (has_slot slot added) (sym (list_any-append (λ (r : NewSegment). r.slot == slot) known added) ∙ none)).0;
                what = what;
                is_held = held_before;
                length_is = refl;
                digest_is = refl;
              }))
              (Contains-push_cases added s t among);
        })

    next_kept : (added' : List NewSegment) → added' ≡ added ++ newly_live slot what → KeptSoFar before start known named slots (done ++ slot ∷ []) rest added' new
    next_kept added' more = next_by added' more (next_is start old (known ++ added) (named ++ done) rest slot what far.keeping is)

  -- the slot at a position
  pub kept_at : (i slot : ℕ) (added added' : List NewSegment) (old new : PoolState) (what : Slot) → i < length slots → slot ≡ get_or slots i 0 → held old slot ≡ Some what → HoldsNow old new slot (kept_slot what) → added' ≡ added ++ newly_live slot what
      → KeptSoFar before start known named slots (take i slots) (drop i slots) added old → KeptSoFar before start known named slots (take (i + 1) slots) (drop (i + 1) slots) added' new
  kept_at i slot added added' old new what lt slot_is is now more far =
      let next : drop i slots ≡ slot ∷ drop (i + 1) slots = drop_more slots i 0 lt ∙ ap (λ (s : ℕ). s ∷ drop (i + 1) slots) (sym slot_is) in
      subst (λ (l : List ℕ). KeptSoFar before start known named slots l (drop (i + 1) slots) added' new) (ap (λ (s : ℕ). take i slots ++ s ∷ []) slot_is ∙ sym (take_more slots i 0 lt))
      (next_kept slot (take i slots) (drop (i + 1) slots) added old new what is now (subst (λ (l : List ℕ). KeptSoFar before start known named slots (take i slots) l added old) next far) added' more)
