-- What a change of one slot, and free slots more, change of a pool.
use Rattle.std.proofs.Common.{◌≡◌, ℕ, ◌+◌, ◌-◌, ◌^◌, ◌<◌, ◌≤◌, ⊎_elim, List, ◌++◌, length, replicate, set, Some, None, refl, sym, ◌∙◌, ap, subst, arith, length-append}
use Rattle.std.specs.Prelude.{Option, cond, is_some, if◌then◌else◌, nat_le}
use Rattle.std.specs.List.{count_by}
use Rattle.std.proofs.lemmas.Bool.{cases_eq, cases_lt}
use Rattle.std.proofs.lemmas.Bool.Decides.{nat_tests}
use Rattle.std.proofs.lemmas.List.{length-set, length-replicate, get_or_past}
use Rattle.std.proofs.lemmas.List.Folds.{sum_by-replicate}
use Rattle.std.proofs.lemmas.List.Sums.{sum_by-set, sum_by-append, count_by-le-length}
use Rattle.segment_pool.specs.declared.slot.Slot.{Slot}
use Rattle.segment_pool.specs.Slots.{PoolState, at_slot, number_held, one_if_held, Becomes, IsAsBefore, while_held, AreSound, IsLowestFree}
use Rattle.segment_pool.proofs.Links.{at-set_same, at-set_other, at-grown}

pub count_set : (t : List (Option Slot)) (s : ℕ) (x : Option Slot) → s < length t → count_by is_some (set t s x) + one_if_held (at_slot t s) ≡ count_by is_some t + one_if_held x
count_set t s x within = sum_by-set (λ (o : Option Slot). cond (is_some o) 1 0) t s x None within

pub count_grown : (t : List (Option Slot)) (n : ℕ) → count_by is_some (t ++ replicate n None) ≡ count_by is_some t
count_grown t n =
    omega (arith, sum_by-append (λ (o : Option Slot). cond (is_some o) 1 0) t (replicate n None), sum_by-replicate (λ (o : Option Slot). cond (is_some o) 1 0) n None)

spare_all : (slots len free : ℕ) → slots ≤ len → (if nat_le slots len then 2 ^ 32 else free) ≡ 2 ^ 32
spare_all slots len free le = grind (arith, nat_tests)

spare_free : (slots len free : ℕ) → len < slots → (if nat_le slots len then 2 ^ 32 else free) ≡ free
spare_free slots len free lt = grind (arith, nat_tests)

-- a longer table has no less room
beside_longer : (slots a b n : ℕ) → slots ≤ 16777216 → a ≤ b → (if nat_le slots a then 2 ^ 32 else a - n) ≤ (if nat_le slots b then 2 ^ 32 else b - n)
beside_longer slots a b n few le = ⊎_elim
    (λ lt. ⊎_elim
    (λ lt'. omega (arith, le, spare_free slots a (a - n) lt, spare_free slots b (b - n) lt'))
    (λ le'. omega (arith, few, lt, spare_free slots a (a - n) lt, spare_all slots b (b - n) le'))
    (cases_lt b slots))
    (λ le'. omega (arith, spare_all slots a (a - n) le', spare_all slots b (b - n) (omega (arith, le, le'))))
    (cases_lt a slots)

-- the table has another entry at one slot
pub set_becomes : (p : PoolState) (s : ℕ) (x : Option Slot) → s < length p.table → Becomes p (record { file = p.file; size = p.size; slots = p.slots; table = set p.table s x }) s x
set_becomes p s x within =
    let q : PoolState = record { file = p.file; size = p.size; slots = p.slots; table = set p.table s x } in
    let count = count_set p.table s x within in
    let long : length (set p.table s x) ≡ length p.table = length-set p.table s x in
    record {
      file = refl;
      size = refl;
      slots = refl;
      here = at-set_same p.table s x within;
      elsewhere = λ t ne. at-set_other p.table s t x ne;
      number = count;
      room = ⊎_elim
          (λ lt. omega (arith, lt, long, count, spare_free p.slots (length p.table) (length p.table - number_held p) lt, spare_free p.slots (length (set p.table s x)) (length (set p.table s x) - count_by is_some (set p.table s x)) (omega (arith, lt, long)), count_by-le-length is_some p.table, count_by-le-length is_some (set p.table s x)))
          (λ le. omega (arith, le, long, spare_all p.slots (length p.table) (length p.table - number_held p) le, spare_all p.slots (length (set p.table s x)) (length (set p.table s x) - count_by is_some (set p.table s x)) (omega (arith, le, long))))
          (cases_lt (length p.table) p.slots);
      beside = λ n. omega (arith, ap (λ (k : ℕ). if nat_le p.slots k then 2 ^ 32 else k - n) long);
    }

-- the table has free slots more
pub grown_as_before : (p : PoolState) (n : ℕ) → p.slots ≤ 16777216 → IsAsBefore p (record { file = p.file; size = p.size; slots = p.slots; table = p.table ++ replicate n None })
grown_as_before p n few =
    let long : length (p.table ++ replicate n None) ≡ length p.table + n = length-append p.table (replicate n None) ∙ ap (λ (k : ℕ). length p.table + k) (length-replicate {A = Option Slot} n None) in
    let count = count_grown p.table n in
    record {
      file = refl;
      size = refl;
      slots = refl;
      same = λ s. at-grown p.table n s;
      number = count;
      room = ⊎_elim
          (λ lt. ⊎_elim
          (λ lt'. omega (arith, long, count, lt, lt', spare_free p.slots (length p.table) (length p.table - number_held p) lt, spare_free p.slots (length (p.table ++ replicate n None)) (length (p.table ++ replicate n None) - count_by is_some (p.table ++ replicate n None)) lt'))
          (λ le'. omega (arith, few, lt, le', spare_free p.slots (length p.table) (length p.table - number_held p) lt, spare_all p.slots (length (p.table ++ replicate n None)) (length (p.table ++ replicate n None) - count_by is_some (p.table ++ replicate n None)) le'))
          (cases_lt (length (p.table ++ replicate n None)) p.slots))
          (λ le. omega (arith, le, long, spare_all p.slots (length p.table) (length p.table - number_held p) le, spare_all p.slots (length (p.table ++ replicate n None)) (length (p.table ++ replicate n None) - count_by is_some (p.table ++ replicate n None)) (omega (arith, le, long))))
          (cases_lt (length p.table) p.slots);
      beside = λ k. beside_longer p.slots (length p.table) (length (p.table ++ replicate n None)) k few (omega (arith, long));
    }

pub as_before_self : (p : PoolState) → IsAsBefore p p
as_before_self p = record { file = refl; size = refl; slots = refl; same = λ s. refl; number = refl; room = omega arith; beside = λ n. omega arith }

pub sound_set : (size : ℕ) (t : List (Option Slot)) (s : ℕ) (w : Slot) → s < length t → 1 ≤ w.length → w.length ≤ size → while_held w ≡ Some w → AreSound size t → AreSound size (set t s (Some w))
sound_set size t s w within some short kept sound u x is =
    ⊎_elim
    (λ same.
    let equal : w ≡ x = cc (at-set_same t s (Some w) within, ap (λ (k : ℕ). at_slot (set t s (Some w)) k) same, is) in
    subst (λ (y : Slot). (1 ≤ y.length) × (y.length ≤ size) × (while_held y ≡ Some y)) equal (some, short, kept))
    (λ ne. sound u x (sym (at-set_other t s u (Some w) ne) ∙ is)) (cases_eq u s)

pub sound_freed : (size : ℕ) (t : List (Option Slot)) (s : ℕ) → s < length t → AreSound size t → AreSound size (set t s None)
sound_freed size t s within sound u x is =
    ⊎_elim
    (λ same. absurd (let none : at_slot (set t s None) u ≡ None = ap (λ (k : ℕ). at_slot (set t s None) k) same ∙ at-set_same t s None within in cc (none, is)))
    (λ ne. sound u x (sym (at-set_other t s u None ne) ∙ is)) (cases_eq u s)

pub sound_grown : (size : ℕ) (t : List (Option Slot)) (n : ℕ) → AreSound size t → AreSound size (t ++ replicate n None)
sound_grown size t n sound u x is = sound u x (sym (at-grown t n u) ∙ is)

pub within_held : (t : List (Option Slot)) (s : ℕ) (x : Slot) → at_slot t s ≡ Some x → s < length t
within_held t s x is = ⊎_elim (λ within. within) (λ past. absurd (let none : at_slot t s ≡ None = get_or_past t s None past in cc (none, is))) (cases_lt s (length t))

-- the same of a pool whose table was changed at a slot
pub table_becomes : (file size slots : ℕ) (t u : List (Option Slot)) (old : PoolState) (s : ℕ) (x : Option Slot) → s < length t → record { file = file; size = size; slots = slots; table = t } ≡ old → u ≡ set t s x → Becomes old (record { file = file; size = size; slots = slots; table = u }) s x
table_becomes file size slots t u old s x within view is =
    subst (λ (p : PoolState). Becomes p (record { file = file; size = size; slots = slots; table = u }) s x) view
    (subst (λ (l : List (Option Slot)). Becomes (record { file = file; size = size; slots = slots; table = t }) (record { file = file; size = size; slots = slots; table = l }) s x) (sym is)
    (set_becomes (record { file = file; size = size; slots = slots; table = t }) s x within))

-- and of one whose table got free slots
pub table_grown : (file size slots n : ℕ) (t u : List (Option Slot)) (old : PoolState) → slots ≤ 16777216 → record { file = file; size = size; slots = slots; table = t } ≡ old → u ≡ t ++ replicate n None → IsAsBefore old (record { file = file; size = size; slots = slots; table = u })
table_grown file size slots n t u old few view is =
    subst (λ (p : PoolState). IsAsBefore p (record { file = file; size = size; slots = slots; table = u })) view
    (subst (λ (l : List (Option Slot)). IsAsBefore (record { file = file; size = size; slots = slots; table = t }) (record { file = file; size = size; slots = slots; table = l })) (sym is)
    (grown_as_before (record { file = file; size = size; slots = slots; table = t }) n few))

pub table_same : (file size slots : ℕ) (t u : List (Option Slot)) (old : PoolState) → record { file = file; size = size; slots = slots; table = t } ≡ old → u ≡ t → IsAsBefore old (record { file = file; size = size; slots = slots; table = u })
table_same file size slots t u old view is =
    subst (λ (p : PoolState). IsAsBefore p (record { file = file; size = size; slots = slots; table = u })) view
    (subst (λ (l : List (Option Slot)). IsAsBefore (record { file = file; size = size; slots = slots; table = t }) (record { file = file; size = size; slots = slots; table = l })) (sym is)
    (as_before_self (record { file = file; size = size; slots = slots; table = t })))

-- the lowest free slot was so before free slots came
pub lowest_before : (p q : PoolState) (s : ℕ) → IsAsBefore p q → IsLowestFree q s → IsLowestFree p s
lowest_before p q s before low = record {
  free = sym (before.same s) ∙ low.free;
  lowest = λ t lt. ap is_some (sym (before.same t)) ∙ low.lowest t lt;
}

-- a slot was changed after free slots came
pub becomes_after : (p q r : PoolState) (s : ℕ) (x : Option Slot) → IsAsBefore p q → Becomes q r s x → Becomes p r s x
becomes_after p q r s x before now =
    let one = ap one_if_held (before.same s) in
    record {
      file = now.file ∙ before.file;
      size = now.size ∙ before.size;
      slots = now.slots ∙ before.slots;
      here = now.here;
      elsewhere = λ t ne. now.elsewhere t ne ∙ before.same t;
      number = omega (arith, now.number, before.number, one);
      room = omega (arith, now.room, before.room, one);
      beside = λ n. omega (arith, now.beside n, before.beside n);
    }
