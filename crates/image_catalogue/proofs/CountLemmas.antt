-- The bytes on each unit.
use Rattle.image_catalogue.proofs.Common.{◌≡◌, ◌<◌, ◌≤◌, ◌+◌, ◌-◌, ℕ, zero, suc, List, [], ◌∷◌, ◌++◌, length, get_or, set, take, add-one, Bool, true, false, cond, Option, Some, refl, sym, ◌∙◌, ap, subst, arith, bytes_eq, SomeIff, bytes_on, CopyRecord, recorded, NoneBefore, IsFirst, UnitBytes}
use Rattle.std.proofs.lemmas.List.{get_or_default}
use Rattle.std.proofs.lemmas.Bool.{false≢true}
use Rattle.std.proofs.lemmas.Slice.Eq.{bytes_eq-Decides}

same_unit : (a b : List ℕ) → bytes_eq a b ≡ true → a ≡ b
same_unit a b same = (bytes_eq-Decides a b).0 same

-- What is recorded.

pub none_recorded : (es : List UnitBytes) (unit : List ℕ) → NoneBefore es unit (length es) → recorded unit es ≡ 0
none_recorded [] unit none = refl
none_recorded (e ∷ es) unit none =
    (λ j. cond (none 0 e (omega arith) (omega arith) j) e.bytes (recorded unit es))
    ∙ none_recorded es unit (λ k d low high. none (suc k) d (omega arith) (omega arith))

pub first_recorded : (es : List UnitBytes) (unit : List ℕ) (i : ℕ) (d : UnitBytes) → IsFirst es unit i → recorded unit es ≡ (get_or es i d).bytes
first_recorded [] unit i d (lt, here, none) = absurd (omega arith)
first_recorded (e ∷ es) unit zero d (lt, here, none) = λ j. cond (here d j) e.bytes (recorded unit es)
first_recorded (e ∷ es) unit (suc i) d (lt, here, none) =
    (λ j. cond (none 0 e (omega arith) (omega arith) j) e.bytes (recorded unit es))
    ∙ first_recorded es unit i d (omega arith, here, (λ k x low high. none (suc k) x (omega arith) (omega arith)))

-- An entry's bytes change: n more, after m less.

at_first : (b : Bool) (before after m n rest : ℕ) → after + m ≡ before + n → cond b m 0 + cond b after rest ≡ cond b n 0 + cond b before rest
at_first true before after m n rest moved = omega arith
at_first false before after m n rest moved = refl

behind : (p q : Bool) (m n bytes before after : ℕ) → (p ≡ true → q ≡ true → ⊥) → cond q m 0 + after ≡ cond q n 0 + before → cond q m 0 + cond p bytes after ≡ cond q n 0 + cond p bytes before
behind true true m n bytes before after apart moved = absurd (apart refl refl)
behind true false m n bytes before after apart moved = refl
behind false q m n bytes before after apart moved = moved

pub moved : (es : List UnitBytes) (unit : List ℕ) (i : ℕ) (old new : UnitBytes) (m n : ℕ) → IsFirst es unit i → old ≡ get_or es i old → new.unit ≡ old.unit → new.bytes + m ≡ old.bytes + n → (other : List ℕ) → cond (bytes_eq unit other) m 0 + recorded other (set es i new) ≡ cond (bytes_eq unit other) n 0 + recorded other es
moved [] unit i old new m n (lt, here, none) is unchanged bytes other = absurd (omega arith)
moved (e ∷ es) unit zero old new m n (lt, here, none) is unchanged bytes other =
    let old_unit : e.unit ≡ unit = same_unit e.unit unit (here e) in
    let new_unit : new.unit ≡ unit = unchanged ∙ ap (λ (x : UnitBytes). x.unit) is ∙ old_unit in
    (λ j. cond (bytes_eq unit other) m 0 + cond (bytes_eq (new_unit j) other) new.bytes (recorded other es))
    ∙ at_first (bytes_eq unit other) e.bytes new.bytes m n (recorded other es) (bytes ∙ ap (λ (x : UnitBytes). x.bytes + n) is)
    ∙ sym (λ j. cond (bytes_eq unit other) n 0 + cond (bytes_eq (old_unit j) other) e.bytes (recorded other es))
moved (e ∷ es) unit (suc i) old new m n (lt, here, none) is unchanged bytes other =
    behind (bytes_eq e.unit other) (bytes_eq unit other) m n e.bytes (recorded other es) (recorded other (set es i new))
    (λ left right. false≢true (sym (none 0 e (omega arith) (omega arith)) ∙ (bytes_eq-Decides e.unit unit).1 (same_unit e.unit other left ∙ sym (same_unit unit other right))))
    (moved es unit i old new m n (omega arith, here, (λ k x low high. none (suc k) x (omega arith) (omega arith))) is unchanged bytes other)

nothing : (b : Bool) → cond {A = ℕ} b 0 0 ≡ 0
nothing true = refl
nothing false = refl

pub raised : (es : List UnitBytes) (unit : List ℕ) (i : ℕ) (old new : UnitBytes) (size : ℕ) → IsFirst es unit i → old ≡ get_or es i old → new.unit ≡ old.unit → new.bytes ≡ old.bytes + size → (other : List ℕ) → recorded other (set es i new) ≡ cond (bytes_eq unit other) size 0 + recorded other es
raised es unit i old new size first is unchanged bytes other =
    omega (arith, moved es unit i old new 0 size first is unchanged (omega arith) other, nothing (bytes_eq unit other))

pub lowered_at : (es : List UnitBytes) (unit : List ℕ) (i : ℕ) (d : UnitBytes) (size : ℕ) → IsFirst es unit i → size ≤ (get_or es i d).bytes → (other : List ℕ) → cond (bytes_eq unit other) size 0 + recorded other (set es i (record { unit = (get_or es i d).unit; bytes = (get_or es i d).bytes - size })) ≡ recorded other es
lowered_at es unit i d size first below other =
    omega (
      arith,
      moved es unit i (get_or es i d) (record { unit = (get_or es i d).unit; bytes = (get_or es i d).bytes - size }) size 0 first
          (get_or_default es i d (get_or es i d) first.0) refl (omega arith) other,
      nothing (bytes_eq unit other),
    )

-- Of a unit that has no entry, and no bytes, none are taken.
pub lowered_none : (es : List UnitBytes) (unit : List ℕ) (size : ℕ) → NoneBefore es unit (length es) → size ≤ recorded unit es → (other : List ℕ) → cond (bytes_eq unit other) size 0 + recorded other es ≡ recorded other es
lowered_none es unit size none below other =
    let empty : size ≡ 0 = omega (arith, none_recorded es unit none) in
    ap (λ (n : ℕ). cond (bytes_eq unit other) n 0 + recorded other es) empty ∙ omega (arith, nothing (bytes_eq unit other))

pub pushed : (es : List UnitBytes) (new : UnitBytes) → NoneBefore es new.unit (length es) → (other : List ℕ) → recorded other (es ++ new ∷ []) ≡ cond (bytes_eq new.unit other) new.bytes 0 + recorded other es
pushed [] new none other = omega arith
pushed (e ∷ es) new none other =
    omega (
      arith,
      behind (bytes_eq e.unit other) (bytes_eq new.unit other) 0 new.bytes e.bytes (recorded other es) (recorded other (es ++ new ∷ []))
          (λ left right. false≢true (sym (none 0 e (omega arith) (omega arith)) ∙ (bytes_eq-Decides e.unit new.unit).1 (same_unit e.unit other left ∙ sym (same_unit new.unit other right))))
          (omega (arith, pushed es new (λ k x low high. none (suc k) x (omega arith) (omega arith)) other, nothing (bytes_eq new.unit other))),
      nothing (bytes_eq new.unit other),
    )

-- The same of entries that are read through something.

pub sum_of : (o : Option ℕ) (P : Type 0) (sum x : ℕ) → SomeIff o P sum → o ≡ Some x → x ≡ sum
sum_of o P sum x made is = (subst (λ (p : Option ℕ). SomeIff p P sum) is made).1

pub first_as : (es seen : List UnitBytes) (unit : List ℕ) (i : ℕ) → seen ≡ es → IsFirst seen unit i → IsFirst es unit i
first_as es seen unit i listed first = subst (λ (xs : List UnitBytes). IsFirst xs unit i) listed first

pub pushed_as : (es seen after : List UnitBytes) (unit copy : List ℕ) (size : ℕ) → seen ≡ es → NoneBefore seen unit (length seen) → copy ≡ unit → after ≡ es ++ record { unit = copy; bytes = size } ∷ [] → (other : List ℕ) → recorded other after ≡ cond (bytes_eq unit other) size 0 + recorded other es
pushed_as es seen after unit copy size listed none same made other =
    let of_copy : NoneBefore es copy (length es) = subst (λ (xs : List UnitBytes). NoneBefore xs copy (length xs)) listed (subst (λ (u : List ℕ). NoneBefore seen u (length seen)) (sym same) none) in
    ap (recorded other) made
    ∙ pushed es (record { unit = copy; bytes = size }) of_copy other
    ∙ ap (λ (u : List ℕ). cond (bytes_eq u other) size 0 + recorded other es) same

-- The copies of an image, one after another.

pub front_on : (unit : List ℕ) (size : ℕ) (cs : List CopyRecord) (i : ℕ) (d : CopyRecord) → i < length cs → bytes_on unit size (take (suc i) cs) ≡ bytes_on unit size (take i cs) + cond (bytes_eq (get_or cs i d).unit unit) size 0
front_on unit size [] i d lt = absurd (omega arith)
front_on unit size (c ∷ cs) zero d lt = omega arith
front_on unit size (c ∷ cs) (suc i) d lt = omega (arith, front_on unit size cs i d (omega arith))

pub front_le : (unit : List ℕ) (size : ℕ) (cs : List CopyRecord) (i : ℕ) → bytes_on unit size (take i cs) ≤ bytes_on unit size cs
front_le unit size [] zero = omega arith
front_le unit size [] (suc i) = omega arith
front_le unit size (c ∷ cs) zero = omega arith
front_le unit size (c ∷ cs) (suc i) = omega (arith, front_le unit size cs i)

-- a copy of a list that is read through something
copy_as : (cs seen : List CopyRecord) (i : ℕ) (c : CopyRecord) → seen ≡ cs → i < length seen → c ≡ get_or seen i c → (i < length cs) × (c ≡ get_or cs i c)
copy_as cs seen i c listed lt is = subst (λ (xs : List CopyRecord). (i < length xs) × (c ≡ get_or xs i c)) listed (lt, is)

-- In the middle of a count, a copy's size more.
pub one_more : (unit : List ℕ) (size : ℕ) (cs seen : List CopyRecord) (i : ℕ) (c : CopyRecord) (before after base : ℕ) → seen ≡ cs → i < length seen → c ≡ get_or seen i c → before ≡ bytes_on unit size (take i cs) + base → after ≡ cond (bytes_eq c.unit unit) size 0 + before → after ≡ bytes_on unit size (take (i + 1) cs) + base
one_more unit size cs seen i c before after base listed lt is so_far more =
    let (inside, here) = copy_as cs seen i c listed lt is in
    rw add-one (omega (arith, front_on unit size cs i c inside, ap (λ (x : CopyRecord). cond (bytes_eq x.unit unit) size 0) here))

pub one_less : (unit : List ℕ) (size : ℕ) (cs seen : List CopyRecord) (i : ℕ) (c : CopyRecord) (before after whole : ℕ) → seen ≡ cs → i < length seen → c ≡ get_or seen i c → bytes_on unit size (take i cs) + before ≡ whole → cond (bytes_eq c.unit unit) size 0 + after ≡ before → bytes_on unit size (take (i + 1) cs) + after ≡ whole
one_less unit size cs seen i c before after whole listed lt is so_far less =
    let (inside, here) = copy_as cs seen i c listed lt is in
    rw add-one (omega (arith, front_on unit size cs i c inside, ap (λ (x : CopyRecord). cond (bytes_eq x.unit unit) size 0) here))

-- What is left is enough for the next copy.
pub enough : (size : ℕ) (cs seen : List CopyRecord) (i : ℕ) (c : CopyRecord) (left whole : ℕ) → seen ≡ cs → i < length seen → c ≡ get_or seen i c → bytes_on c.unit size (take i cs) + left ≡ whole → bytes_on c.unit size cs ≤ whole → size ≤ left
enough size cs seen i c left whole listed lt is so_far all =
    let (inside, here) = copy_as cs seen i c listed lt is in
    let itself : bytes_eq (get_or cs i c).unit c.unit ≡ true = (bytes_eq-Decides (get_or cs i c).unit c.unit).1 (ap (λ (x : CopyRecord). x.unit) (sym here)) in
    omega (arith, front_on c.unit size cs i c inside, front_le c.unit size cs (suc i), ap (λ (b : Bool). cond b size 0) itself)
