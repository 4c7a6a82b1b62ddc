-- What is read of the bytes of records, and what writes make of them.
use Rattle.pool_journal.proofs.Common.{◌≡◌, inl, inr, ℕ, zero, suc, ◌+◌, ◌-◌, ◌*◌, ◌≤◌, ◌<◌, ◌^◌, min, List, [], ◌∷◌, ◌++◌, length, take, drop, replicate, get_or, refl, sym, ◌∙◌, ap, subst, arith, append_assoc, length-append, take-append-drop, add-zero, Some, if◌then◌else◌, nat_lt, nat_le, from_be_bytes-to_be_bytes_4, w32, to_be_bytes, from_be_bytes, written, Torn, lt-ltb, ne_eqb, le-leb, drop_more, drop-drop, cases_eq, cases_lt, cond-true, lt-leb, Entry, entry_of, staged_record, header, Found, Reading, found, broken, behind, with_record, records, reading, spelled, AllSmall, Spell, Holds, with_one, IsBeforeOrAfter}
use Rattle.std.proofs.lemmas.List.{take_at, drop_at, append-nil}

-- the record at an open gate, its length known
abbrev pub AtRecord : ℕ → ℕ → ℕ → List ℕ → Reading
AtRecord n at size rest = if nat_lt (4 + size) (length rest) then with_record at (entry_of (take size (drop 4 rest))) (records n (at + 5 + size) (drop (4 + size) rest)) else broken [] at

-- records read before what is read behind them
abbrev pub all_behind : List Found → Reading → Reading
all_behind [] r = r
all_behind (f ∷ fs) r = behind f (all_behind fs r)

all_behind-found : (fs : List Found) → all_behind fs (found []) ≡ found fs
all_behind-found [] = refl
all_behind-found (f ∷ fs) = ap (behind f) (all_behind-found fs)

all_behind-broken : (fs : List Found) (at : ℕ) → all_behind fs (broken [] at) ≡ broken fs at
all_behind-broken [] at = refl
all_behind-broken (f ∷ fs) at = ap (behind f) (all_behind-broken fs at)

-- reading what was spelled, and then what stands behind it
pub read_on : (n at : ℕ) (bodies : List (List ℕ)) (fs : List Found) (rest : List ℕ) → Spell at bodies fs → AllSmall bodies → 0 < length rest → length bodies < n
    → (m : ℕ) × (records n at (spelled bodies ++ rest) ≡ all_behind fs (records (suc m) (at + length (spelled bodies)) rest))
read_on zero at bodies fs rest spell small some long = absurd (omega arith)
read_on (suc n) at [] [] rest spell small some long = (n, ap (λ (k : ℕ). records (suc n) k rest) (sym (add-zero at)))
read_on (suc n) at [] (f ∷ fs) rest spell small some long = absurd spell
read_on (suc n) at (b ∷ bodies) [] rest spell small some long = absurd spell
read_on (suc n) at (b ∷ bodies) (f ∷ fs) rest spell small some long =
    let behind_body : List ℕ = spelled bodies ++ rest in
    let after : List ℕ = to_be_bytes w32 (length b) ++ b ++ spelled bodies ++ rest in
    let size : from_be_bytes w32 (take 4 after) ≡ length b = from_be_bytes-to_be_bytes_4 (length b) small.0 in
    let split : drop 4 after ≡ b ++ behind_body = append_assoc b (spelled bodies) rest in
    let long_enough : 4 + length b < length after = omega (arith, length-append (b ++ spelled bodies) rest, length-append b (spelled bodies)) in
    let body : take (length b) (drop 4 after) ≡ b = ap (λ (l : List ℕ). take (length b) l) split ∙ take_at b behind_body (length b) refl in
    let next : drop (4 + length b) after ≡ behind_body = sym (drop-drop (length b) 4 after) ∙ rw split (drop_at b behind_body (length b) refl) in
    let more = read_on n (at + 5 + length b) bodies fs rest spell.2 small.1 some (omega arith) in
    let place : at + 5 + length b + length (spelled bodies) ≡ at + length (spelled (b ∷ bodies)) = omega (arith, length-append b (spelled bodies)) in
    let one : record { at = at; is = f.is } ≡ f = λ i. record { at = sym spell.0 i; is = f.is } in
    let here : AtRecord n at (length b) after ≡ all_behind (f ∷ fs) (records (suc more.0) (at + length (spelled (b ∷ bodies))) rest) =
    rw (lt-ltb (4 + length b) (length after) long_enough, body, next, spell.1, more.1, place) (ap (λ (g : Found). behind g (all_behind fs (records (suc more.0) (at + length (spelled (b ∷ bodies))) rest))) one) in
    (more.0, rw size here)

-- so many bytes for so many records at least
pub length_spelled : (bodies : List (List ℕ)) → 5 * length bodies ≤ length (spelled bodies)
length_spelled [] = omega arith
length_spelled (b ∷ bodies) = omega (arith, length_spelled bodies, length-append b (spelled bodies))

-- what is read of bytes that begin with records
pub reading_on : (bytes : List ℕ) (bodies : List (List ℕ)) (fs : List Found) (rest : List ℕ) → bytes ≡ header ++ spelled bodies ++ rest → Spell 16 bodies fs → AllSmall bodies → 0 < length rest → 17 < length bytes
    → (m : ℕ) × (reading bytes ≡ all_behind fs (records (suc m) (16 + length (spelled bodies)) rest))
reading_on bytes bodies fs rest is spell small some long =
    let body : List ℕ = spelled bodies ++ rest in
    let many = length_spelled bodies in
    let enough : length bodies < length (header ++ body) = omega (arith, length-append (spelled bodies) rest) in
    let read = read_on (length (header ++ body)) 16 bodies fs rest spell small some enough in
    (read.0, rw is (rw (lt-leb (length (header ++ body)) 17 (rw is at long)) read.1))

pub reads : (bytes : List ℕ) (fs : List Found) (end : ℕ) → Holds bytes fs end → reading bytes ≡ found fs
reads bytes fs end holds = elim (cases_lt 17 (length bytes)) [
  | inl more ↦
      let read = reading_on bytes holds.bodies fs (holds.gate ∷ holds.tail) holds.is holds.spell holds.small (omega arith) more in
      read.1 ∙ rw (ne_eqb holds.gate 165 holds.shut) (all_behind-found fs)
  | inr few ↦ cond-true (nat_le (length bytes) 17) (found []) _ (le-leb (length bytes) 17 few) ∙ ap found (none holds.bodies fs holds.spell (omega (arith, ap length holds.is, length_spelled holds.bodies, length-append (header ++ spelled holds.bodies) (holds.gate ∷ holds.tail))))
]
  where
    none : (bodies : List (List ℕ)) (gs : List Found) → Spell 16 bodies gs → length bodies ≤ 0 → [] ≡ gs
    none [] [] spell le = refl
    none [] (g ∷ gs) spell le = absurd spell
    none (b ∷ bodies) gs spell le = absurd (omega arith)

-- where the next record is broken
pub broken_at : (bytes : List ℕ) (bodies : List (List ℕ)) (fs : List Found) (rest : List ℕ) → bytes ≡ header ++ spelled bodies ++ rest → Spell 16 bodies fs → AllSmall bodies → 0 < length rest → 17 < length bytes
    → ((n at : ℕ) → records (suc n) at rest ≡ broken [] at) → reading bytes ≡ broken fs (length bytes - length rest)
broken_at bytes bodies fs rest is spell small some long none =
    let read = reading_on bytes bodies fs rest is spell small some long in
    let place : 16 + length (spelled bodies) ≡ length bytes - length rest = omega (arith, ap length is, length-append (header ++ spelled bodies) rest) in
    read.1 ∙ ap (all_behind fs) (none read.0 _) ∙ all_behind-broken fs (16 + length (spelled bodies)) ∙ ap (broken fs) place

-- a journal up to its closed gate
abbrev pub front : List (List ℕ) → List ℕ
front bodies = header ++ spelled bodies

pub length_staged : (body : List ℕ) → length (staged_record body) ≡ 5 + length body
length_staged body = omega (arith, length-append body (0 ∷ []))

-- a write that begins within the bytes
written_at : (p q bytes : List ℕ) (at : ℕ) → length p ≡ at → written (p ++ q) at bytes ≡ p ++ bytes ++ drop (length bytes) q
written_at p q bytes at is =
    let none : replicate (at - length (p ++ q)) 0 ≡ [] = ap (λ (k : ℕ). replicate k 0) (let z : at - length (p ++ q) ≡ 0 = omega (arith, length-append p q) in z) in
    let kept : drop (at + length bytes) (p ++ q) ≡ drop (length bytes) q = sym (drop-drop (length bytes) at (p ++ q)) ∙ ap (λ (l : List ℕ). drop (length bytes) l) (drop_at p q at is) in
    (λ i. take_at p q at is i ++ none i ++ bytes ++ kept i) ∙ ap (λ (l : List ℕ). l ++ bytes ++ drop (length bytes) q) (append-nil p)

-- a torn write that begins within the bytes keeps what stands before it
torn_at : (p q c : List ℕ) (at n : ℕ) → length p ≡ at → Torn at n (p ++ q) c → c ≡ p ++ drop at c
torn_at p q c at n is torn =
    let within : min at (length (p ++ q)) ≡ at = omega (arith, length-append p q) in
    let kept : take at c ≡ p = sym (ap (λ (k : ℕ). take k c) within) ∙ torn.before ∙ take_at p q at is in
    sym (take-append-drop at c) ∙ ap (λ (l : List ℕ). l ++ drop at c) kept

pub spelled-one : (bodies : List (List ℕ)) (body : List ℕ) (rest : List ℕ) → spelled (bodies ++ body ∷ []) ++ rest ≡ spelled bodies ++ 165 ∷ (to_be_bytes w32 (length body) ++ body ++ rest)
spelled-one [] body rest = ap (λ (l : List ℕ). 165 ∷ to_be_bytes w32 (length body) ++ l) (ap (λ (l : List ℕ). l ++ rest) (append-nil body))
spelled-one (x ∷ bodies) body rest =
    rw (append_assoc x (spelled (bodies ++ body ∷ [])) rest, spelled-one bodies body rest, append_assoc x (spelled bodies) (165 ∷ (to_be_bytes w32 (length body) ++ body ++ rest))) refl

-- the same with the next gate closed
spelled-push : (bodies : List (List ℕ)) (body : List ℕ) (rest : List ℕ) → spelled (bodies ++ body ∷ []) ++ 0 ∷ rest ≡ spelled bodies ++ 165 ∷ (staged_record body ++ rest)
spelled-push bodies body rest =
    spelled-one bodies body (0 ∷ rest) ∙ ap (λ (l : List ℕ). spelled bodies ++ 165 ∷ (to_be_bytes w32 (length body) ++ l)) (sym (append_assoc body (0 ∷ []) rest))

pub AllSmall-push : (bodies : List (List ℕ)) (body : List ℕ) → AllSmall bodies → length body < 2 ^ 32 → AllSmall (bodies ++ body ∷ [])
AllSmall-push [] body small fits = (fits, tt)
AllSmall-push (x ∷ bodies) body small fits = (small.0, AllSmall-push bodies body small.1 fits)

pub Spell-push : (at : ℕ) (bodies : List (List ℕ)) (fs : List Found) (body : List ℕ) (f : Found) → Spell at bodies fs → f.at ≡ at + length (spelled bodies) → entry_of body ≡ Some f.is → Spell at (bodies ++ body ∷ []) (fs ++ f ∷ [])
Spell-push at [] [] body f spell at_is is = (at_is ∙ add-zero at, is, tt)
Spell-push at [] (g ∷ fs) body f spell at_is is = absurd spell
Spell-push at (b ∷ bodies) [] body f spell at_is is = absurd spell
Spell-push at (b ∷ bodies) (g ∷ fs) body f spell at_is is =
    let place : f.at ≡ at + 5 + length b + length (spelled bodies) = omega (arith, at_is, length-append b (spelled bodies)) in
    (spell.0, spell.1, Spell-push (at + 5 + length b) bodies fs body f spell.2 place is)

length-spelled-push : (bodies : List (List ℕ)) (body : List ℕ) → length (spelled (bodies ++ body ∷ [])) ≡ length (spelled bodies) + 5 + length body
length-spelled-push bodies body =
    omega (arith, ap length (spelled-push bodies body []), length-append (spelled (bodies ++ body ∷ [])) (0 ∷ []), length-append (spelled bodies) (165 ∷ (staged_record body ++ [])), length-append (staged_record body) [], length_staged body)

module _ (fs : List Found) (end : ℕ) (o : List ℕ) (holds : Holds o fs end) where
  length_front : length (front holds.bodies) ≡ end
  length_front = omega (arith, holds.end_is)

  -- the closed gate stands in each outcome of a write behind it
  pub torn_behind : (n : ℕ) (c : List ℕ) → Torn (end + 1) n o c → Holds c fs end
  torn_behind n c torn =
      let p : List ℕ = front holds.bodies ++ holds.gate ∷ [] in
      let whole : o ≡ p ++ holds.tail = holds.is ∙ sym (append_assoc (front holds.bodies) (holds.gate ∷ []) holds.tail) in
      let long : length p ≡ end + 1 = omega (arith, length_front, length-append (front holds.bodies) (holds.gate ∷ [])) in
      let kept = torn_at p holds.tail c (end + 1) n long (subst (λ (l : List ℕ). Torn (end + 1) n l c) whole torn) in
      record {
        bodies = holds.bodies;
        gate = holds.gate;
        tail = drop (end + 1) c;
        shut = holds.shut;
        is = kept ∙ append_assoc (front holds.bodies) (holds.gate ∷ []) (drop (end + 1) c);
        small = holds.small;
        spell = holds.spell;
        end_is = holds.end_is;
      }

  -- the record behind the closed gate
  pub staged : (body c : List ℕ) → c ≡ written o (end + 1) (staged_record body) → c ≡ front holds.bodies ++ holds.gate ∷ (staged_record body ++ drop (length (staged_record body)) holds.tail)
  staged body c is =
      let p : List ℕ = front holds.bodies ++ holds.gate ∷ [] in
      let whole : o ≡ p ++ holds.tail = holds.is ∙ sym (append_assoc (front holds.bodies) (holds.gate ∷ []) holds.tail) in
      let long : length p ≡ end + 1 = omega (arith, length_front, length-append (front holds.bodies) (holds.gate ∷ [])) in
      let rest : List ℕ = drop (length (staged_record body)) holds.tail in
      is ∙ ap (λ (l : List ℕ). written l (end + 1) (staged_record body)) whole ∙ written_at p holds.tail (staged_record body) (end + 1) long
      ∙ append_assoc p (staged_record body) rest ∙ append_assoc (front holds.bodies) (holds.gate ∷ []) (staged_record body ++ rest)

  module _ (body : List ℕ) (e : Entry) (fits : length body < 2 ^ 32) (spells : entry_of body ≡ Some e) where
    pub opened : (rest : List ℕ) → Holds (front holds.bodies ++ 165 ∷ (staged_record body ++ rest)) (with_one fs end e) (end + 5 + length body)
    opened rest = record {
      bodies = holds.bodies ++ body ∷ [];
      gate = 0;
      tail = rest;
      shut = λ z. absurd (cc z);
      is = ap (λ (l : List ℕ). header ++ l) (sym (spelled-push holds.bodies body rest));
      small = AllSmall-push holds.bodies body holds.small fits;
      spell = Spell-push 16 holds.bodies fs body (record { at = end; is = e }) holds.spell holds.end_is spells;
      end_is = omega (arith, holds.end_is, length-spelled-push holds.bodies body);
    }

    -- behind any gate it counts or it doesn't
    gate_counts : (rest : List ℕ) (g : ℕ) → IsBeforeOrAfter fs end e (front holds.bodies ++ g ∷ (staged_record body ++ rest))
    gate_counts rest g = elim (cases_eq g 165) [
      | inl open_gate ↦ inr (ap (λ (k : ℕ). reading (front holds.bodies ++ k ∷ (staged_record body ++ rest))) open_gate ∙ reads _ (with_one fs end e) _ (opened rest))
      | inr shut ↦
          inl (reads (front holds.bodies ++ g ∷ (staged_record body ++ rest)) fs end
          (record { bodies = holds.bodies; gate = g; tail = staged_record body ++ rest; shut = shut; is = refl; small = holds.small; spell = holds.spell; end_is = holds.end_is }))
    ]

    pub torn_gate : (rest c : List ℕ) (g : ℕ) → Torn end 1 (front holds.bodies ++ g ∷ (staged_record body ++ rest)) c → IsBeforeOrAfter fs end e c
    torn_gate rest c g torn =
        let more : List ℕ = staged_record body ++ rest in
        let kept = torn_at (front holds.bodies) (g ∷ more) c end 1 length_front torn in
        let long : end < length c = omega (arith, torn.no_shorter, length_front, length-append (front holds.bodies) (g ∷ more)) in
        let after : drop (end + 1) c ≡ more = torn.after ∙ sym (drop-drop 1 end (front holds.bodies ++ g ∷ more)) ∙ ap (λ (l : List ℕ). drop 1 l) (drop_at (front holds.bodies) (g ∷ more) end length_front) in
        let now : ℕ = get_or c end 0 in
        let whole : c ≡ front holds.bodies ++ now ∷ more = kept ∙ ap (λ (l : List ℕ). front holds.bodies ++ l) (drop_more c end 0 long ∙ ap (λ (l : List ℕ). now ∷ l) after) in
        subst (λ (l : List ℕ). IsBeforeOrAfter fs end e l) (sym whole) (gate_counts rest now)

    pub gate_opened : (rest c : List ℕ) (g : ℕ) → c ≡ written (front holds.bodies ++ g ∷ (staged_record body ++ rest)) end (165 ∷ []) → Holds c (with_one fs end e) (end + 5 + length body)
    gate_opened rest c g is =
        let more : List ℕ = staged_record body ++ rest in
        let done : c ≡ front holds.bodies ++ 165 ∷ more = is ∙ written_at (front holds.bodies) (g ∷ more) (165 ∷ []) end length_front ∙ append_assoc (front holds.bodies) (165 ∷ []) more in
        subst (λ (l : List ℕ). Holds l (with_one fs end e) (end + 5 + length body)) (sym done) (opened rest)
