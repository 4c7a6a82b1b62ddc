-- Reading a journal's records one by one.
use Rattle.pool_journal.proofs.Common.{◌≡◌, ◌≢◌, ℕ, suc, ◌+◌, ◌-◌, ◌<◌, ◌^◌, List, [], ◌∷◌, ◌++◌, length, take, drop, get_or, true, refl, sym, ◌∙◌, ap, arith, length-append, Some, None, nat_eq, nat_lt, starts_with, Decides-eqb, from_be_bytes-to_be_bytes_4, w32, to_be_bytes, from_be_bytes, take_all, map-append, cond_both, entry_of, header, Found, broken, records, reading, placed, placed_of, spelled, AllSmall, Spell, Holds, IsToldOf, Placed}
use Rattle.std.proofs.lemmas.List.{take_at}
use Rattle.std.proofs.lemmas.Slice.Eq.{starts_is}
use Rattle.pool_journal.proofs.Bytes.{AtRecord, reads, broken_at, spelled-one, Spell-push}

pub cons_of : (rest : List ℕ) (g : ℕ) → 0 < length rest → get_or rest 0 0 ≡ g → rest ≡ g ∷ take (length rest - 1) (drop 1 rest)
cons_of [] g long is = absurd (omega arith)
cons_of (x ∷ xs) g long is = λ i. is i ∷ sym (take_all (length (x ∷ xs) - 1) xs (omega arith)) i

-- at a closed gate all records are read
pub told_found : (bytes : List ℕ) (bodies : List (List ℕ)) (fs : List Found) (rest : List ℕ) (entries : List Placed) → bytes ≡ header ++ spelled bodies ++ rest → Spell 16 bodies fs → AllSmall bodies → entries ≡ placed fs → 0 < length rest → get_or rest 0 0 ≢ 165
    → IsToldOf bytes (reading bytes) entries (length bytes - length rest) None
told_found bytes bodies fs rest entries is spell small entries_are some shut =
    let holds : Holds bytes fs (length bytes - length rest) = record {
      bodies = bodies;
      gate = get_or rest 0 0;
      tail = take (length rest - 1) (drop 1 rest);
      shut = shut;
      is = is ∙ ap (λ (l : List ℕ). header ++ spelled bodies ++ l) (cons_of rest (get_or rest 0 0) some refl);
      small = small;
      spell = spell;
      end_is = omega (arith, ap length is, length-append (header ++ spelled bodies) rest);
    } in
    rw (reads bytes fs _ holds) (entries_are, holds)

-- at a broken record those before it are read
pub told_broken : (bytes : List ℕ) (bodies : List (List ℕ)) (fs : List Found) (rest : List ℕ) (entries : List Placed) → bytes ≡ header ++ spelled bodies ++ rest → Spell 16 bodies fs → AllSmall bodies → entries ≡ placed fs → 0 < length rest → 17 < length bytes
    → ((n at : ℕ) → records (suc n) at rest ≡ broken [] at) → IsToldOf bytes (reading bytes) entries (length bytes - length rest) (Some (length bytes - length rest))
told_broken bytes bodies fs rest entries is spell small entries_are some long none =
    rw (broken_at bytes bodies fs rest is spell small some long none) (entries_are, refl)

-- a record at an open gate that isn't all there
pub cut_short : (rest : List ℕ) → 0 < length rest → get_or rest 0 0 ≡ 165 → ((n at : ℕ) → records (suc n) at (165 ∷ take (length rest - 1) (drop 1 rest)) ≡ broken [] at) → (n at : ℕ) → records (suc n) at rest ≡ broken [] at
cut_short rest some open_gate none n at = ap (λ (l : List ℕ). records (suc n) at l) (cons_of rest 165 some open_gate) ∙ none n at

-- a record at an open gate whose body spells none
none_of : (n at size : ℕ) (after : List ℕ) → entry_of (take size (drop 4 after)) ≡ None → AtRecord n at size after ≡ broken [] at
none_of n at size after none = rw none (cond_both (nat_lt (4 + size) (length after)) (broken [] at) (broken [] at) (λ r. r ≡ broken [] at) (λ long. refl) (λ short. refl))

pub spells_none : (rest after body next : List ℕ) → rest ≡ 165 ∷ after → after ≡ to_be_bytes w32 (length body) ++ body ++ next → length body < 2 ^ 32 → entry_of body ≡ None → (n at : ℕ) → records (suc n) at rest ≡ broken [] at
spells_none rest after body next rest_is after_is fits none n at =
    let whole : List ℕ = to_be_bytes w32 (length body) ++ body ++ next in
    let size : from_be_bytes w32 (take 4 whole) ≡ length body = from_be_bytes-to_be_bytes_4 (length body) fits in
    let here : AtRecord n at (length body) whole ≡ broken [] at = none_of n at (length body) whole (ap entry_of (take_at body next (length body) refl) ∙ none) in
    rw (rest_is, after_is, size) here

-- one record more was read
pub one_more : (bytes : List ℕ) (bodies : List (List ℕ)) (body rest after next : List ℕ) → bytes ≡ header ++ spelled bodies ++ rest → rest ≡ 165 ∷ after → after ≡ to_be_bytes w32 (length body) ++ body ++ next
    → bytes ≡ header ++ spelled (bodies ++ body ∷ []) ++ next
one_more bytes bodies body rest after next is rest_is after_is =
    is ∙ ap (λ (l : List ℕ). header ++ spelled bodies ++ l) (rest_is ∙ ap (λ (l : List ℕ). 165 ∷ l) after_is)
    ∙ ap (λ (l : List ℕ). header ++ l) (sym (spelled-one bodies body next))

pub one_more_spelled : (bytes : List ℕ) (bodies : List (List ℕ)) (fs : List Found) (body rest : List ℕ) (f : Found) → bytes ≡ header ++ spelled bodies ++ rest → Spell 16 bodies fs → f.at ≡ length bytes - length rest → entry_of body ≡ Some f.is
    → Spell 16 (bodies ++ body ∷ []) (fs ++ f ∷ [])
one_more_spelled bytes bodies fs body rest f is spell at_is spells =
    let place : f.at ≡ 16 + length (spelled bodies) = omega (arith, at_is, ap length is, length-append (header ++ spelled bodies) rest) in
    Spell-push 16 bodies fs body f spell place spells

pub one_more_placed : (fs : List Found) (f : Found) (entries entries' : List Placed) (p : Placed) → entries ≡ placed fs → entries' ≡ entries ++ p ∷ [] → p ≡ placed_of f → entries' ≡ placed (fs ++ f ∷ [])
one_more_placed fs f entries entries' p are pushed is = pushed ∙ (λ i. are i ++ is i ∷ []) ∙ sym (map-append placed_of fs (f ∷ []))

-- behind the header
pub behind_header : (bytes : List ℕ) → starts_with nat_eq bytes header ≡ true → 17 < length bytes → bytes ≡ header ++ take (length bytes - 16) (drop 16 bytes)
behind_header bytes begins long =
    let split : bytes ≡ header ++ drop 16 bytes = (starts_is Decides-eqb bytes header true (sym begins)).0 refl in
    split ∙ ap (λ (l : List ℕ). header ++ l) (sym (take_all (length bytes - 16) (drop 16 bytes) (omega (arith, ap length split))))
