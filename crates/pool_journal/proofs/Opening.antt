-- What an opening leaves.
use Rattle.pool_journal.proofs.Common.{◌≡◌, ◌⊎◌, inl, inr, ℕ, ◌-◌, ◌≤◌, List, [], ◌∷◌, ◌++◌, length, replicate, refl, sym, ◌∙◌, ap, subst, arith, Ok, Err, ◌<◌, ◌^◌, lit<, length-append, Result, OnOk, Option, Some, None, nat_eq, false, written, Torn, Changes, IsDurable, WroteDurably, WasCut, Synced, LookedAround, starts_with, common_prefix_len, ⊎_elim, lt-leb, header, Found, Reading, found, broken, foreign, spelled, reading, Holds, IsToldOf, Placed, AtRest, FromBefore, SameReading, Leaves, OpenStops, Begins, IsOpened}
use Rattle.vault_disk.specs.Disk.{Disk, Image, IsSame, Now}
use Rattle.vault_disk.proofs.Moments.{goes_on, weaker}
use Rattle.pool_journal.proofs.Bytes.{reads}

-- the file is durable, and was looked at
pub record Settled (old now : Disk) : Type 0 where
  pub seen : (f : ℕ) → now.seen f ≡ old.seen f
  pub left : (c : Image) → now.may_leave c → old.may_leave c
  pub durable : (c : Image) → old.may_leave c → c 0 ≡ old.seen 0

pub settled : (old now : Disk) → IsDurable 0 old → LookedAround old now → Settled old now
settled old now durable looked = record { seen = looked.rests.seen; left = looked.rests.left; durable = durable.only }

-- the first sync succeeded
module _ {T E : Type 0} (old mid : Disk) (v : T) (synced : Synced {T = T} {E = E} 0 old mid (Ok v)) where
  pub durable_now : IsDurable 0 mid
  durable_now = record { only = λ c left. synced.durable c left ∙ sym (synced.rests.seen 0) }

  pub synced_on : (now : Disk) → IsSame old mid → ((c : Image) (b : List ℕ) → mid.left_since mid.moment c b → mid.may_leave c × (b ≡ mid.sent)) → Leaves (SameReading mid) mid now → OpenStops old now
  synced_on now same only_now leaves =
      let here : (c : Image) → SameReading mid c → SameReading old c = λ c from. record {
        from = from.from;
        left = synced.rests.left from.from from.left;
        others = from.others;
        inside = from.inside ∙ ap reading (synced.rests.seen 0);
      } in
      let left_now : (c : Image) → mid.may_leave c → SameReading old c = λ c left. record { from = c; left = synced.rests.left c left; others = λ g ne. refl; inside = ap reading (synced.durable c left) } in
      let P : Image → List ℕ → Type 0 = λ c b. (old.may_leave c ⊎ SameReading old c) × (b ≡ old.sent) in
      inr (record {
        leaves = record {
          left = λ c left. inr (here c (leaves.left c left));
          during = goes_on old mid now P
              (weaker old mid (Now mid) P (λ c b left. (inl (synced.rests.left c left.0), left.1 ∙ same.sent)) synced.time.during)
              (weaker mid now (λ c b. SameReading mid c × (b ≡ mid.sent)) P (λ c b left. (inr (here c left.0), left.1 ∙ same.sent)) leaves.during);
        };
        since = mid.moment;
        within = leaves.during.later;
        from_then = λ c b left. ⊎_elim
            (λ was. let still = only_now c b was in (left_now c still.0, still.1 ∙ same.sent))
            (λ since. (here c since.0, since.1 ∙ same.sent))
            (leaves.during.each mid.moment c b (omega arith) left);
      })

found_rest : (old now : Disk) (bytes : List ℕ) (es : List Found) (end : ℕ) → length bytes < 2 ^ 63 → Settled old now → bytes ≡ old.seen 0 → Holds bytes es end → AtRest now end es
found_rest old now bytes es end long settled bytes_are holds =
    record { holds = subst (λ (l : List ℕ). Holds l es end) (bytes_are ∙ sym (settled.seen 0)) holds; reads = ap reading (settled.seen 0 ∙ sym bytes_are) ∙ reads bytes es end holds; short = omega (arith, long, ap length holds.is, holds.end_is, length-append (header ++ spelled holds.bodies) (holds.gate ∷ holds.tail)); durable = record { only = λ c left. settled.durable c (settled.left c left) ∙ sym (settled.seen 0) } }

begun : {T E : Type 0} (old mid now : Disk) (v : T) (r : Result T E) (first : List ℕ) → first ≡ header ++ 0 ∷ [] → WasCut {T = T} {E = E} 0 0 old mid (Ok v) → WroteDurably 0 0 first mid now r → OnOk r (AtRest now 16 [])
begun old mid now v (Err e) first first_is cut wrote = tt
begun old mid now v (Ok w) first first_is cut wrote =
    let none : 0 - length (old.seen 0) ≡ 0 = omega arith in
    let nothing : mid.seen 0 ≡ [] = cut.seen.inside ∙ ap (λ (k : ℕ). replicate k 0) none in
    let is : now.seen 0 ≡ header ++ 0 ∷ [] = wrote.seen.inside ∙ (λ i. written (nothing i) 0 (first_is i)) in
    let holds : Holds (now.seen 0) [] 16 = record { gate = 0; tail = []; shut = λ z. absurd (cc z); bodies = []; is = is; small = tt; spell = tt; end_is = refl } in
    record { holds = holds; reads = reads (now.seen 0) [] 16 holds; short = lit< tt; durable = wrote.durable }

pub begins : {T E : Type 0} (old mid now : Disk) (v : T) (r : Result T E) (first : List ℕ) → length (old.seen 0) ≤ 17 → IsDurable 0 old → first ≡ header ++ 0 ∷ [] → WasCut {T = T} {E = E} 0 0 old mid (Ok v) → IsSame old mid
    → WroteDurably 0 0 first mid now r → Begins old now r
begins old mid now v r first short durable first_is cut same wrote =
    let P : Image → List ℕ → Type 0 = λ c b. FromBefore old (λ bytes. length bytes ≤ 17) c × (b ≡ old.sent) in
    let long : length first ≡ 17 = ap length first_is in
    let after_cut : (c : Image) → mid.may_leave c → FromBefore old (λ bytes. length bytes ≤ 17) c = λ c left.
    let from = cut.left c left in
    let at_first : length (from.0 0) ≤ 17 = subst (λ (l : List ℕ). length l ≤ 17) (sym (durable.only from.0 from.1)) short in
    record { from = from.0; left = from.1; others = from.2.others; inside = omega (arith, from.2.inside.no_longer, at_first) } in
    let after_write : (c : Image) → (d : Image) × mid.may_leave d × Changes 0 (Torn 0 (length first)) d c → FromBefore old (λ bytes. length bytes ≤ 17) c = λ c from.
    let earlier = after_cut from.0 from.1 in
    record { from = earlier.from; left = earlier.left; others = λ g ne. from.2.others g ne ∙ earlier.others g ne; inside = omega (arith, from.2.inside.no_longer, earlier.inside, long) } in
    record {
      done = begun old mid now v r first first_is cut wrote;
      left = λ c left. after_write c (wrote.left c left);
      during = goes_on old mid now P
          (weaker old mid (Now mid) P (λ c b left. (after_cut c left.0, left.1 ∙ same.sent)) cut.time.during)
          (weaker mid now _ P (λ c b left. (after_write c left.0, left.1 ∙ same.sent)) wrote.during);
    }

-- bytes that differ from the header
pub foreign_at : (bytes : List ℕ) (at : ℕ) → 17 < length bytes → starts_with nat_eq bytes header ≡ false → at ≡ common_prefix_len nat_eq bytes header → reading bytes ≡ foreign at
foreign_at bytes at long differs is = rw (lt-leb (length bytes) 17 long, differs) (ap foreign (sym is))

-- what was told of the bytes is what the opening found
pub is_opened : (r : Reading) (old now : Disk) (bytes : List ℕ) (entries : List Placed) (end : ℕ) (bad : Option ℕ) → r ≡ reading bytes → length bytes < 2 ^ 63 → Settled old now → bytes ≡ old.seen 0 → IsToldOf bytes r entries end bad → IsOpened r now end entries bad
is_opened (found fs) old now bytes entries end None r_is long settled bytes_are told = (told.0, found_rest old now bytes fs end long settled bytes_are told.1)
is_opened (found fs) old now bytes entries end (Some at) r_is long settled bytes_are told = told
is_opened (broken fs at) old now bytes entries end bad r_is long settled bytes_are told = told
is_opened (foreign at) old now bytes entries end bad r_is long settled bytes_are told = told

pub opened_as : (old now : Disk) (bytes : List ℕ) (entries : List Placed) (end end' : ℕ) (bad : Option ℕ) → length bytes < 2 ^ 63 → Settled old now → bytes ≡ old.seen 0 → end ≡ end' → IsToldOf bytes (reading bytes) entries end' bad → IsOpened (reading (old.seen 0)) now end entries bad
opened_as old now bytes entries end end' bad long settled bytes_are end_is told =
    rw (← bytes_are, end_is) (is_opened (reading bytes) old now bytes entries end' bad refl long settled bytes_are told)
