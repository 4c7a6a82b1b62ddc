-- The two writes of an append, over what is known of the disk.
use Rattle.pool_journal.proofs.Common.{◌≡◌, ◌≢◌, inl, ℕ, ◌+◌, ◌<◌, ◌^◌, List, [], ◌∷◌, ◌++◌, length, drop, Some, ◌∙◌, ap, subst, arith, Ok, Result, written, Torn, Changes, IsDurable, WroteDurably, Entry, entry_of, spelled_entry, IsWritable, IsSpellable, staged_record, Found, AtRest, FromBefore, with_one, IsBeforeOrAfter, Appending, Appended, Stops}
use Rattle.vault_disk.specs.Disk.{Disk, Image, IsSame}
use Rattle.vault_disk.proofs.Moments.{goes_on, weaker}
use Rattle.pool_journal.proofs.Bytes.{front, length_staged, reads, torn_behind, staged, torn_gate, gate_opened}
use Rattle.pool_journal.proofs.FieldLemmas.{entry_of-spelled}

-- between the two writes
pub record Staged (bodies : List (List ℕ)) (body : List ℕ) (old now : Disk) : Type 0 where
  pub gate : ℕ
  pub rest : List ℕ
  pub is : now.seen 0 ≡ front bodies ++ gate ∷ (staged_record body ++ rest)
  pub durable : IsDurable 0 now
  pub others : (g : ℕ) → g ≢ 0 → now.seen g ≡ old.seen g
  pub left : (c : Image) → now.may_leave c → FromBefore old (λ _. Unit {0}) c

module _ (fs : List Found) (e : Entry) (end : ℕ) (writable : IsWritable e) (old : Disk) (rest : AtRest old end fs) where
  abbrev bodies : List (List ℕ)
  bodies = rest.holds.bodies

  -- each image of the first write
  pub first_left : (c : Image) → (d : Image) × old.may_leave d × Changes 0 (Torn (end + 1) (length (staged_record (spelled_entry e)))) d c → FromBefore old (IsBeforeOrAfter fs end e) c
  first_left c (d, left, changes) = record {
    from = d;
    left = left;
    others = changes.others;
    inside = inl (reads (c 0) fs end (torn_behind fs end (old.seen 0) rest.holds (length (staged_record (spelled_entry e))) (c 0) (subst (λ (l : List ℕ). Torn (end + 1) (length (staged_record (spelled_entry e))) l (c 0)) (rest.durable.only d left) changes.inside)));
  }

  module _ (can : IsSpellable e) where
    spells : entry_of (spelled_entry e) ≡ Some e
    spells = entry_of-spelled e can writable.1

    pub second_left : (mid : Disk) → Staged bodies (spelled_entry e) old mid → (c : Image) → (d : Image) × mid.may_leave d × Changes 0 (Torn end 1) d c → FromBefore old (IsBeforeOrAfter fs end e) c
    second_left mid staged_now c (d, left, changes) =
        let from = staged_now.left d left in record {
          from = from.from;
          left = from.left;
          others = λ g ne. changes.others g ne ∙ from.others g ne;
          inside = torn_gate fs end (old.seen 0) rest.holds (spelled_entry e) e writable.0 spells staged_now.rest (c 0) staged_now.gate (subst (λ (l : List ℕ). Torn end 1 l (c 0)) (staged_now.durable.only d left ∙ staged_now.is) changes.inside);
        }

  pub first_stop : {T E : Type 0} (at : ℕ) (bytes : List ℕ) (now : Disk) (result : Result T E) → at ≡ end + 1 → bytes ≡ staged_record (spelled_entry e) → WroteDurably 0 at bytes old now result → Stops fs end e old now
  first_stop {T = T} {E = E} at bytes now result at_is bytes_are wrote =
      let w = rw (at_is, bytes_are) at wrote in
      record { left = λ c now_left. first_left c (w.left c now_left); during = weaker old now _ (Appending fs end e old) (λ c b left. (first_left c left.0, left.1)) w.during }

  mid_staged : {T E : Type 0} (at : ℕ) (bytes : List ℕ) (mid : Disk) (v : T) → at ≡ end + 1 → bytes ≡ staged_record (spelled_entry e) → WroteDurably {T = T} {E = E} 0 at bytes old mid (Ok v) → Staged bodies (spelled_entry e) old mid
  mid_staged {T = T} {E = E} at bytes mid v at_is bytes_are wrote =
      let w = rw (at_is, bytes_are) at wrote in
      record {
        gate = rest.holds.gate;
        rest = drop (length (staged_record (spelled_entry e))) rest.holds.tail;
        is = staged fs end (old.seen 0) rest.holds (spelled_entry e) (mid.seen 0) w.seen.inside;
        durable = w.durable;
        others = w.seen.others;
        left = λ c now_left. let from = w.left c now_left in record { from = from.0; left = from.1; others = from.2.others; inside = tt };
      }

  pub second_stop : {T E : Type 0} (at at' : ℕ) (bytes : List ℕ) (mid now : Disk) (v : T) (result : Result T E) → IsSpellable e → at ≡ end + 1 → at' ≡ end → bytes ≡ staged_record (spelled_entry e) → WroteDurably {T = T} {E = E} 0 at bytes old mid (Ok v)
      → IsSame old mid → WroteDurably 0 at' (165 ∷ []) mid now result → Stops fs end e old now
  second_stop {T = T} {E = E} at at' bytes mid now v result can at_is at_is' bytes_are first same wrote =
      let second = rw at_is' at wrote in
      let staged_now = mid_staged {T = T} {E = E} at bytes mid v at_is bytes_are first in
      record {
        left = λ c now_left. second_left can mid staged_now c (second.left c now_left);
        during = goes_on old mid now (Appending fs end e old) (first_stop {T = T} {E = E} at bytes mid (Ok v) at_is bytes_are first).during (weaker mid now _ (Appending fs end e old) (λ c b left. (second_left can mid staged_now c left.0, left.1 ∙ same.sent)) second.during);
      }

  pub done : {T E : Type 0} (at at' end' : ℕ) (bytes : List ℕ) (mid now : Disk) (v w : T) → IsSpellable e → at ≡ end + 1 → at' ≡ end → bytes ≡ staged_record (spelled_entry e) → WroteDurably {T = T} {E = E} 0 at bytes old mid (Ok v)
      → WroteDurably {T = T} {E = E} 0 at' (165 ∷ []) mid now (Ok w) → end' ≡ end + 5 + length (spelled_entry e) → Appended fs end e old now end'
  done {T = T} {E = E} at at' end' bytes mid now v w can at_is at_is' bytes_are first wrote end_is =
      let second = rw at_is' at wrote in
      let staged_now = mid_staged {T = T} {E = E} at bytes mid v at_is bytes_are first in
      let here : end + 1 + length (staged_record (spelled_entry e)) < 2 ^ 63 = rw (at_is, bytes_are) at first.short in
      let holds = gate_opened fs end (old.seen 0) rest.holds (spelled_entry e) e writable.0 (spells can) staged_now.rest (now.seen 0) staged_now.gate (second.seen.inside ∙ ap (λ (l : List ℕ). written l end (165 ∷ [])) staged_now.is) in
      record {
        rest = rw end_is (record { holds = holds; reads = reads (now.seen 0) (with_one fs end e) (end + 5 + length (spelled_entry e)) holds; durable = second.durable; short = omega (arith, here, length_staged (spelled_entry e)) });
        others = λ g ne. second.seen.others g ne ∙ staged_now.others g ne;
      }
