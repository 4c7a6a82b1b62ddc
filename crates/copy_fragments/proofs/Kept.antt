-- What the pool's file keeps while pieces are placed.
use Rattle.std.proofs.Common.{◌≡◌, ⊎_elim, ℕ, ◌+◌, ◌*◌, ◌<◌, ◌≤◌, max, List, length, take, drop, Some, sym, ◌∙◌, ap, subst, arith, length-drop}
use Rattle.std.specs.Prelude.{slice_get}
use Rattle.std.proofs.Math.Nat.{mul-le-mul_left, mul-le-mul_right}
use Rattle.std.proofs.lemmas.Bool.{cases_lt}
use Rattle.std.proofs.lemmas.List.{length-take}
use Rattle.std.proofs.lemmas.Option.{slice_get_within}
use Rattle.vault_disk.specs.Disk.{Disk, Image, IsSame}
use Rattle.vault_disk.proofs.Moments.{goes_on, weaker}
use Rattle.segment_pool.specs.Pieces.{pieces}
use Rattle.segment_pool.specs.Placing.{KeepsPieces, Touches, bytes_in}
use Rattle.segment_pool.specs.Slots.{PoolState}
use Rattle.segment_pool.proofs.PieceLemmas.{begins_within, piece_at}
use Rattle.copy_fragments.specs.Copies.{IsPieceCount}
use Rattle.copy_fragments.specs.Placings.{PinnedEach, times}
use Rattle.copy_fragments.proofs.Parts.{one_more}

pub keeps_wider : (pool : PoolState) (e f : ℕ) (c d : Image) → e ≤ f → KeepsPieces pool e c d → KeepsPieces pool f c d
keeps_wider pool e f c d le keeps = record { others = keeps.others; pieces = keeps.pieces; no_shorter = keeps.no_shorter; no_longer = omega (arith, le, keeps.no_longer) }

pub keeps_on : (pool : PoolState) (e : ℕ) (b c d : Image) → KeepsPieces pool e b c → KeepsPieces pool e c d → KeepsPieces pool e b d
keeps_on pool e b c d first second = record {
  others = λ f ne. second.others f ne ∙ first.others f ne;
  pieces = λ s w is whole. let then = first.pieces s w is whole in second.pieces s w is (ap length then ∙ whole) ∙ then;
  no_shorter = omega (arith, first.no_shorter, second.no_shorter);
  no_longer = omega (arith, first.no_longer, second.no_longer);
}

-- a pool whose slots were pinned has its pieces at the same places
pub same_place : (start now : PoolState) (slots : List ℕ) (c : Image) (slot n : ℕ) → PinnedEach start now slots → bytes_in now c slot n ≡ bytes_in start c slot n
same_place start now slots c slot n each = (λ i. take n (drop (slot * each.size i) (c (each.file i))))

pub keeps_from : (start now : PoolState) (slots : List ℕ) (e : ℕ) (c d : Image) → PinnedEach start now slots → KeepsPieces now e c d → KeepsPieces start e c d
keeps_from start now slots e c d each keeps = record {
  others = λ f ne. keeps.others f (λ same. ne (same ∙ each.file));
  pieces = λ s w is whole.
      sym (same_place start now slots d s w.length each)
      ∙ keeps.pieces s (record w { pins = w.pins + times s slots }) (each.again s w is) (ap length (same_place start now slots c s w.length each) ∙ whole)
      ∙ same_place start now slots c s w.length each;
  no_shorter = subst (λ (f : ℕ). length (c f) ≤ length (d f)) each.file keeps.no_shorter;
  no_longer = subst (λ (f : ℕ). length (d f) ≤ max (length (c f)) e) each.file keeps.no_longer;
}

pub touches_as : (p q : PoolState) (e f : ℕ) (a b : Disk) → ((c d : Image) → KeepsPieces p e c d → KeepsPieces q f c d) → Touches p e a b → Touches q f a b
touches_as p q e f a b so touches = record {
  left = λ c left. let from = touches.left c left in (from.0, from.1, so from.0 c from.2);
  during = weaker a b _ _ (λ c s now. ((now.0.0, now.0.1, so now.0.0 c now.0.2), now.1)) touches.during;
}

pub touches_on : (pool : PoolState) (e : ℕ) (a b c : Disk) → IsSame a b → Touches pool e a b → Touches pool e b c → Touches pool e a c
touches_on pool e a b c same first second =
    let back : (d f : Image) → b.may_leave d → KeepsPieces pool e d f → (o : Image) × a.may_leave o × KeepsPieces pool e o f = λ d f left keeps.
    let from = first.left d left in (from.0, from.1, keeps_on pool e from.0 d f from.2 keeps) in
    record {
      left = λ i left. let from = second.left i left in back from.0 i from.1 from.2;
      during = goes_on a b c _ first.during (weaker b c _ _ (λ i s now. (back now.0.0 i now.0.1 now.0.2, now.1 ∙ same.sent)) second.during);
    }

pub touches_wider : (pool : PoolState) (e f : ℕ) (a b : Disk) → e ≤ f → Touches pool e a b → Touches pool f a b
touches_wider pool e f a b le touches = touches_as pool pool e f a b (λ c d keeps. keeps_wider pool e f c d le keeps) touches

-- a piece has at least one byte and at most the size
pub piece_bounds : (size i : ℕ) (bytes piece : List ℕ) → 1 ≤ size → slice_get (pieces size bytes) i ≡ Some piece → (1 ≤ length piece) × (length piece ≤ size)
piece_bounds size i bytes piece some is =
    let start = begins_within size i bytes some (slice_get_within (pieces size bytes) i piece is) in
    let same : take size (drop (i * size) bytes) ≡ piece = let here = piece_at size i bytes some start in cc (here, is) in
    (omega (arith, ap length same, start, some, length-take size (drop (i * size) bytes), length-drop (i * size) bytes), omega (arith, ap length same, length-take size (drop (i * size) bytes)))

-- there are at most as many pieces as bytes
pub few_pieces : (size : ℕ) (bytes : List ℕ) → 1 ≤ size → length (pieces size bytes) ≤ length bytes
few_pieces size bytes some = ⊎_elim
    (λ lt. let start = begins_within size (length bytes) bytes some lt in absurd (omega (arith, start, mul-le-mul_left (length bytes) some)))
    (λ le. le) (cases_lt (length bytes) (length (pieces size bytes)))

-- and as many as were counted
pub counted_pieces : (size count : ℕ) (bytes : List ℕ) → 1 ≤ size → IsPieceCount count size (length bytes) → count ≡ length (pieces size bytes)
counted_pieces size count bytes some counted =
    let n : ℕ = length (pieces size bytes) in
    ⊎_elim
    (λ lt.
    let le : (length (pieces size bytes) + 1) * size ≤ count * size = mul-le-mul_right size (let z : length (pieces size bytes) + 1 ≤ count = omega (arith, lt) in z) in
    let begins : length (pieces size bytes) * size < length bytes = omega (arith, le, one_more (length (pieces size bytes)) size, counted.none_empty) in
    absurd (omega (arith, slice_get_within (pieces size bytes) n _ (piece_at size n bytes some begins))))
    (λ le. ⊎_elim
    (λ lt. absurd (omega (arith, begins_within size count bytes some lt, counted.enough)))
    (λ ge. omega (arith, le, ge)) (cases_lt count n))
    (cases_lt n count)

-- the slot before the end of so many
pub slot_end : (size slot n count : ℕ) → slot + 1 ≤ count → n ≤ size → slot * size + n ≤ count * size
slot_end size slot n count le short = omega (arith, mul-le-mul_right size le, one_more slot size, short)
