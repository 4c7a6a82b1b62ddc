-- The search for a piece among the slots of its digest.
use Rattle.std.proofs.Common.{◌≡◌, ◌≢◌, ℕ, ◌+◌, ◌*◌, ◌<◌, ⊎_elim, List, take, drop, Some, None, sym, ◌∙◌, ap, subst, arith}
use Rattle.std.specs.Prelude.{Option, MatchOption}
use Rattle.std.proofs.lemmas.Bool.{cases_order}
use Rattle.vault_disk.specs.Disk.{Image}
use Rattle.segment_pool.specs.declared.slot.Slot.{Slot}
use Rattle.segment_pool.specs.Slots.{PoolState}
use Rattle.segment_pool.specs.Index.{leading_bits, bits_at, bits_of, IsNextBelow}
use Rattle.segment_pool.specs.Placing.{HasPiece, LacksPiece}

-- a candidate and those below it
abbrev pub rank : Option ℕ → ℕ
rank None = 0
rank (Some s) = s + 1

-- the slots from a candidate up don't have the piece, and it has the digest's leading bits
pub record Passed (digest_of : List ℕ → List ℕ) (pool : PoolState) (image : Image) (piece : List ℕ) (candidate : Option ℕ) : Type 0 where
  pub none : (slot : ℕ) → MatchOption candidate (Unit {0}) (λ c. c < slot) → HasPiece digest_of pool image slot piece → ⊥

pub same_piece : (digest_of : List ℕ → List ℕ) (pool : PoolState) (c d : Image) (slot : ℕ) (piece : List ℕ) → ((f : ℕ) → c f ≡ d f) → HasPiece digest_of pool c slot piece → HasPiece digest_of pool d slot piece
same_piece digest_of pool c d slot piece same has = record {
  what = has.what;
  is_held = has.is_held;
  length_is = has.length_is;
  digest_is = has.digest_is;
  bytes_are = ap (λ (l : List ℕ). take has.what.length (drop (slot * pool.size) l)) (sym (same pool.file)) ∙ has.bytes_are;
}

-- a slot that has the piece has its digest's leading bits
piece_bits : (digest_of : List ℕ → List ℕ) (pool : PoolState) (image : Image) (slot : ℕ) (piece : List ℕ) → HasPiece digest_of pool image slot piece → bits_of pool.table slot ≡ Some (leading_bits (digest_of piece))
piece_bits digest_of pool image slot piece has = ap bits_at has.is_held ∙ ap (λ (l : List ℕ). Some (leading_bits l)) has.digest_is

passed_one : (digest_of : List ℕ → List ℕ) (pool : PoolState) (image : Image) (piece digest : List ℕ) (c slot : ℕ) → digest_of piece ≡ digest → Passed digest_of pool image piece (Some c) → (HasPiece digest_of pool image c piece → ⊥)
    → HasPiece digest_of pool image slot piece → (slot < c → bits_of pool.table slot ≢ Some (leading_bits digest)) → ⊥
passed_one digest_of pool image piece digest c slot is passed lacks has none =
    ⊎_elim (λ same. lacks (subst (λ (k : ℕ). HasPiece digest_of pool image k piece) same has))
    (λ other. ⊎_elim (λ lt. none lt (piece_bits digest_of pool image slot piece has ∙ ap (λ (l : List ℕ). Some (leading_bits l)) is)) (λ gt. passed.none slot gt has) other)
    (cases_order slot c)

-- and goes on with the next one
pub passed_next : (digest_of : List ℕ → List ℕ) (pool : PoolState) (image : Image) (piece digest : List ℕ) (c : ℕ) (candidate : Option ℕ) → digest_of piece ≡ digest → Passed digest_of pool image piece (Some c) → (HasPiece digest_of pool image c piece → ⊥)
    → IsNextBelow pool.table (leading_bits digest) c candidate → Passed digest_of pool image piece candidate
passed_next digest_of pool image piece digest c None is passed lacks next = record {
  none = λ slot _ has. passed_one digest_of pool image piece digest c slot is passed lacks has (next slot);
}
passed_next digest_of pool image piece digest c (Some d) is passed lacks next = record {
  none = λ slot above has. passed_one digest_of pool image piece digest c slot is passed lacks has (next.2 slot above);
}

pub next_rank : (t : List (Option Slot)) (b s : ℕ) (next : Option ℕ) → IsNextBelow t b s next → rank next < s + 1
next_rank t b s None below = omega arith
next_rank t b s (Some d) below = omega (arith, below.0)

-- the next candidate has them too
pub next_bits : (t : List (Option Slot)) (b bound : ℕ) (next : Option ℕ) → IsNextBelow t b bound next → MatchOption next (Unit {0}) (λ s. bits_of t s ≡ Some b)
next_bits t b bound None below = tt
next_bits t b bound (Some d) below = below.1

-- the search has ended
pub passed_end : (digest_of : List ℕ → List ℕ) (pool : PoolState) (image : Image) (piece : List ℕ) (candidate : Option ℕ) → candidate ≡ None → Passed digest_of pool image piece candidate → LacksPiece digest_of pool image piece
passed_end digest_of pool image piece candidate ended passed slot has =
    (subst (λ (o : Option ℕ). Passed digest_of pool image piece o) ended passed).none slot tt has
