-- What placing answers, once all pieces were tried.
use Rattle.std.proofs.Common.{◌≡◌, ⊎_elim, ℕ, ◌+◌, List, length, take, Ok, Err, refl, ◌∙◌, ap, arith}
use Rattle.std.specs.Prelude.{Result, OnOk}
use Rattle.std.proofs.lemmas.List.{take_all}
use Rattle.vault_disk.specs.Disk.{Disk}
use Rattle.segment_pool.specs.Pieces.{CutBytes, pieces}
use Rattle.segment_pool.specs.Slots.{PoolState, number_held}
use Rattle.segment_pool.specs.declared.fault.PoolFault.{PoolFault}
use Rattle.copy_fragments.specs.Copies.{IsPlaced}
use Rattle.copy_fragments.specs.Placings.{HoldsMore, copy_in, held_pieces, lacking, new_pieces}
use Rattle.copy_fragments.specs.PlacingSteps.{HasPieces, PlacedSoFar, StaysTrue}

-- no fault is a success
pub ok_there : {P : Type 0} (r : Result (Unit {0}) PoolFault) → ((e : PoolFault) → r ≡ Err e → ⊥) → OnOk r P → P
ok_there (Ok v) other holds = holds
ok_there (Err e) other holds = absurd (other e refl)

-- all pieces are placed
pub all_placed : (digest_of : List ℕ → List ℕ) (start now : PoolState) (old d : Disk) (cut : CutBytes) (done : List ℕ) → HasPieces digest_of start now old d (pieces cut.size cut.bytes) done → IsPlaced digest_of now d.seen (copy_in done cut) cut.bytes
all_placed digest_of start now old d cut done so_far = record { length_is = refl; has_pieces = so_far.has }

-- the pool holds as many more as it lacked
pub holds_more : (digest_of : List ℕ → List ℕ) (start now : PoolState) (old d : Disk) (size : ℕ) (bytes done : List ℕ) → PlacedSoFar start now done → StaysTrue digest_of start now old d (pieces size bytes) done → length done ≡ length (pieces size bytes) → size ≡ start.size → HoldsMore start now (new_pieces start old.seen bytes)
holds_more digest_of start now old d size bytes done far stays long size_is =
    let all : take (length done) (pieces size bytes) ≡ pieces start.size bytes = take_all (length done) (pieces size bytes) (omega (arith, long)) ∙ ap (λ (k : ℕ). pieces k bytes) size_is in
    let number : number_held now ≡ number_held start + length (new_pieces start old.seen bytes) = stays.number ∙ ap (λ (l : List (List ℕ)). number_held start + length (lacking (held_pieces start old.seen) l)) all in
    record {
      number = number;
      fits = λ some. ⊎_elim (λ same. absurd (omega (arith, some, same, number))) (λ few. few) far.fits;
    }
