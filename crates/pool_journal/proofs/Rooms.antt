-- Putting bytes into the memory of a record, one text behind another.
use Rattle.pool_journal.proofs.Common.{◌≡◌, ℕ, ◌+◌, ◌<◌, ◌≤◌, zero, suc, List, [], ◌∷◌, ◌++◌, length, get_or, take, sym, ap, subst, ◌∙◌, append_assoc, append-nil, length-append, arith}
use Rattle.std.specs.Prelude.{flat_map}
use Rattle.pool_journal.specs.Rooms.{Fits, Gets, RoomState}
use Rattle.std.proofs.lemmas.List.{get_or_default}
use Rattle.pool_journal.proofs.Many.{one_more}

pub nothing_put : (room : RoomState) → Gets [] room room
nothing_put room = record { bytes = sym (append-nil room.bytes); size = omega arith }

pub two_put : (a b : List ℕ) (old now new : RoomState) → Gets a old now → Gets b now new → Gets (a ++ b) old new
two_put a b old now new first second = record {
  bytes = second.bytes ∙ ap (λ (l : List ℕ). l ++ b) first.bytes ∙ append_assoc old.bytes a b;
  size = omega (arith, first.size, second.size);
}

-- there is room for what comes behind what was put
pub room_behind : (a b : List ℕ) (old now : RoomState) → Fits old (a ++ b) → Gets a old now → Fits now b
room_behind a b old now fits got = omega (arith, fits, got.size, ap length got.bytes, length-append old.bytes a, length-append a b)

-- one of some things takes no more than what is left for it behind those before it
part_of_all : {A : Type 0} (spelled : A → List ℕ) (xs : List A) (k : ℕ) (x : A) → k < length xs → x ≡ get_or xs k x → length (flat_map spelled (take k xs)) + length (spelled x) ≤ length (flat_map spelled xs)
part_of_all spelled [] k x lt is = absurd (omega arith)
part_of_all spelled (y ∷ ys) zero x lt is = omega (arith, ap (λ z. length (spelled z)) is, length-append (spelled y) (flat_map spelled ys))
part_of_all spelled (y ∷ ys) (suc k) x lt is = omega (arith, part_of_all spelled ys k x (omega (arith, lt)) is, length-append (spelled y) (flat_map spelled (take k ys)), length-append (spelled y) (flat_map spelled ys))

module _ {A : Type 0} (spelled : A → List ℕ) (xs : List A) (k : ℕ) (x : A) (old now : RoomState) (lt : k < length xs) (is : x ≡ get_or xs k x) (so_far : Gets (flat_map spelled (take k xs)) old now) where
  pub room_for_one : Fits old (flat_map spelled xs) → Fits now (spelled x)
  room_for_one fits = omega (arith, fits, so_far.size, ap length so_far.bytes, length-append old.bytes (flat_map spelled (take k xs)), part_of_all spelled xs k x lt is)

  pub one_put : (new : RoomState) → Gets (spelled x) now new → Gets (flat_map spelled (take (k + 1) xs)) old new
  one_put new got = subst (λ (l : List ℕ). Gets l old new) (one_more spelled xs k x [] lt is) (two_put (flat_map spelled (take k xs)) (spelled x) old now new so_far got)

-- the one at a place, whatever is read past the end
pub room_at : {A : Type 0} (spelled : A → List ℕ) (xs : List A) (k : ℕ) (d : A) (old now : RoomState) → k < length xs → Gets (flat_map spelled (take k xs)) old now → Fits old (flat_map spelled xs) → Fits now (spelled (get_or xs k d))
room_at spelled xs k d old now lt so_far fits = room_for_one spelled xs k (get_or xs k d) old now lt (get_or_default xs k d (get_or xs k d) lt) so_far fits
