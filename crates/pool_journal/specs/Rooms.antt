-- Memory that was taken for a record before it is put together.
use Rattle.std.specs.Prelude.{◌≡◌, ℕ, ◌+◌, ◌≤◌, List, ◌++◌, length}

-- what was put into it so far, and how much it has room for in all
pub record RoomState : Type 0 where
  pub bytes : List ℕ
  pub size : ℕ

-- there is room for these bytes behind what is there
abbrev pub Fits : RoomState → List ℕ → Type 0
Fits room text = length room.bytes + length text ≤ room.size

-- these bytes were put behind what was there, and no room was lost
pub record Gets (text : List ℕ) (old new : RoomState) : Type 0 where
  pub bytes : new.bytes ≡ old.bytes ++ text
  pub size : old.size ≤ new.size
