-- What is known of a source of bytes.
use Rattle.std.specs.Prelude.{◌≡◌, ◌⊎◌, ℕ, ◌≤◌, List, [], length, take, drop}
use Rattle.std.specs.Borrow.{GName}

pub record Input : Type 1 where
  -- which object it is: the borrows on the way to it
  pub place : List GName
  -- it tells what is left
  pub tells : Type 0
  -- the bytes that are left
  pub left : List ℕ
  -- how many bytes it may still give, whether it tells or not
  pub budget : ℕ
  -- no read of it fails
  pub reliable : Type 0
  -- how often it has failed
  pub faults : ℕ

-- the first n bytes of what was left were taken, none only at the end or for no room
pub record Took (left : List ℕ) (n : ℕ) (into rest : List ℕ) : Type 0 where
  pub within : n ≤ length left
  pub bytes_are : take n into ≡ take n left
  pub rest_is : rest ≡ drop n left
  pub end : n ≡ 0 → (length into ≡ 0) ⊎ (left ≡ [])

-- the same object, later
pub record IsSameInput (old new : Input) : Type 0 where
  pub place : new.place ≡ old.place
  pub tells : old.tells → new.tells
  pub told : new.tells → old.tells
  pub reliable : old.reliable → new.reliable
  pub relied : new.reliable → old.reliable
  pub faults : old.faults ≤ new.faults

-- a source that tells nothing
abbrev pub silent_input : ℕ → ℕ → Input
silent_input budget faults = record {
  place = [];
  tells = ⊥;
  left = [];
  budget = budget;
  reliable = ⊥;
  faults = faults;
}

-- a new source of these bytes, which tells, and never fails where no call is listed
pub record StartsWith (bytes fails : List ℕ) (input : Input) : Type 0 where
  pub tells : input.tells
  pub left : input.left ≡ bytes
  pub budget : input.budget ≡ length bytes
  pub reliable : fails ≡ [] → input.reliable
  pub faults : input.faults ≡ 0
