-- What is known of a clock.
use Rattle.std.specs.Prelude.{◌≡◌, ℕ, zero, suc, ◌-◌, min, ◌≤◌, List, [], ◌∷◌, ◌++◌, length, slice_index}
use Rattle.std.specs.Borrow.{GName}

pub record Ticks : Type 1 where
  -- which object it is: the borrows on the way to it
  pub place : List GName
  -- it tells the moments that it gave
  pub tells : Type 0
  -- the moments that it gave, in order
  pub gave : List ℕ
  -- after so many moments the next may be this one
  pub may_give : ℕ → ℕ → Type 0
  -- it fails only after 2^64 - 1 moments
  pub reliable : Type 0
  -- how often it has failed
  pub faults : ℕ

-- the same object, later
pub record IsSameClock (old new : Ticks) : Type 0 where
  pub place : new.place ≡ old.place
  pub tells : old.tells → new.tells
  pub told : new.tells → old.tells
  pub may_give : (n m : ℕ) → new.may_give n m → old.may_give n m
  pub reliable : old.reliable → new.reliable
  pub relied : new.reliable → old.reliable
  pub faults : old.faults ≤ new.faults

-- a clock that tells nothing
abbrev pub silent_ticks : ℕ → Ticks
silent_ticks faults = record {
  place = [];
  tells = ⊥;
  gave = [];
  may_give = λ n m. Unit {0};
  reliable = ⊥;
  faults = faults;
}

-- the moment after so many others: that of the list, and past its end the last
abbrev pub moment_at : List ℕ → ℕ → ℕ
moment_at moments n = slice_index moments (min n (length moments - 1))

-- the first so many moments
abbrev pub given : List ℕ → ℕ → List ℕ
given moments zero = []
given moments (suc n) = given moments n ++ moment_at moments n ∷ []

-- a new clock of these moments, which tells and fails in no call that isn't listed
pub record StartsAt (moments fails : List ℕ) (ticks : Ticks) : Type 0 where
  pub tells : ticks.tells
  pub gave : ticks.gave ≡ []
  pub may_give : (n m : ℕ) → ticks.may_give n m → m ≡ moment_at moments n
  pub reliable : fails ≡ [] → ticks.reliable
  pub faults : ticks.faults ≡ 0
