-- The marks of a unit, in hundredths of its capacity.
use Rattle.std.specs.Prelude.{ℕ, ◌*◌, Bool, nat_le}

-- the high mark is reached: the bytes used of this capacity are so many hundredths of it, or more
abbrev pub is_high_reached : ℕ → ℕ → ℕ → Bool
is_high_reached used capacity high = nat_le (high * capacity) (used * 100)

-- the low mark is met: they are so many hundredths of it, or fewer
abbrev pub is_low_met : ℕ → ℕ → ℕ → Bool
is_low_met used capacity low = nat_le (used * 100) (low * capacity)
