-- Limits.
use Rattle.std.specs.Prelude.{ℕ}

-- the greatest moment, and the greatest time of an image
abbrev pub last_moment : ℕ
last_moment = 250000000000

-- the greatest number of bytes of a payload
abbrev pub payload_limit : ℕ
payload_limit = 67108864
