-- Zones that requests set.
use Rattle.std.proofs.Common.{Bor}
use Rattle.std.specs.Prelude.{option_copied, ℤ, List, ℕ, Option, Some, None, IsSome, IsUtf8}
use Rattle.jiff_core.specs.Calendar.{IsWithin}
use Rattle.jiff_tz.specs.PosixReader.{read_whole}

-- a text that is a rule
abbrev pub IsRule : List ℕ → Type 0
IsRule text = IsUtf8 text × IsSome (read_whole text)

-- there is a zone of this rule, or else of this offset
abbrev pub IsZone : Option (List ℕ) → Option ℤ → Type 0
IsZone (Some rule) offset = IsRule rule
IsZone None (Some seconds) = IsWithin 86_399 seconds
IsZone None None = ⊥

-- a rule or an offset, as the code has them
abbrev pub asked_seen : Option (Bor (List ℕ)) × Option ℤ → Option (List ℕ) × Option ℤ
asked_seen asked = (option_copied asked.0, asked.1)
