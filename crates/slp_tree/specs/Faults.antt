-- Why a list of operations is refused.
use Rattle.std.specs.Prelude.{◌≡◌, ℕ, Option, Some}
use Rattle.slp_tree.specs.declared.slp.SlpFault.{SlpFault}
use Rattle.slp_tree.specs.declared.slp.SlpFault.TheVariants.{Rule, NoMemory}

-- the fault names the rule that is broken
abbrev pub IsBroken : Option ℕ → SlpFault → Type 0
IsBroken broken (Rule number) = broken ≡ Some number
IsBroken broken NoMemory = ⊥
