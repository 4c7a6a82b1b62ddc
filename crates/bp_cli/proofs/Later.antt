-- The same objects, later.
use Rattle.std.proofs.Common.{refl, ◌∙◌, arith}
use Rattle.vault_disk.specs.Disk.{Disk, IsLater}
use Rattle.vault_disk.specs.Input.{Input, IsSameInput}
use Rattle.vault_disk.specs.Ticks.{Ticks, IsSameClock}

pub later_none : (d : Disk) → IsLater d d
later_none d = record { place = refl; tells = λ t. t; told = λ t. t; faults = omega arith; send_faults = omega arith }

pub later_on : {a b c : Disk} → IsLater a b → IsLater b c → IsLater a c
later_on ab bc = record { place = bc.place ∙ ab.place; tells = λ t. bc.tells (ab.tells t); told = λ t. ab.told (bc.told t); faults = omega (arith, ab.faults, bc.faults); send_faults = omega (arith, ab.send_faults, bc.send_faults) }

pub input_none : (i : Input) → IsSameInput i i
input_none i = record { place = refl; tells = λ t. t; told = λ t. t; reliable = λ t. t; relied = λ t. t; faults = omega arith }

pub input_on : {a b c : Input} → IsSameInput a b → IsSameInput b c → IsSameInput a c
input_on ab bc = record { place = bc.place ∙ ab.place; tells = λ t. bc.tells (ab.tells t); told = λ t. ab.told (bc.told t); reliable = λ t. bc.reliable (ab.reliable t); relied = λ t. ab.relied (bc.relied t); faults = omega (arith, ab.faults, bc.faults) }

pub clock_none : (k : Ticks) → IsSameClock k k
clock_none k = record { place = refl; tells = λ t. t; told = λ t. t; may_give = λ n m t. t; reliable = λ t. t; relied = λ t. t; faults = omega arith }

pub clock_on : {a b c : Ticks} → IsSameClock a b → IsSameClock b c → IsSameClock a c
clock_on ab bc = record { place = bc.place ∙ ab.place; tells = λ t. bc.tells (ab.tells t); told = λ t. ab.told (bc.told t); may_give = λ n m t. ab.may_give n m (bc.may_give n m t); reliable = λ t. bc.reliable (ab.reliable t); relied = λ t. ab.relied (bc.relied t); faults = omega (arith, ab.faults, bc.faults) }
