use Rattle.image_catalogue.proofs.Common.{◌≡◌, ◌+◌, ℕ, List, take, bytes_on, recorded}
use Rattle.image_catalogue.proofs.unit_bytes.counted.Given as goal

abbrev pub invariant-loop-copy : goal.invariant-loop-copy
invariant-loop-copy l =
    (unit : List ℕ) → recorded unit l.counted.items ≡ bytes_on unit l.image.length (take l.copy-index l.image.copies) + recorded unit l.entries
