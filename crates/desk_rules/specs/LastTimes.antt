-- The last times of images, by the names of their policy, client and schedule.
use Rattle.std.specs.Prelude.{◌≡◌, ℕ, ◌&&◌, List, bytes_eq}
use Rattle.std.specs.HashMap.{HashMap, get_by}
use Rattle.site_types.specs.declared.image.ImageRecord.{ImageRecord}
use Rattle.desk_rules.specs.declared.last_times.Key.{Key}
use Rattle.desk_rules.specs.DueBackups.{last_time}

-- a map has the last time of each three names
abbrev pub IsIndex : {S : Type 0} → HashMap Key ℕ S → List ImageRecord → Type 0
IsIndex times images = (policy client schedule : List ℕ) → get_by (λ (k : Key). bytes_eq policy k.policy.now && (bytes_eq client k.client.now && bytes_eq schedule k.schedule.now)) times ≡ last_time images policy client schedule
