-- Lifecycles by name, each with its versions 1, 2, and so on.
use Rattle.std.specs.Prelude.{◌≡◌, ℕ, ◌+◌, ◌-◌, ◌==◌, if◌then◌else◌, List, [], ◌∷◌, ◌++◌, length, Option, Some, None, Result, slice_get, unwrap_or, IfOk, OnOk, OnErr}
use Rattle.std.specs.Option.{option_map, option_map_or}
use Rattle.slp_tree.specs.Lists.{named, put}
use Rattle.slp_tree.specs.Trees.{Version}

pub record Lifecycle : Type 0 where
  pub name : List ℕ
  pub versions : List Version

abbrev pub lifecycle_name : Lifecycle → List ℕ
lifecycle_name l = l.name

abbrev pub lifecycle_named : List ℕ → List Lifecycle → Option Lifecycle
lifecycle_named name lifecycles = named lifecycle_name name lifecycles

abbrev pub version_in : ℕ → Option Lifecycle → Option Version
version_in number None = None
version_in number (Some l) = if number == 0 then None else slice_get l.versions (number - 1)

-- the version of a lifecycle with this number, from 1
abbrev pub version_named : List ℕ → ℕ → List Lifecycle → Option Version
version_named name number lifecycles = version_in number (lifecycle_named name lifecycles)

-- the number of a lifecycle's latest version
abbrev pub latest_named : List ℕ → List Lifecycle → Option ℕ
latest_named name lifecycles = option_map (λ l. length l.versions) (lifecycle_named name lifecycles)

-- a lifecycle with one version more, which is its first where it isn't there
abbrev pub with_further : List ℕ → Version → Option Lifecycle → Lifecycle
with_further name version found = record { name = name; versions = option_map_or (λ l. l.versions) found [] ++ version ∷ [] }

abbrev pub add_version : List ℕ → Version → List Lifecycle → List Lifecycle
add_version name version lifecycles = put lifecycle_name (with_further name version (lifecycle_named name lifecycles)) lifecycles

-- a further version was added, and its number answered, under which it is found, or nothing was
pub record IsAdded {E : Type 0} (name : List ℕ) (version : Version) (old new : List Lifecycle) (result : Result ℕ E) : Type 0 where
  pub added : OnOk result (new ≡ add_version name version old)
  pub number : IfOk result (λ number. number ≡ unwrap_or (latest_named name old) 0 + 1)
  pub unchanged : OnErr result (new ≡ old)
  pub latest : IfOk result (λ number. latest_named name new ≡ Some number)
  pub found : IfOk result (λ number. version_named name number new ≡ Some version)
  pub others : IfOk result (λ number. (other : List ℕ) (k : ℕ) → ¬ ((other ≡ name) × (k ≡ number)) → version_named other k new ≡ version_named other k old)
