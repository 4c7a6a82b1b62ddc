use Rattle.std.proofs.Common.{◌≡◌, ◌∷◌, ◌-◌, ◌≤◌, replicate}
use Rattle.site_types.specs.declared.lifecycle.OpState.TheVariants.{Waiting, Complete}
use Rattle.desk_index.proofs.image.states_of.Given as goal

abbrev pub invariant-loop : goal.invariant-loop
invariant-loop l = (1 ≤ l.counter) × (l.states.items ≡ Complete ∷ replicate (l.counter - 1) Waiting)
