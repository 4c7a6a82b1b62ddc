use Rattle.site_types.proofs.Common.{◌≡◌, ◌∷◌, ◌++◌, take, flat_map}
use Rattle.site_types.proofs.joined.push_joined.Given as goal

abbrev pub invariant-loop-value : goal.invariant-loop-value
invariant-loop-value g l = l.text.items ≡ l.initial.text.items ++ flat_map (λ v. 43 ∷ g.T.Written.written v) (take l.value-index l.rest)
