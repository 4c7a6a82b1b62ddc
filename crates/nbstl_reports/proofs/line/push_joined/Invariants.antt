use Rattle.std.proofs.Common.{◌≡◌, ◌∷◌, ◌++◌, take}
use Rattle.std.specs.List.{flat_map}
use Rattle.nbstl_reports.proofs.line.push_joined.Given as goal

-- the first value, and each further one so far behind what stands between them
abbrev pub invariant-loop-value : goal.invariant-loop-value
invariant-loop-value g l = l.out.items ≡ l.initial.out.items ++ flat_map (λ v. l.between ∷ g.T.Written.written v) (take l.value-index l.rest)
