use Rattle.desk_rules.proofs.Common.{◌≤◌, ℕ, ◌∙◌, sym, subst, Option, IfSome, is_of}
use Rattle.site_types.specs.Limits.{last_moment}
use Rattle.desk_rules.proofs.LastTimeLemmas.{latest_in_time}
use Rattle.desk_rules.proofs.last_times.LastTimes.get.Goals as goal

pub returns-clause-limit : goal.returns-clause-limit
returns-clause-limit c =
    let index = c.self.invariant.1 c.bytes.result.now c.bytes-2.result.now c.bytes-3.result.now in
    let found = c.copied.ensures ∙ c.get.ensures.value ∙ index in
    subst (λ (time : Option ℕ). IfSome time (λ t. t ≤ last_moment)) (sym found) (latest_in_time (is_of c.bytes.result.now c.bytes-2.result.now c.bytes-3.result.now) c.self.inside.images.now c.self.invariant.0)
