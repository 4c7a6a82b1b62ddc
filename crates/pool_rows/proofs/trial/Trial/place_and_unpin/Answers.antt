use Rattle.std.proofs.Common.{◌∙◌}
use Rattle.pool_rows.proofs.Unpinning.{unpinned}
use Rattle.pool_rows.proofs.trial.Trial.place_and_unpin.Goals as goal

pub invariant_of-self : goal.invariant_of-self
invariant_of-self g c =
    let there = c.in_ok-slot.ensures in
    let now = c.unpin.ensures there.0 there.1 in
    record {
      size_is = now.size ∙ c.place.new.self.size_is;
      pins = unpinned _ _ _ _ there.0 there.1 now c.place.new.self.pins;
    }
