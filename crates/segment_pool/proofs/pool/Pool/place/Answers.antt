use Rattle.std.proofs.Common.{◌*◌, ◌∙◌, ap}
use Rattle.segment_pool.specs.Slots.{PoolState}
use Rattle.segment_pool.proofs.Changes.{lowest_before}
use Rattle.segment_pool.proofs.Placings.{one_lowest, torn_as, torn_wrote}
use Rattle.segment_pool.proofs.pool.Pool.place.Goals as goal

pub returns-in_err-write_at-clause-left : goal.returns-in_err-write_at-clause-left
returns-in_err-write_at-clause-left g c = λ told slot lowest.
    let old = c.args.self.now in
    let low = lowest_before _ _ _ c.make_room.ensures.same c.lowest_free-slot.ensures.lowest in
    torn_as _ _ _ _ _ _ _ (ap (λ (p : PoolState). p.file) c.self.view_is) (c.start_of.ensures ∙ (λ i. one_lowest old c.lowest_free-slot.result slot low lowest i * (c.self.view_is i).size))
    (torn_wrote _ _ c.args.piece.now _ _ c.write_at.result c.write_at.ensures.same (c.write_at.ensures.wrote told))

pub returns-clause-left : goal.returns-clause-left
returns-clause-left g c = λ told slot lowest.
    let old = c.args.self.now in
    let low = lowest_before _ _ _ c.make_room.ensures.same c.lowest_free-slot.ensures.lowest in
    torn_as _ _ _ _ _ _ _ (ap (λ (p : PoolState). p.file) c.self.view_is) (c.start_of.ensures ∙ (λ i. one_lowest old c.lowest_free-slot.result slot low lowest i * (c.self.view_is i).size))
    (torn_wrote _ _ c.args.piece.now _ _ c.write_at.result c.write_at.ensures.same (c.write_at.ensures.wrote told))
