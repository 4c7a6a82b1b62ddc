use Rattle.std.proofs.Common.{◌≡◌, List, Some, None, ◌∙◌, ap}
use Rattle.std.specs.Prelude.{Option}
use Rattle.segment_pool.specs.declared.slot.Slot.{Slot}
use Rattle.segment_pool.specs.Slots.{at_slot}
use Rattle.segment_pool.specs.Index.{bits_of, leading_bits}
use Rattle.segment_pool.proofs.Links.{at-set_same, at-set_other, within_bits}
use Rattle.segment_pool.proofs.Sweeping.{freed_count}
use Rattle.segment_pool.proofs.table.Table.free.Goals as goal

pub invariant_of-self : goal.invariant_of-self
invariant_of-self c =
    let t = c.self.inside.index.slots.items in
    let s = c.args.slot in
    let now = c.free.ensures in
    let was : bits_of t s ≡ Some (leading_bits c.args.digest.now) = ap (λ (l : List (Option Slot)). bits_of l s) c.self.view_is ∙ c.requires in (
      c.free-2.ensures t c.free.new.self.slots.items c.self.invariant.0 (ap (λ (l : List (Option Slot)). at_slot l s) now ∙ at-set_same t s None (within_bits t s _ was))
          (λ u ne. ap (λ (l : List (Option Slot)). at_slot l u) now ∙ at-set_other t s u None ne),
      freed_count t _ c.free.new.self.slots.items s _ c.self.inside.held c.self.view_is c.requires now c.self.invariant.1,
    )
