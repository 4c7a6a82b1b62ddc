use Rattle.std.proofs.Common.{◌≡◌, ◌+◌, ℕ, Some, set, None, refl, sym, ◌∙◌, ap, subst}
use Rattle.std.specs.Prelude.{slice_index}
use Rattle.std.proofs.lemmas.List.{get_or_read}
use Rattle.segment_pool.specs.Index.{IsIndex, bits_of}
use Rattle.segment_pool.proofs.Links.{next_place, now_free, place_within, within_bits}
use Rattle.segment_pool.proofs.index.Index.free.Goals as goal

pub invariant_of-self : goal.invariant_of-self
invariant_of-self c =
    let inside = c.args.self.now in
    let t = inside.slots.items in
    let links = inside.links.items in
    let s = c.args.slot in
    let place = c.seek-place.result in
    let seek = c.seek-place.ensures in
    let was : bits_of t s ≡ Some c.bits_in.result = c.requires ∙ ap (λ (k : ℕ). Some k) (sym c.bits_in.ensures.bits) in
    let within = place_within t links inside.indexed c.bits_in.result (262144 + s) (next_place t c.bits_in.result s was) in
    let read = get_or_read links (262144 + s) c.index.result.now within c.index.ensures 0 in
    record {
      indexed = subst (λ (k : ℕ). IsIndex (set t s None) (set links place k)) (sym read)
          (now_free t links inside.indexed s c.bits_in.result place (slice_index links place) seek.place (within_bits t s c.bits_in.result was) seek.bound refl seek.link was);
    }
