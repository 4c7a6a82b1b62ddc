use Rattle.std.proofs.Common.{◌≡◌, ◌<◌, ◌^◌, length, Some, arith, rules}
use Rattle.std.proofs.Common.{refl, subst, take, drop, ◌-◌, ◌*◌, ℕ, List}
use Rattle.std.specs.Prelude.{slice_get}
use Rattle.std.proofs.lemmas.Option.{slice_get_read}
use Rattle.segment_pool.specs.Pieces.{CutBytes, pieces}
use Rattle.segment_pool.proofs.PieceLemmas.{piece_told, starts_within}
use Rattle.segment_pool.proofs.pieces.Cut.piece.Goals as goal

pub overflow_mul-start : goal.overflow_mul-start
overflow_mul-start g c =
    let inv = c.self.invariant in
    let long : length c.self.inside.bytes.now < 2 ^ 63 = search rules in
    omega (arith, long, starts_within g.F.Fingerprint.digest_of c.self.inside.size c.args.index (length c.self.inside.digests.items) c.self.inside.bytes.now c.self.inside.digests.items inv.0 inv.1 (omega arith) (omega arith))

pub overflow_add-start : goal.overflow_add-start
overflow_add-start g c =
    let inv = c.self.invariant in
    let long : length c.self.inside.bytes.now < 2 ^ 63 = search rules in
    omega (arith, long, starts_within g.F.Fingerprint.digest_of c.self.inside.size c.args.index (length c.self.inside.digests.items) c.self.inside.bytes.now c.self.inside.digests.items inv.0 inv.1 (omega arith) (omega arith))

pub slice_bounds-result-count : goal.slice_bounds-result-count
slice_bounds-result-count g c =
    let inv = c.self.invariant in
    omega (arith, starts_within g.F.Fingerprint.digest_of c.self.inside.size c.args.index (length c.self.inside.digests.items) c.self.inside.bytes.now c.self.inside.digests.items inv.0 inv.1 (omega arith) (omega arith))

pub slice_bounds-result-start : goal.slice_bounds-result-start
slice_bounds-result-start g c =
    let inv = c.self.invariant in
    omega (arith, starts_within g.F.Fingerprint.digest_of c.self.inside.size c.args.index (length c.self.inside.digests.items) c.self.inside.bytes.now c.self.inside.digests.items inv.0 inv.1 (omega arith) (omega arith))

pub returns : goal.returns
returns g c =
    let inside = c.self.inside in
    let inv = c.self.invariant in
    let digests = inside.digests.items in
    let part : List ℕ = take (c.min-end.result - c.args.index * inside.size) (drop (c.args.index * inside.size) inside.bytes.now) in
    let told = piece_told g.F.Fingerprint.digest_of inside.size c.args.index c.min-end.result inside.bytes.now part c.index.result.now digests inv.0 inv.1 (omega arith) c.min-end.ensures refl
    (slice_get_read digests (length digests) c.args.index c.index.result.now refl (omega arith) c.index.ensures) in
    subst (λ (v : CutBytes). (slice_get (pieces v.size v.bytes) c.args.index ≡ Some part) × (c.index.result.now ≡ g.F.Fingerprint.digest_of part)) c.self.view_is told
