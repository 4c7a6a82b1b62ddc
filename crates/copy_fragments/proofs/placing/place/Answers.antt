use Rattle.std.proofs.Common.{◌≡◌, ℕ, ◌++◌, List, sym, ◌∙◌, subst}
use Rattle.std.proofs.lemmas.List.{append_cancel_left}
use Rattle.segment_pool.specs.Pieces.{pieces}
use Rattle.copy_fragments.specs.Copies.{IsPlaced}
use Rattle.copy_fragments.specs.Placings.{FitPieces, copy_in}
use Rattle.copy_fragments.specs.PlacingSteps.{ArePinned, UnpinnedEach}
use Rattle.copy_fragments.proofs.Answered.{all_placed, holds_more, ok_there}
use Rattle.copy_fragments.proofs.Pinning.{are_pinned, as_before, sound_before}
use Rattle.copy_fragments.proofs.placing.place.Goals as goal

pub unpin_each-requires : goal.unpin_each-requires
unpin_each-requires g c = subst (λ (l : List ℕ). ArePinned c.place_each.new.pool l) (sym c.deref.ensures.value)
    (are_pinned c.args.pool.now c.place_each.new.pool c.place_each.new.placed.items (c.place_each.ensures.slots c.args.pool.now c.take_memory.ensures.pool).pinned)

pub returns-in-Err-clause-refused : goal.returns-in-Err-clause-refused
returns-in-Err-clause-refused g c =
    let far = c.place_each.ensures.slots c.args.pool.now c.take_memory.ensures.pool in (
      as_before c.args.pool.now c.place_each.new.pool c.unpin_each.new.pool c.place_each.new.placed.items (sound_before c.args.pool.now c.take_memory.new.pool c.take_memory.ensures.pool c.in_ok-placed.ensures.sound) far.pinned
          (subst (λ (l : List ℕ). UnpinnedEach c.place_each.new.pool c.unpin_each.new.pool l) c.deref.ensures.value c.unpin_each.ensures) far.beside,
      c.take_memory.ensures.slots,
    )

pub returns-in-Err-clause-seen_refused : goal.returns-in-Err-clause-seen_refused
returns-in-Err-clause-seen_refused g c = λ told. c.in-Err.ensures.seen_refused told c.args.pool.now c.take_memory.ensures.pool

pub returns-clause-fit : goal.returns-clause-fit
returns-clause-fit g c = λ placed is.
    let items : c.extend_from_slice.new.self.items ≡ c.args.slots.now.items ++ c.place_each.new.placed.items =
    c.in-Ok.ensures.items ∙ (λ i. c.take_memory.ensures.slots i ++ c.deref-2.ensures.value i) in
    let same : c.place_each.new.placed.items ≡ placed = append_cancel_left c.args.slots.now.items c.place_each.new.placed.items placed (sym items ∙ is) in
    subst (λ (l : List ℕ). FitPieces c.args.pool.now c.place_each.new.pool (pieces c.args.cut.now.size c.args.cut.now.bytes) l) same
    (ok_there c.place_each.result c.in_default.not-Err (c.place_each.ensures.fit c.args.pool.now c.take_memory.ensures.pool))

pub returns-clause-placed : goal.returns-clause-placed
returns-clause-placed g c = λ told placed is.
    let items : c.extend_from_slice.new.self.items ≡ c.args.slots.now.items ++ c.place_each.new.placed.items =
    c.in-Ok.ensures.items ∙ (λ i. c.take_memory.ensures.slots i ++ c.deref-2.ensures.value i) in
    let same : c.place_each.new.placed.items ≡ placed = append_cancel_left c.args.slots.now.items c.place_each.new.placed.items placed (sym items ∙ is) in
    subst (λ (l : List ℕ). IsPlaced g.F.Fingerprint.digest_of c.place_each.new.pool (g.V.Vault.disk c.place_each.new.vault).seen (copy_in l c.args.cut.now) c.args.cut.now.bytes) same
    (all_placed g.F.Fingerprint.digest_of c.args.pool.now c.place_each.new.pool (g.V.Vault.disk c.args.vault.now) (g.V.Vault.disk c.place_each.new.vault) c.args.cut.now c.place_each.new.placed.items
    (ok_there c.place_each.result c.in_default.not-Err (c.place_each.ensures.pieces told c.args.pool.now c.take_memory.ensures.pool)))

pub returns-clause-more : goal.returns-clause-more
returns-clause-more g c = λ told true_pool.
    holds_more g.F.Fingerprint.digest_of c.args.pool.now c.place_each.new.pool (g.V.Vault.disk c.args.vault.now) (g.V.Vault.disk c.place_each.new.vault) c.args.cut.now.size c.args.cut.now.bytes c.place_each.new.placed.items
    (c.place_each.ensures.slots c.args.pool.now c.take_memory.ensures.pool)
    (ok_there c.place_each.result c.in_default.not-Err (c.place_each.ensures.stays_true told c.args.pool.now c.take_memory.ensures.pool true_pool))
    (ok_there c.place_each.result c.in_default.not-Err c.place_each.ensures.all) c.requires.size
