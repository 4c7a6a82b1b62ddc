use Rattle.std.proofs.Common.{◌≡◌, ◌∙◌, ℕ, List, ◌++◌, length, sym, ap, subst, arith}
use Rattle.copy_fragments.specs.PlacingSteps.{ArePinned}
use Rattle.copy_fragments.proofs.Pinning.{are_pinned}
use Rattle.vault_ledger.proofs.Kept.{counts_pinned}
use Rattle.vault_ledger.proofs.PlacedPieces.{stored_fit, stored_spell, stored_true}
use Rattle.vault_ledger.proofs.sealing.store_pieces.Goals as goal

pub keep_pieces-requires-clause-pinned : goal.keep_pieces-requires-clause-pinned
keep_pieces-requires-clause-pinned g c =
    let placed = c.in_ok-place.ensures.pinned in
    let slots_are : c.deref.result.now ≡ placed.0 = c.deref.ensures.value ∙ placed.1 ∙ ap (λ (l : List ℕ). l ++ placed.0) c.new-slots.ensures.items in
    subst (λ (l : List ℕ). ArePinned c.place.new.pool l) (sym slots_are) (are_pinned c.args.pool.now c.place.new.pool placed.0 placed.2)

pub keep_pieces-requires-clause-few : goal.keep_pieces-requires-clause-few
keep_pieces-requires-clause-few g c slot =
    let placed = c.in_ok-place.ensures.pinned in
    let slots_are : c.deref.result.now ≡ placed.0 = c.deref.ensures.value ∙ placed.1 ∙ ap (λ (l : List ℕ). l ++ placed.0) c.new-slots.ensures.items in
    let fit = counts_pinned c.args.pool.now c.place.new.pool placed.0 _ placed.2 c.requires.counts slot in
    omega (arith, fit, placed.3, ap (λ (l : List ℕ). length l) slots_are)

pub returns-clause-fit : goal.returns-clause-fit
returns-clause-fit g c = λ known named some holds.
    let placed = c.in_ok-place.ensures.pinned in
    let items : c.place.new.slots.items ≡ placed.0 = placed.1 ∙ ap (λ (l : List ℕ). l ++ placed.0) c.new-slots.ensures.items in
    stored_fit c.args.pool.now c.place.new.pool c.keep_pieces.new.pool c.keep_pieces.new.added.items placed.0 c.deref.result.now (c.deref.ensures.value ∙ items) placed.2 known named holds
    (c.keep_pieces.ensures.kept c.args.pool.now known named holds) (c.keep_pieces.ensures.fits c.args.pool.now known named holds)
    c.args.cut.now.bytes c.args.cut.now.size c.requires.size some (c.in_ok-place.ensures.fit placed.0 placed.1) placed.3 c.in_ok-place.ensures.few (c.keep_pieces.ensures.order c.args.pool.now known named holds) c.place.new.slots.items items

pub returns-clause-spells : goal.returns-clause-spells
returns-clause-spells g c = λ told some.
    let placed = c.in_ok-place.ensures.pinned in
    let items : c.place.new.slots.items ≡ placed.0 = placed.1 ∙ ap (λ (l : List ℕ). l ++ placed.0) c.new-slots.ensures.items in
    stored_spell c.args.pool.now c.place.new.pool (g.V.Vault.disk c.place.new.vault).seen placed.0 c.args.cut.now.bytes c.args.cut.now.size c.requires.size some placed.2 placed.3 (c.in_ok-place.ensures.placed told placed.0 placed.1) c.place.new.slots.items items

pub returns-clause-stays_true : goal.returns-clause-stays_true
returns-clause-stays_true g c = λ known named told holds is_true.
    let placed = c.in_ok-place.ensures.pinned in
    let items : c.place.new.slots.items ≡ placed.0 = placed.1 ∙ ap (λ (l : List ℕ). l ++ placed.0) c.new-slots.ensures.items in
    stored_true c.args.pool.now c.place.new.pool c.keep_pieces.new.pool c.keep_pieces.new.added.items placed.0 c.deref.result.now (c.deref.ensures.value ∙ items) placed.2 known named holds
    (c.keep_pieces.ensures.kept c.args.pool.now known named holds) (c.keep_pieces.ensures.fits c.args.pool.now known named holds)
    (g.V.Vault.disk c.place.new.vault).seen c.keep_pieces.ensures.same.file c.keep_pieces.ensures.same.size (c.in_ok-place.ensures.stays_true told is_true)
