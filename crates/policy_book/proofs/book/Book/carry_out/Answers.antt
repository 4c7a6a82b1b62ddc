use Rattle.policy_book.proofs.Common.{◌≡◌, ◌∙◌, List, ap, sym, refl, subst, Book, unit_name, unit_with, unit_changed, changed_in_place, stands_as}
use Rattle.site_types.specs.declared.unit.Unit.{Unit as StorageUnit}
use Rattle.policy_book.specs.declared.staged.StagedChange.{StagedChange}
use Rattle.policy_book.specs.Staged.{policy_after, staged_after, IsReady}
use Rattle.policy_book.proofs.BookLemmas.{seen, policy_in_place}
use Rattle.policy_book.proofs.book.Book.carry_out.Goals as goal

pub returns-in-ChangeUnit-clause-after : goal.returns-in-ChangeUnit-clause-after
returns-in-ChangeUnit-clause-after c =
    let items = c.self.inside.units.items in
    let now = c.args.self.now in
    let it = c.in-ChangeUnit in
    let name = it.name.now in
    let listed : now.units ≡ items = ap (λ (b : Book). b.units) (sym c.self.view_is) in
    ap (λ (units : List StorageUnit). record (seen c.self.inside) { units = units })
    (changed_in_place unit_name items name (unit_with it.change) it.at c.index_mut.result.now c.change_unit.new.unit c.self.invariant.units
    (stands_as unit_name items now.units name name it.at listed refl (subst (IsReady now) it.is c.requires)) c.index_mut.ensures.value c.change_unit.ensures)
    ∙ ap (unit_changed name it.change) c.self.view_is
    ∙ ap (λ (change : StagedChange). staged_after change now) (sym it.is)

pub returns-in_ok-change-in-ChangePolicy-clause-after : goal.returns-in_ok-change-in-ChangePolicy-clause-after
returns-in_ok-change-in-ChangePolicy-clause-after c =
    let now = c.args.self.now in
    let it = c.in-ChangePolicy in
    policy_in_place c.self.inside now it.policy.now (policy_after it.change) it.at c.index_mut-in-ChangePolicy.result.now c.change.new.self c.self.view_is c.self.invariant.policies (subst (IsReady now) it.is c.requires) c.index_mut-in-ChangePolicy.ensures.value c.in_ok-change-in-ChangePolicy.ensures.after
    ∙ ap (λ (change : StagedChange). staged_after change now) (sym it.is)
