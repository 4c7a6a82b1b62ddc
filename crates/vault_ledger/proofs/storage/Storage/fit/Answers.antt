use Rattle.std.proofs.Common.{◌∙◌, ap, arith, length, sym, take}
use Rattle.vault_ledger.specs.Storage.{StorageState}
use Rattle.vault_ledger.proofs.FittedPools.{below, fitted, fitting_next, fitting_none, slots_sized}
use Rattle.vault_ledger.proofs.storage.Storage.fit.Goals as goal

pub loop-unit-init : goal.loop-unit-init
loop-unit-init c = record {
  pools = fitting_none _ _ c.requires.there _ (c.truncate.ensures.items ∙ (λ i. take (length (c.units-units.ensures.units i)) (c.self.view_is i).pools));
  copies = ap (λ (s : StorageState). s.copies) c.self.view_is;
}

pub index_mut-requires : goal.index_mut-requires
index_mut-requires c =
    let within = rw c.units-units.ensures.units at c.loop-unit-test.true in
    let is = rw c.units-units.ensures.units at c.unit-item.is in
    let under = below _ _ c.requires.there _ (_, within, sym is) in
    omega (arith, under, c.loop-unit.invariant.pools.count, c.loop-unit.self-inside.pools.ok)

pub set_slots-requires-clause-some : goal.set_slots-requires-clause-some
set_slots-requires-clause-some c =
    let within = rw c.units-units.ensures.units at c.loop-unit-test.true in
    let is = rw c.units-units.ensures.units at c.unit-item.is in
    (slots_sized _ _ c.requires.there _ (_, within, sym is)).0

pub set_slots-requires-clause-few : goal.set_slots-requires-clause-few
set_slots-requires-clause-few c =
    let within = rw c.units-units.ensures.units at c.loop-unit-test.true in
    let is = rw c.units-units.ensures.units at c.unit-item.is in
    (slots_sized _ _ c.requires.there _ (_, within, sym is)).1

pub loop-unit-preserved : goal.loop-unit-preserved
loop-unit-preserved c =
    let within = rw c.units-units.ensures.units at c.loop-unit-test.true in
    let is = rw c.units-units.ensures.units at c.unit-item.is in
    record {
      pools = rw c.set_slots.ensures (fitting_next _ _ c.requires.there _ _ _ _ within is c.index_mut.ensures.value c.loop-unit.invariant.pools);
      copies = c.loop-unit.invariant.copies;
    }

pub returns-clause-pools : goal.returns-clause-pools
returns-clause-pools c = λ l order same have. fitted _ _ (l, order, same, have) _ _ (rw c.units-units.ensures.units at c.loop-unit-test.false) c.loop-unit.invariant.pools
