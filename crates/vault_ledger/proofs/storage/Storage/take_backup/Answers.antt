use Rattle.std.proofs.Common.{◌≡◌, ◌<◌, ◌^◌, arith, length, rules, subst, sym}
use Rattle.pool_journal.specs.declared.segments.Segments.{Segments}
use Rattle.vault_ledger.specs.Fitting.{whole_unit}
use Rattle.vault_ledger.specs.Ledger.{live_on, named_on}
use Rattle.vault_ledger.specs.Storage.{Follows}
use Rattle.vault_ledger.proofs.TakenBackups.{copy_counted, named_room, pool_holds, pool_there, some_fragment, some_segment, taken, untaken}
use Rattle.vault_ledger.proofs.storage.Storage.take_backup.Goals as goal

pub index_mut-pool-requires : goal.index_mut-pool-requires
index_mut-pool-requires c =
    let k = c.requires.known in
    omega (arith, pool_there k.0 _ (subst (Follows k.0) (sym c.self.view_is) k.1) c.args.image.now c.args.unit.now k.2, c.self.inside.pools.ok)

pub take_segments-requires : goal.take_segments-requires
take_segments-requires c =
    let k = c.requires.known in
    let follows = subst (Follows k.0) (sym c.self.view_is) k.1 in
    let unit = whole_unit k.0.outline c.args.image.now in
    let short : length c.as_slice-slots.result.now < 2 ^ 63 = search rules in
    record {
      few = (
        live_on unit k.0.live,
        named_on unit k.0.placements,
        pool_holds k.0 _ follows c.args.image.now c.args.unit.now k.2 _ c.index_mut-pool.ensures.value,
        named_room k.0 _ follows unit (length c.as_slice-slots.result.now) short,
      );
    }

pub returns-then-not-branch : goal.returns-then-not-branch
returns-then-not-branch c = record {
  taken = λ l follows ready.
      let before = subst (Follows l) (sym c.self.view_is) follows in
      let unit = whole_unit l.outline c.args.image.now in
      let is = c.index_mut-pool.ensures.value in
      let given : Segments = record { added = c.as_slice-added.result.now; pieces = c.as_slice-slots.result.now } in
      let are : given ≡ c.args.segments.now = λ i. record { added = c.as_slice-added.ensures i; pieces = c.as_slice-slots.ensures i } in
      untaken l _ before c.args.image.now c.args.unit.now ready _ is c.args.segments.now given are c.in_ok-take_segments.field-0 c.take_segments.new.pool c.args.self.now c.if-not-branch.true
      (c.in_ok-take_segments.ensures.taken (live_on unit l.live) (named_on unit l.placements) (pool_holds l _ before c.args.image.now c.args.unit.now ready _ is));
}

pub add_copy-requires-clause-size : goal.add_copy-requires-clause-size
add_copy-requires-clause-size c = let k = c.requires.known in some_segment k.0 c.args.self.now k.1 c.args.image.now c.args.unit.now k.2

pub add_copy-requires-clause-some : goal.add_copy-requires-clause-some
add_copy-requires-clause-some c = let k = c.requires.known in some_fragment k.0 c.args.self.now k.1 c.args.image.now c.args.unit.now k.2

pub add_copy-requires-clause-pieces : goal.add_copy-requires-clause-pieces
add_copy-requires-clause-pieces c =
    let k = c.requires.known in
    let before = subst (Follows k.0) (sym c.self.view_is) k.1 in
    let unit = whole_unit k.0.outline c.args.image.now in
    let is = c.index_mut-pool.ensures.value in
    let given : Segments = record { added = c.as_slice-added.result.now; pieces = c.as_slice-slots.result.now } in
    let are : given ≡ c.args.segments.now = λ i. record { added = c.as_slice-added.ensures i; pieces = c.as_slice-slots.ensures i } in
    copy_counted k.0 _ before c.args.image.now c.args.unit.now k.2 _ is c.args.segments.now given are c.in_ok-take_segments.field-0 c.take_segments.new.pool c.if-not-branch.false
    (c.in_ok-take_segments.ensures.taken (live_on unit k.0.live) (named_on unit k.0.placements) (pool_holds k.0 _ before c.args.image.now c.args.unit.now k.2 _ is))

pub returns : goal.returns
returns c = record {
  taken = λ l follows ready.
      let before = subst (Follows l) (sym c.self.view_is) follows in
      let unit = whole_unit l.outline c.args.image.now in
      let is = c.index_mut-pool.ensures.value in
      let given : Segments = record { added = c.as_slice-added.result.now; pieces = c.as_slice-slots.result.now } in
      let are : given ≡ c.args.segments.now = λ i. record { added = c.as_slice-added.ensures i; pieces = c.as_slice-slots.ensures i } in
      taken l _ before c.args.image.now c.args.unit.now ready _ is c.args.segments.now given are c.in_ok-take_segments.field-0 c.take_segments.new.pool c.add_copy.new.self c.if-not-branch.false
      (c.in_ok-take_segments.ensures.taken (live_on unit l.live) (named_on unit l.placements) (pool_holds l _ before c.args.image.now c.args.unit.now ready _ is))
      c.in_ok-take_segments.ensures.same c.in_ok-add_copy.ensures.pools c.in_ok-add_copy.ensures.added;
}
