use Rattle.pool_journal.proofs.Common.{ap, refl, arith, ◌-◌, [], ◌∷◌, ◌++◌, length, Found}
use Rattle.pool_journal.proofs.Bytes.{AllSmall-push}
use Rattle.pool_journal.proofs.Reading.{cons_of, told_found, told_broken, cut_short, spells_none, one_more, one_more_spelled, one_more_placed, behind_header}
use Rattle.pool_journal.proofs.records.read_records.Goals as goal

pub loop-rest-init : goal.loop-rest-init
loop-rest-init c = record {
  bodies = [];
  fs = [];
  is = behind_header c.args.bytes.now c.requires.begins c.requires.long;
  small = tt;
  spell = tt;
  entries = c.new-entries.ensures.items;
  some = omega (arith, ap length (behind_header c.args.bytes.now c.requires.begins c.requires.long), c.requires.long);
}

pub returns-then-gate-clause-told : goal.returns-then-gate-clause-told
returns-then-gate-clause-told c =
    let i = c.loop-rest.invariant in
    told_found _ i.bodies i.fs _ _ i.is i.spell i.small i.entries i.some c.if-gate.true

pub returns-in_default-split_record-clause-told : goal.returns-in_default-split_record-clause-told
returns-in_default-split_record-clause-told c =
    let i = c.loop-rest.invariant in
    told_broken _ i.bodies i.fs _ _ i.is i.spell i.small i.entries i.some c.requires.long (cut_short _ i.some c.if-gate.false c.in_default-split_record.ensures)

pub returns-in-Err-Broken-clause-told : goal.returns-in-Err-Broken-clause-told
returns-in-Err-Broken-clause-told c =
    let i = c.loop-rest.invariant in
    told_broken _ i.bodies i.fs _ _ i.is i.spell i.small i.entries i.some c.requires.long (spells_none _ _ c.in-Some.body.now c.in-Some.next.now (cons_of _ 165 i.some c.if-gate.false) c.in-Some.ensures.0 c.in-Some.ensures.1 (rw c.in-Err-Broken.field-0-is at c.in-Err-Broken.ensures))

pub loop-rest-preserved : goal.loop-rest-preserved
loop-rest-preserved c =
    let i = c.loop-rest.invariant in
    let f : Found = record { at = length c.args.bytes.now - length c.loop-rest.rest.now; is = c.in-Ok.entry } in
    record {
      bodies = i.bodies ++ c.in-Some.body.now ∷ [];
      fs = i.fs ++ f ∷ [];
      is = one_more _ i.bodies c.in-Some.body.now _ _ c.in-Some.next.now i.is (cons_of _ 165 i.some c.if-gate.false) c.in-Some.ensures.0;
      small = AllSmall-push _ _ i.small c.in-Some.ensures.1;
      spell = one_more_spelled _ i.bodies i.fs c.in-Some.body.now _ f i.is i.spell refl c.in-Ok.ensures;
      entries = one_more_placed i.fs f _ _ _ i.entries c.in_ok-push-in-Ok.ensures.items refl;
      some = c.in-Some.ensures.2;
    }
