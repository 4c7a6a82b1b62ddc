use Rattle.image_catalogue.proofs.Common.{refl}
use Rattle.image_catalogue.proofs.CountLemmas.{raised, pushed_as, first_as, sum_of}
use Rattle.image_catalogue.proofs.unit_bytes.raise.Goals as goal

pub returns-in_ok-entry-in-Some : goal.returns-in_ok-entry-in-Some
returns-in_ok-entry-in-Some c =
    raised c.args.entries.now.items c.args.unit.now c.in-Some.at c.index_mut-entry.result.now (record { unit = c.index_mut-entry.result.now.unit; bytes = c.in_ok-entry-in-Some.field-0 }) c.args.size
    (first_as c.args.entries.now.items c.deref.result.now c.args.unit.now c.in-Some.at c.deref.ensures.value c.in-Some.ensures)
    c.index_mut-entry.ensures.value refl
    (sum_of c.checked_add.result _ _ c.in_ok-entry-in-Some.field-0 c.checked_add.ensures c.in_ok-entry-in-Some.ensures.ok_part)

pub returns-in_ok-push-in-None : goal.returns-in_ok-push-in-None
returns-in_ok-push-in-None c =
    pushed_as c.args.entries.now.items c.deref.result.now c.push.new.self.items c.args.unit.now c.in_ok-copy-in-None.field-0 c.args.size
    c.deref.ensures.value c.in-None.ensures c.in_ok-copy-in-None.ensures c.in_ok-push-in-None.ensures.items
