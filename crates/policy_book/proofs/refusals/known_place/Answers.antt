use Rattle.policy_book.proofs.Common.{ap, not, has, has_at, lacks_at}
use Rattle.policy_book.specs.declared.fault.BookFault.TheVariants.{Unknown}
use Rattle.policy_book.proofs.RefusalLemmas.{passes, refuses}
use Rattle.policy_book.proofs.refusals.known_place.Goals as goal

pub returns-in-Ok-clause-allows : goal.returns-in-Ok-clause-allows
returns-in-Ok-clause-allows g c =
    passes (not (has g.T.Named.name_of c.args.name.now c.args.list.now)) (Unknown c.args.name.now) c.in-Ok.at
    (ap not (has_at g.T.Named.name_of c.args.list.now c.args.name.now c.in-Ok.at c.requires c.in-Ok.ensures))

pub returns-in_ok-new-in-Err-clause-allows : goal.returns-in_ok-new-in-Err-clause-allows
returns-in_ok-new-in-Err-clause-allows g c =
    refuses (not (has g.T.Named.name_of c.args.name.now c.args.list.now)) (Unknown c.args.name.now) (Unknown c.in_ok-new-in-Err.field-0)
    (ap not (lacks_at g.T.Named.name_of c.args.list.now c.args.name.now c.in-Err.field-0 c.in-Err.ensures))
    (cc (c.in_ok-new-in-Err.ensures, c.bytes.ensures.bytes))
