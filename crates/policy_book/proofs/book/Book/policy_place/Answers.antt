use Rattle.policy_book.proofs.Common.{policy_name, named_if}
use Rattle.policy_book.proofs.book.Book.policy_place.Goals as goal

pub returns-clause-named : goal.returns-clause-named
returns-clause-named c =
    rw (← c.self.view_is) (named_if policy_name c.self.inside.policies.items c.deref.result.now c.args.name.now c.known_place.result c.self.invariant.policies c.deref.ensures.value c.known_place.ensures.place)
