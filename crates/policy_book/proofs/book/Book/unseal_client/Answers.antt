use Rattle.std.proofs.Common.{rules}
use Rattle.policy_book.proofs.TakenBack.{taken_back}
use Rattle.policy_book.proofs.book.Book.unseal_client.Goals as goal

pub returns-in-None-clause-back : goal.returns-in-None-clause-back
returns-in-None-clause-back c = taken_back c.self.inside c.args.self.now _ c.args.client.now c.args.last c.self.view_is c.self.invariant.clients (search rules)

pub returns-in-Some-clause-back : goal.returns-in-Some-clause-back
returns-in-Some-clause-back c = taken_back c.self.inside c.args.self.now _ c.args.client.now c.args.last c.self.view_is c.self.invariant.clients (search rules)
