use Rattle.site_types.proofs.Common.{rules}
use Rattle.site_types.proofs.Rereading.{formed_so}
use Rattle.site_types.proofs.request.Request.read.Goals as goal

pub returns-in-Some-clause-formed : goal.returns-in-Some-clause-formed
returns-in-Some-clause-formed c = formed_so c.args.words.now c.read.result (search rules)
