use Rattle.site_types.proofs.Common.{rules, is_plus}
use Rattle.std.proofs.Common.{tests}
use Rattle.std.proofs.lemmas.Iterator.Consumers.{map_from_collect}
use Rattle.std.proofs.lemmas.Iterator.Splits.{YieldsList-from_slice_split}
use Rattle.site_types.proofs.joined.parts.Goals as goal

pub returns : goal.returns
returns c = map_from_collect _ c.collect.ensures.ran (YieldsList-from_slice_split _ is_plus c.args.text.now (search rules) (search rules) (search rules) (λ x b q k. search (rules, tests)))
