use Rattle.slp_tree.proofs.Common.{rules}
use Rattle.std.proofs.lemmas.Fn.{always_returns_same}
use Rattle.slp_tree.proofs.ListLemmas.{rank, place_of}
use Rattle.slp_tree.proofs.named.place.Goals as goal

-- the closure compares an element's name with the one that is sought
pub returns : goal.returns
returns g c =
    let facts = c.binary_search_by.ensures in
    let name_of = g.T.Named.name_of in
    let found = facts.position (rank name_of c.args.name.now) (always_returns_same _ _ _ (λ a r f called. search rules)) in
    place_of name_of c.args.list.now c.args.name.now c.binary_search_by.result c.requires facts.bound found
