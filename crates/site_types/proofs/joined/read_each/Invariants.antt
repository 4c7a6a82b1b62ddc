use Rattle.site_types.proofs.Common.{◌≡◌, take, map, each_of}
use Rattle.std.specs.Prelude.{Some}
use Rattle.site_types.proofs.joined.read_each.Given as goal

abbrev pub invariant-loop-text : goal.invariant-loop-text
invariant-loop-text g l = each_of g.T.JoinedItem.spelled (map (λ text. text.now) (take l.text-index l.texts)) ≡ Some l.items.items
