use Rattle.std.proofs.Common.{◌∙◌, ap}
use Rattle.std.specs.BTreeMap.Range.{entries_between}
use Rattle.std.specs.Map.{values_of}
use Rattle.std.specs.Ordering.{is_gt}
use Rattle.std.specs.Prelude.{reverse}
use Rattle.std.specs.declared.ops.Bound.TheVariants.{Included}
use Rattle.image_catalogue.specs.Images.{latest_first}
use Rattle.image_catalogue.proofs.ClientLemmas.{forward, id_at, of_client}
use Rattle.image_catalogue.proofs.EntryLemmas.{id_cmp}
use Rattle.image_catalogue.proofs.catalogue.Catalogue.latest_first.Goals as goal

pub range-requires : goal.range-requires
range-requires c =
    (λ j. is_gt (id_cmp (id_at (c.in_ok-copy.ensures j) 0) (id_at (c.in_ok-copy-2.ensures j) c.args.moment)))
    ∙ forward c.args.client.now c.args.moment

pub returns : goal.returns
returns c =
    let images = c.self.inside.images.entries in
    let moment = c.args.moment in
    c.new.ensures
    ∙ ap (λ es. reverse (values_of es)) (c.range.ensures.between tt ∙ (λ j. entries_between id_cmp (Included (id_at (c.in_ok-copy.ensures j) 0)) (Included (id_at (c.in_ok-copy-2.ensures j) moment)) images))
    ∙ ap reverse (of_client c.args.client.now moment images c.self.invariant.0)
    ∙ ap (latest_first c.args.client.now moment) c.self.view_is
