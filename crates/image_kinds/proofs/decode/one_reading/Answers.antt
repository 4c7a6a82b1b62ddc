use Rattle.image_kinds.proofs.Common.{refl, map, Taken, spelled}
use Rattle.image_kinds.proofs.Fronts.{one_value, one_offset, spelled_is_good}
use Rattle.image_kinds.proofs.Values.{same_entries}
use Rattle.image_kinds.specs.declared.format.Format.TheVariants as format
use Rattle.image_kinds.proofs.decode.one_reading.Goals as goal

pub returns : goal.returns
returns c = record {
  stream = λ s t first second same. same_entries s t (one_value format.Stream (map Taken s) (map Taken t) first second same);
  image = λ i j first second same. one_value format.Image i j first second same;
  offset = λ f bytes m n first second. one_offset f bytes m n first second;
  apart = λ f items n are bad. spelled_is_good f (spelled f items) n items bad are refl;
}
