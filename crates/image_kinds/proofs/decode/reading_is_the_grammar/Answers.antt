use Rattle.image_kinds.proofs.Common.{spelled_stream, IsStream, IsBad, ◌≡◌, MatchResult-at_ok, MatchResult-at_err}
use Rattle.image_kinds.proofs.Readings.{Spells, reading_law, stream_law, stream_again, image_again}
use Rattle.image_kinds.specs.declared.format.Format.TheVariants as format
use Rattle.image_kinds.proofs.decode.reading_is_the_grammar.Goals as goal

pub returns : goal.returns
returns c = record {
  stream_read = λ bytes s fits is. MatchResult-at_ok (λ t. IsStream t × (bytes ≡ spelled_stream t)) (IsBad format.Stream bytes) s is (stream_law bytes fits);
  stream_bad = λ bytes n fits is. MatchResult-at_err (λ t. IsStream t × (bytes ≡ spelled_stream t)) (IsBad format.Stream bytes) n is (stream_law bytes fits);
  stream_again = stream_again;
  image_read = λ bytes i fits is. MatchResult-at_ok (Spells format.Image bytes) (IsBad format.Image bytes) i is (reading_law format.Image bytes fits);
  image_bad = λ bytes n fits is. MatchResult-at_err (Spells format.Image bytes) (IsBad format.Image bytes) n is (reading_law format.Image bytes fits);
  image_again = image_again;
}
