use Rattle.std.proofs.Common.{◌≤◌, ◌∙◌, ℕ, List, length, sym, ap, subst}
use Rattle.image_kinds.specs.Streams.{spelled_image, spelled_stream}
use Rattle.desk_rules.proofs.ContentLemmas.{made_short}
use Rattle.desk_rules.proofs.content.made_content.Goals as goal

pub returns-clause-short : goal.returns-clause-short
returns-clause-short c =
    subst (λ (bytes : List ℕ). length c.in_ok-encode_image.field-0.items ≤ length bytes) (sym c.in_ok-stream.ensures.spelled)
    (subst (λ (bytes : List ℕ). length bytes ≤ length (spelled_stream c.in_ok-stream.stream)) (sym (c.in_ok-encode_image.ensures.spelling ∙ ap spelled_image c.in_ok-image.ensures)) (made_short c.selections.result.now c.base_time.result c.in_ok-stream.stream))
