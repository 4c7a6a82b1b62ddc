use Rattle.image_kinds.proofs.Common.{◌∙◌, sym}
use Rattle.image_kinds.proofs.Values.{stream_of, spelled_of}
use Rattle.image_kinds.proofs.decode.read_stream.Goals as goal

pub new-requires : goal.new-requires
new-requires c = rw c.in_ok-entries_in.ensures (stream_of c.in_ok-items.items.items c.in_ok-items.ensures.found.0)

pub returns-clause-found : goal.returns-clause-found
returns-clause-found c =
    rw (c.new.ensures, c.in_ok-entries_in.ensures) (stream_of c.in_ok-items.items.items c.in_ok-items.ensures.found.0, c.in_ok-items.ensures.found.1 ∙ sym (spelled_of c.in_ok-items.items.items c.in_ok-items.ensures.found.0))
