use Rattle.std.proofs.Common.{◌≡◌, take, map}
use Rattle.site_types.specs.Lines.{line_of}
use Rattle.desk_index.proofs.load.lines_of.Given as goal

abbrev pub invariant-loop-request : goal.invariant-loop-request
invariant-loop-request l = l.lines.items ≡ map line_of (take l.request-index l.requests)
