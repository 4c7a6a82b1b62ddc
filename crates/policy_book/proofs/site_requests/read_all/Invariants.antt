use Rattle.policy_book.proofs.Common.{◌≡◌, Some, All, drop, changes_site, joined, requests_of}
use Rattle.std.specs.List.{AllPass}
use Rattle.site_types.specs.Lines.{IsFormed}
use Rattle.policy_book.proofs.site_requests.read_all.Given as goal

-- the requests so far before those of the other lines are the requests of them all
abbrev pub invariant-loop-line : goal.invariant-loop-line
invariant-loop-line l = (joined (Some l.requests.items) (requests_of (drop l.line-index l.lines)) ≡ requests_of l.lines) × All IsFormed l.requests.items × AllPass changes_site l.requests.items
