use Rattle.site_types.proofs.Common.{◌≡◌, map, drop, find, begins, row_stated}
use Rattle.site_types.proofs.forms.row_among.Given as goal

abbrev pub invariant-loop-row : goal.invariant-loop-row
invariant-loop-row l = find (λ f. begins f.first f.second l.words) (map row_stated (drop l.row-index l.rows)) ≡ find (λ f. begins f.first f.second l.words) (map row_stated l.rows)
