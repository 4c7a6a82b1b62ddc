use Rattle.site_types.proofs.Common.{◌≡◌, map, drop, list_any, bytes_eq, row_stated}
use Rattle.site_types.proofs.forms.is_first.Given as goal

abbrev pub invariant-loop-row : goal.invariant-loop-row
invariant-loop-row l = list_any (λ f. bytes_eq f.first l.word) (map row_stated (drop l.row-index l.rows)) ≡ list_any (λ f. bytes_eq f.first l.word) (map row_stated l.rows)
