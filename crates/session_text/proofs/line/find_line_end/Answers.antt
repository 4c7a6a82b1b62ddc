use Rattle.session_text.proofs.Common.{◌∙◌, ap, List, ℕ, position, is_line_feed}
use Rattle.session_text.proofs.Lines.{front_is}
use Rattle.session_text.proofs.line.find_line_end.Goals as goal

pub returns-clause-end : goal.returns-clause-end
returns-clause-end c = c.find_line_feed.ensures.place ∙ ap (λ (l : List ℕ). position is_line_feed l) (front_is _ _ _ c.min.ensures)
