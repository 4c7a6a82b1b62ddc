use Rattle.session_text.proofs.Common.{refl, ◌∙◌, ◌++◌, ℕ, List, ap, sym, subst, append-nil, BreaksAt}
use Rattle.session_text.proofs.Wholes.{breaks_long, ended}
use Rattle.session_text.proofs.session.take_next.Goals as goal

pub returns-in-TooLong-clause-cut : goal.returns-in-TooLong-clause-cut
returns-in-TooLong-clause-cut g c told =
    let (none, long) = c.in-TooLong.ensures.sought in
    let kept = sym (c.in-TooLong.ensures.kept told) in (
      ap (λ (l : List ℕ). l ++ (g.S.Source.input c.seek_line.new.source).left) (ap (λ (l : List ℕ). c.seek_line.new.ahead ++ l) c.requires.new ∙ append-nil c.seek_line.new.ahead) ∙ sym kept,
      subst (λ (l : List ℕ). BreaksAt l 0) (sym kept) (breaks_long c.seek_line.new.ahead (g.S.Source.input c.seek_line.new.source).left none long),
      breaks_long c.seek_line.new.ahead c.args.stalled.now.items none long,
    )

pub returns-in-Ended-clause-cut : goal.returns-in-Ended-clause-cut
returns-in-Ended-clause-cut g c told =
    let (none, short) = c.in-Ended.ensures.sought in
    ended _ c.seek_line.new.ahead _ c.take_last.new.ahead _ c.take_last.result (sym (c.in-Ended.ensures.kept told)) (c.in-Ended.ensures.ended told refl) c.requires.new none short c.take_last.ensures.last
