use Rattle.session_text.proofs.Common.{min, refl, arith, ◌≡◌, ◌∙◌, ◌≤◌, ◌+◌, ◌++◌, ℕ, List, length, take, drop, ap, sym, subst, append-nil, BreaksAt}
use Rattle.std.proofs.lemmas.Grind.{common_steps}
use Rattle.session_text.proofs.Wholes.{whole_held, kept_cut, breaks_cut, none_cut}
use Rattle.session_text.proofs.session.take_payload.Goals as goal

pub returns-in-Whole-clause-cut : goal.returns-in-Whole-clause-cut
returns-in-Whole-clause-cut g c told =
    let front : c.in-Ok.payload.items ≡ take c.args.line.size (drop (c.args.end + 1) c.args.ahead.now) = grind (arith, common_steps) in
    let kept : take c.args.line.size (drop (c.args.end + 1) c.args.ahead.now) ++ (g.S.Source.input c.args.source.now).left ≡ c.fill.new.payload.items ++ (g.S.Source.input c.fill.new.source).left = ap (λ (l : List ℕ). l ++ (g.S.Source.input c.args.source.now).left) (sym front) ∙ sym (c.in-Whole.ensures.kept told) in
    whole_held c.args.ahead.now _ _ c.fill.new.payload.items _ _ _ _ c.args.end c.args.line.size c.requires.ends c.requires.size c.in-Whole.ensures.filled kept c.requires.words c.from_vec.ensures
    (c.skip.ensures ∙ ap (λ (n : ℕ). drop n c.args.ahead.now) (c.min.ensures ∙ ap (λ (n : ℕ). min n (c.args.end + 1 + c.args.line.size)) (ap length c.bytes.ensures))) c.requires.new

pub returns-in-Ended-clause-cut : goal.returns-in-Ended-clause-cut
returns-in-Ended-clause-cut g c told =
    let front : c.in-Ok.payload.items ≡ take c.args.line.size (drop (c.args.end + 1) c.args.ahead.now) = grind (arith, common_steps) in
    let kept : take c.args.line.size (drop (c.args.end + 1) c.args.ahead.now) ++ (g.S.Source.input c.args.source.now).left ≡ c.fill.new.payload.items ++ (g.S.Source.input c.fill.new.source).left = ap (λ (l : List ℕ). l ++ (g.S.Source.input c.args.source.now).left) (sym front) ∙ sym (c.in-Ended.ensures.kept told) in
    let grown : length (take c.args.line.size (drop (c.args.end + 1) c.args.ahead.now)) ≤ length c.fill.new.payload.items = omega (arith, ap length front, c.in-Ended.ensures.grown) in
    let all = kept_cut c.args.ahead.now _ _ c.fill.new.payload.items c.args.end c.args.line.size c.in-Ended.ensures.filled grown kept in
    let end = rw (c.in-Ended.ensures.ended told refl, append-nil (take (c.args.end + 1) c.args.ahead.now ++ c.fill.new.payload.items)) at all in
    let breaks = breaks_cut c.args.ahead.now c.fill.new.payload.items c.args.end c.args.line.size c.args.line.index c.requires.ends c.requires.size c.in-Ended.ensures.filled c.requires.index in
    rw c.truncate.ensures (all, subst (λ (l : List ℕ). BreaksAt l c.args.line.index) end breaks, breaks)

pub returns-in-Failed-clause-cut : goal.returns-in-Failed-clause-cut
returns-in-Failed-clause-cut g c told =
    let front : c.in-Ok.payload.items ≡ take c.args.line.size (drop (c.args.end + 1) c.args.ahead.now) = grind (arith, common_steps) in
    let kept : take c.args.line.size (drop (c.args.end + 1) c.args.ahead.now) ++ (g.S.Source.input c.args.source.now).left ≡ c.fill.new.payload.items ++ (g.S.Source.input c.fill.new.source).left = ap (λ (l : List ℕ). l ++ (g.S.Source.input c.args.source.now).left) (sym front) ∙ sym (c.in-Failed.ensures.kept told) in
    let grown : length (take c.args.line.size (drop (c.args.end + 1) c.args.ahead.now)) ≤ length c.fill.new.payload.items = omega (arith, ap length front, c.in-Failed.ensures.grown) in
    rw c.truncate-in-Failed.ensures (
      kept_cut c.args.ahead.now _ _ c.fill.new.payload.items c.args.end c.args.line.size c.in-Failed.ensures.filled grown kept,
      none_cut c.args.ahead.now c.fill.new.payload.items c.args.end c.args.line.size c.requires.ends c.requires.size c.in-Failed.ensures.filled,
    )
