use Rattle.session_text.proofs.Common.{rules, ◌≡◌, ◌++◌, ℕ, List, IsCut}
use Rattle.session_text.proofs.InTurn.{is_next, is_whole, is_in_turn}
use Rattle.session_text.proofs.session.SessionText.next.Goals as goal

pub returns : goal.returns
returns g c =
    let text : List ℕ = c.args.self.now ++ (g.S.Source.input c.args.source.now).left in
    let held : List ℕ = c.take_next.new.ahead ++ c.take_next.new.stalled.items in
    let left : List ℕ = (g.S.Source.input c.take_next.new.source).left in
    let appended : c.append.new.self ≡ c.self.inside.ahead ++ c.self.inside.stalled.items = search rules in
    let cut : (g.S.Source.input c.args.source.now).tells → IsCut text c.take_next.result held left = λ told. rw (appended, c.self.view_is) at (c.take_next.ensures.cut told) in
    record {
      next = λ told. is_next text held left c.take_next.result (cut told);
      whole = λ told. is_whole text held left c.take_next.result (cut told);
      turns = λ told. is_in_turn text held left c.take_next.result (cut told);
      short = search rules;
      same = search rules;
      failed = search rules;
    }
