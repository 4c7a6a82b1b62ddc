use Rattle.session_text.proofs.Common.{◌≡◌, refl, ◌∙◌, ap, sym, take, append-nil, payload_size, last_index, words_of, words_before, without_return}
use Rattle.session_text.proofs.Wholes.{breaks_word}
use Rattle.session_text.proofs.session.take_request.Goals as goal

pub returns-in-Err-Bad-clause-cut : goal.returns-in-Err-Bad-clause-cut
returns-in-Err-Bad-clause-cut g c told =
    let (bad, index) = rw c.in-Err-Bad.field-0-is at c.in-Err-Bad.ensures.read in
    let cut : c.cut_return.result.now ≡ without_return (take c.args.end c.args.ahead.now) = rw c.bytes.ensures at c.cut_return.ensures in
    let words : words_of c.cut_return.result.now ≡ words_before c.args.end c.args.ahead.now = ap words_of cut in
    let bad_here = ap payload_size (sym words) ∙ bad in
    let index_is = c.in-Err-Bad.index-is ∙ index ∙ ap last_index words in (
      rw (c.requires.new, append-nil c.args.ahead.now) refl,
      breaks_word c.args.ahead.now _ c.args.end _ c.requires.ends bad_here index_is,
      breaks_word c.args.ahead.now _ c.args.end _ c.requires.ends bad_here index_is,
    )
