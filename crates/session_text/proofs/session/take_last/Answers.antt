use Rattle.session_text.proofs.Common.{rules, arith, ◌<◌, ◌∙◌, length, ap, drop_all}
use Rattle.std.proofs.lemmas.Bool.Decides.{nat_tests}
use Rattle.session_text.proofs.Wholes.{last_request, last_cut, last_bad}
use Rattle.session_text.proofs.session.take_last.Goals as goal

pub returns-in-Ok-clause-last : goal.returns-in-Ok-clause-last
returns-in-Ok-clause-last c =
    let some : 0 < length c.args.ahead.now = grind (arith, nat_tests) in
    let (words, sized, index) = c.in-Ok.ensures.read in (
      last_request c.args.ahead.now c.bytes-bytes.result.now c.from_vec.result c.in-Ok.line.words c.in-Ok.line.size c.bytes-bytes.ensures some c.requires.no_end words sized c.if-read_line-eq0.true (c.from_vec.ensures ∙ c.new.ensures.items),
      c.skip.ensures ∙ drop_all (length c.bytes.result.now) c.args.ahead.now (omega (arith, ap length c.bytes.ensures)),
    )

pub returns-in-Ok-2-clause-last : goal.returns-in-Ok-2-clause-last
returns-in-Ok-2-clause-last c =
    let some : 0 < length c.args.ahead.now = grind (arith, nat_tests) in
    let (words, sized, index) = c.in-Ok.ensures.read in (
      last_cut c.args.ahead.now c.bytes-bytes.result.now c.in-Ok.line.size c.in-Ok.line.index c.bytes-bytes.ensures some c.requires.no_end sized c.if-read_line-eq0.false index,
      search rules,
    )

pub returns-in-Err-Bad-clause-last : goal.returns-in-Err-Bad-clause-last
returns-in-Err-Bad-clause-last c =
    let some : 0 < length c.args.ahead.now = grind (arith, nat_tests) in
    let (sized, index) = rw c.in-Err-Bad.field-0-is at c.in-Err-Bad.ensures.read in (
      last_bad c.args.ahead.now c.bytes-bytes.result.now _ c.bytes-bytes.ensures some c.requires.no_end sized (c.in-Err-Bad.index-is ∙ index),
      search rules,
    )
