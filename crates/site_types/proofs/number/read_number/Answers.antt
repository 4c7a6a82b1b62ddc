use Rattle.site_types.proofs.Common.{rules, arith, ◌≡◌, ◌∙◌, sym, ap, true, bytes_eq-Decides, decimal, bytes_eq}
use Rattle.std.proofs.lemmas.Fmt.{parse-decimal}
use Rattle.site_types.proofs.NumberLemmas.{number_up_to-decimal, number_up_to-none, IsUtf8-decimal}
use Rattle.site_types.proofs.number.read_number.Goals as goal
use Rattle.site_types.proofs.number.read_number.Goals.{else-number-limit-via-then-number-limit+else-is_decimal_of, else-number-limit-via-else-number-limit}

pub returns-in_default : goal.returns-in_default
returns-in_default c = number_up_to-none c.args.limit c.args.digits.now (search rules) (λ n small le is. c.in_default.ensures.cases.0 (IsUtf8-decimal n _ small is))

pub returns-in_default-parse : goal.returns-in_default-parse
returns-in_default-parse c = number_up_to-none c.args.limit c.args.digits.now (search rules) (λ n small le is. c.in_default-parse.not-Ok n (parse-decimal 64 n c.in-Ok.text.now _ small small (c.in-Ok.ensures.cases.0 ∙ is) c.parse.ensures.value.0))

pub returns : goal.returns
returns c = number_up_to-none c.args.limit c.args.digits.now (search rules) (λ n small le is.
    let parsed = parse-decimal 64 n c.in-Ok.text.now _ small small (c.in-Ok.ensures.cases.0 ∙ is) c.parse.ensures.value.0 in
    let same : c.in-Ok-parse.number ≡ n = cc (parsed, c.in-Ok-parse.is) in
    elim c.else-number-limit.branch [
      | else-number-limit-via-then-number-limit+else-is_decimal_of w ↦
          let written : bytes_eq c.args.digits.now (decimal c.in-Ok-parse.number) ≡ true = (bytes_eq-Decides c.args.digits.now (decimal c.in-Ok-parse.number)).1 (is ∙ ap decimal (sym same)) in
          cc (written, w.is_decimal_of.ensures, w.if-is_decimal_of.false)
      | else-number-limit-via-else-number-limit w ↦ absurd (omega (arith, same, w.if-number-limit.false))
    ])

pub returns-then-is_decimal_of : goal.returns-then-is_decimal_of
returns-then-is_decimal_of c =
    let written : bytes_eq c.args.digits.now (decimal c.in-Ok-parse.number) ≡ true = cc (c.is_decimal_of.ensures, c.if-is_decimal_of.true) in
    sym (number_up_to-decimal c.args.limit c.in-Ok-parse.number c.args.digits.now (search rules) (search rules) ((bytes_eq-Decides c.args.digits.now (decimal c.in-Ok-parse.number)).0 written))
