use Rattle.site_types.proofs.Common.{◌≡◌, ◌∙◌, sym, ap, rules, true, ℕ, list_all}
use Rattle.std.specs.Prelude.{Result}
use Rattle.std.specs.Char.{is_ascii_digit}
use Rattle.std.specs.Result.{result_ok}
use Rattle.site_types.proofs.DigitLemmas.{IsUtf8-digits, digits-parsed, digits_of-digits}
use Rattle.site_types.proofs.digits.read_digits.Goals as goal

pub returns-in_err-ok : goal.returns-in_err-ok
returns-in_err-ok c =
    let digits : list_all is_ascii_digit c.args.text.now ≡ true = search rules in
    search (rules, IsUtf8-digits c.args.text.now digits)

pub returns : goal.returns
returns c =
    let digits : list_all is_ascii_digit c.args.text.now ≡ true = search rules in
    let same : c.in_ok-ok.field-0.now ≡ c.args.text.now = search rules in
    let parsed = digits-parsed c.args.text.now c.parse.result (rw same at c.parse.ensures.value.0) digits c.requires.some c.requires.few in
    c.ok-2.ensures.value ∙ ap (λ (r : Result ℕ _). result_ok r) parsed ∙ sym (digits_of-digits c.args.text.now digits)
