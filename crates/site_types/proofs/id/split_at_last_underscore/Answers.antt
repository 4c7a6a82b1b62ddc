use Rattle.site_types.proofs.Common.{rules, arith, ◌≡◌, ◌<◌, ◌-◌, ◌+◌, ℕ, length, take, drop, ap, sym, ◌∙◌}
use Rattle.std.proofs.lemmas.List.{take_rest}
use Rattle.site_types.proofs.IdLemmas.{behind_last, without_one}
use Rattle.site_types.proofs.id.split_at_last_underscore.Goals as goal

pub returns-in-Some : goal.returns-in-Some
returns-in-Some c =
    let bytes = c.args.bytes.now in
    let at : c.in-Some.at < length bytes = search rules in
    let behind = behind_last bytes c.in-Some.at at (search rules) (search rules) in
    record {
      before = ap (λ (n : ℕ). take n bytes) (omega (arith, behind, at));
      behind = take_rest bytes (c.in-Some.at + 1) ∙ ap (λ (n : ℕ). drop n bytes) (omega (arith, behind, at));
    }

pub returns-in-None : goal.returns-in-None
returns-in-None c =
    let bytes = c.args.bytes.now in
    let none = without_one bytes (search rules) in
    record {
      before = sym (ap (λ (n : ℕ). take n bytes) (let z : length bytes - length bytes - 1 ≡ 0 = omega arith in ap (λ (n : ℕ). length bytes - n - 1) none ∙ z));
      behind = sym (ap (λ (n : ℕ). drop n bytes) (let z : length bytes - length bytes ≡ 0 = omega arith in ap (λ (n : ℕ). length bytes - n) none ∙ z));
    }
