-- A line of settings that is done.
use Rattle.desk_model.proofs.Common.{◌≡◌, true, List, ℕ, refl, ap, Option, Some, None, Result, Ok, Err, is_none, ◌&&◌, bytes_eq, false≢true, and_parts, Request, State, first_refusal, setting_refusals, set_by, is_setting}
use Rattle.std.specs.Result.{result_ok}
use Rattle.site_types.specs.Lines.{line_of, read_line}
use Rattle.site_types.proofs.OptionLemmas.{guarded, chained}
use Rattle.desk_model.proofs.Asking.{Asks, line_asks}
use Rattle.vault_ledger.specs.Fitting.{is_settled, settled_as, settled_by}

pub none_there : {A : Type 0} (o : Option A) → is_none o ≡ true → o ≡ None
none_there None is = refl
none_there (Some x) is = absurd (false≢true is)

read_ok : (line : List ℕ) (r : Request) → result_ok (read_line line) ≡ Some r → read_line line ≡ Ok r
read_ok line r is = at (read_line line) is
  where
    at : (o : Result Request ℕ) → result_ok o ≡ Some r → o ≡ Ok r
    at (Ok x) some = let same : x ≡ r = cc some in ap (λ (y : Request). Ok y) same
    at (Err index) some = absurd (cc some)

-- it asks for a request that nothing refuses, and the state is that after it
pub line_done : (s : State) (line : List ℕ) (t : State) → settled_by s line ≡ Some t → (r : Request) × Asks r × (first_refusal (setting_refusals r s) ≡ None) × (set_by r s ≡ t)
line_done s line t is =
    let asked = chained (settled_as s line) (result_ok (read_line line)) t is in
    let r : Request = asked.0 in
    let done = guarded (is_settled s line r) (Some (set_by r s)) t asked.2 in
    let none = none_there (first_refusal (setting_refusals r s)) (and_parts (is_setting r && bytes_eq (line_of r) line) (is_none (first_refusal (setting_refusals r s))) done.0).1 in
    (r, line_asks line r (read_ok line r asked.1), none, cc done.1)
