use Rattle.policy_book.proofs.Common.{◌≡◌, ◌∙◌, codes, on_policy}
use Rattle.policy_book.proofs.site_file.add_schedules.Goals as goal

pub returns : goal.returns
returns c =
    let form : c.deref.result.now ≡ on_policy (codes "bpplsched") (codes "add") c.args.policy.now = c.deref.ensures.value ∙ c.in_ok-form.ensures in
    rw (c.in_ok-items_at.ensures) (rw form at c.add_tables.ensures)
