use Rattle.policy_book.proofs.Common.{◌≡◌}
use Rattle.policy_book.proofs.site_file.add_parts.Goals as goal

pub returns : goal.returns
returns c =
    let policy : c.bytes.result.now ≡ c.in_ok-policy.policy = cc in
    rw (c.in_ok-policy.ensures) (rw policy at c.add_parts_of.ensures)
