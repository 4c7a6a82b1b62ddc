use Rattle.std.proofs.Common.{rules, arith}
use Rattle.vault_disk.proofs.Moments.{same_on}
use Rattle.vault_disk.proofs.ReadOn.{filled_on, within_part, looked_on}
use Rattle.vault_disk.proofs.whole.read_fully.Goals as goal

pub loop-filled-preserved : goal.loop-filled-preserved
loop-filled-preserved g c =
    let i = c.loop-filled.invariant in
    record {
      within = within_part _ _ _ _ c.read.new.into (omega arith) c.in_ok-count.ensures.bound;
      fits = omega (arith, c.in_ok-count.ensures.fits);
      same = same_on i.same c.read.ensures.same;
      read = λ told. filled_on _ _ c.loop-filled.into c.read.new.into _ _ c.in_ok-count.count _ _ ((i.looked told).rests.seen c.args.file) (search rules) (search rules)
          c.in_ok-count.ensures.bound (i.read told) (c.in_ok-count.ensures.bytes (i.same.tells told));
      looked = λ told. looked_on _ _ _ (i.looked told) (c.read.ensures.looked (i.same.tells told)) i.same c.read.ensures.same;
    }
