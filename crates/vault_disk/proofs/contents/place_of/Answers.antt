use Rattle.std.proofs.Common.{rules, arith, ◌≢◌, take, subst, sym, List}
use Rattle.std.proofs.lemmas.Grind.{take_at_read}
use Rattle.vault_disk.specs.Stored.{File, HasNo}
use Rattle.vault_disk.proofs.Files.{passed}
use Rattle.vault_disk.proofs.contents.place_of.Goals as goal

pub loop-place-preserved : goal.loop-place-preserved
loop-place-preserved c =
    let files : List File = c.args.files.now in
    let place = c.loop-place.place in
    let ne : c.index-files-place.result.0 ≢ c.args.file = search rules in
    let next = (take_at_read files place c.index-files-place.result (omega arith)).1 in
    subst (λ (l : List File). HasNo l c.args.file) (sym next) (passed (take place files) c.args.file _ c.loop-place.invariant (subst (λ (q : File). q.0 ≢ c.args.file) c.index-files-place.is ne))
