use Rattle.std.proofs.Common.{rules, ◌∙◌, ap}
use Rattle.vault_disk.specs.Log.{Log, said_after}
use Rattle.vault_disk.proofs.Sent.{said_take, said_bound, said_length}
use Rattle.vault_disk.proofs.recording.Recording.sent_after.Goals as goal

pub sent_length-requires : goal.sent_length-requires
sent_length-requires c = said_bound _ _ _ _ c.args.call _ c.deref-2.ensures.value c.deref.ensures.value c.self.invariant.1 (search rules)

pub slice_bounds-result-end : goal.slice_bounds-result-end
slice_bounds-result-end c = said_length _ _ _ _ c.args.call _ c.deref-2.ensures.value c.deref.ensures.value c.self.invariant.1 c.sent_length.ensures

pub returns : goal.returns
returns c =
    said_take _ _ _ _ c.args.call _ c.deref-2.ensures.value c.deref.ensures.value c.self.invariant.1 c.sent_length.ensures
    ∙ ap (λ (l : Log). said_after l c.args.call) c.self.view_is
