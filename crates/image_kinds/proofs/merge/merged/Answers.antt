use Rattle.image_kinds.proofs.Common.{arith, ◌++◌, [], ◌∷◌, ◌≡◌, ◌-◌, ◌∙◌, sym, ap, subst, Some, None, length, take, Option, append-nil, Entry, IsImage, entry_behind}
use Rattle.std.specs.Global.{Vec}
use Rattle.image_kinds.proofs.Chains.{merged_more, entries_more, merged_is, merged_all}
use Rattle.image_kinds.proofs.merge.merged.Goals.{in-Some+in_ok-push, in_default-entry_behind}
use Rattle.image_kinds.proofs.merge.merged.Goals as goal

pub loop-item-preserved : goal.loop-item-preserved
loop-item-preserved c =
    let h = entry_behind (take (length c.args.images.now - 1) c.args.images.now) in
    let step = λ (o : Option Entry) (gives : h c.item-item.result ≡ o). merged_more h c.items-items.result.now c.loop-item.item-index c.item-item.result o c.loop-item.entries.items c.loop-item-test.true c.item-item.is gives c.loop-item.invariant.found in
    elim c.match-entry_behind.branch [
      | in-Some+in_ok-push w ↦
          let pushed : c.match-entry_behind.entries.items ≡ c.loop-item.entries.items ++ w.in-Some.entry.now ∷ [] = ap (λ (v : Vec Entry). v.items) w.entries-is ∙ w.in_ok-push.ensures.items ∙ ap (λ (e : Entry). c.loop-item.entries.items ++ e ∷ []) w.again.ensures.same in
          record {
            found = pushed ∙ step (Some w.in-Some.entry.now) (sym w.in-Some.ensures);
            each = rw pushed (entries_more c.loop-item.entries.items w.in-Some.entry.now c.loop-item.invariant.each w.again.ensures.entry);
          }
      | in_default-entry_behind w ↦
          let same : c.match-entry_behind.entries.items ≡ c.loop-item.entries.items = ap (λ (v : Vec Entry). v.items) w.entries-is in
          let none = rw w.in_default-entry_behind.is at c.entry_behind.ensures in
          record {
            found = same ∙ sym (append-nil c.loop-item.entries.items) ∙ step None (sym none);
            each = rw same c.loop-item.invariant.each;
          }
    ]

pub new-requires : goal.new-requires
new-requires c = merged_is (take (length c.args.images.now - 1) c.args.images.now) c.items-items.result.now c.loop-item.item-index c.loop-item.entries.items (subst IsImage (sym c.items-items.ensures.items) c.items-items.ensures.image) c.loop-item-test.false c.loop-item.invariant.found c.loop-item.invariant.each

pub returns : goal.returns
returns c =
    let items = sym c.items-items.ensures.items in
    c.new.ensures
    ∙ merged_all c.args.images.now c.last-item.result c.loop-item.item-index c.loop-item.entries.items (omega (arith, c.in-len1-up.len_at_least)) c.last-item.is c.items-items.ensures.image (rw items c.loop-item-test.false)
    (rw c.items-items.ensures.items at c.loop-item.invariant.found)
