use Rattle.std.proofs.Common.{◌≡◌, ◌∙◌, ℕ, List, [], ◌∷◌, ◌++◌, subst, sym}
use Rattle.site_types.specs.Lines.{line_of}
use Rattle.pool_journal.specs.declared.entry.Entry.TheVariants as entry
use Rattle.pool_journal.specs.Entries.{IsWritable}
use Rattle.desk_index.proofs.SettingLines.{one_writable}
use Rattle.desk_index.proofs.change.stage_request.Goals as goal

pub stage_lines-requires : goal.stage_lines-requires
stage_lines-requires c =
    let lines : c.push.new.self.items ≡ line_of c.args.request.now ∷ [] = c.in_ok-push.ensures.items ∙ (λ i. c.new-lines.ensures.items i ++ c.in_ok-line_of.ensures i ∷ []) in
    subst (λ (l : List (List ℕ)). IsWritable (entry.Settings l)) (sym lines) (one_writable c.args.request.now c.requires)
