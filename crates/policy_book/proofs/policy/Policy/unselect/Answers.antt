use Rattle.policy_book.proofs.Common.{◌≡◌, ◌∙◌, ap, rules, List, ℕ, filter, not, Policy}
use Rattle.std.specs.Str.{bytes_eq}
use Rattle.std.proofs.lemmas.Fn.{filter_same}
use Rattle.policy_book.specs.declared.policy.Policy.TheInside.{Inside}
use Rattle.policy_book.proofs.policy.Policy.unselect.Goals as goal

abbrev with_selections : Policy → List (List ℕ) → Policy
with_selections p selections = record p { selections = selections }

abbrev seen : Inside → Policy
seen p = record { name = p.name; files = p.files; active = p.active; lifecycle = p.lifecycle; clients = p.clients.items; selections = p.selections.items; schedules = p.schedules.items }

pub returns : goal.returns
returns c =
    let kept : c.retain.new.self.items ≡ filter (λ s. not (bytes_eq s c.args.path.now)) c.self.inside.selections.items =
    filter_same _ _ _ (λ x b f' k. search rules) _ _ c.retain.ensures.filtered in
    ap (with_selections (seen c.self.inside)) kept ∙ ap (λ (p : Policy). with_selections p (filter (λ s. not (bytes_eq s c.args.path.now)) p.selections)) c.self.view_is
