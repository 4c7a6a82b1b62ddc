use Rattle.site_types.proofs.Common.{◌∙◌, if◌then◌else◌, sym}
use Rattle.site_types.proofs.RereadLemmas.{formless_by}
use Rattle.site_types.proofs.forms.formless.Goals as goal

pub returns-then-is_first-clause-index : goal.returns-then-is_first-clause-index
returns-then-is_first-clause-index c = sym (formless_by _ _ _ _ _ _ c.in-Some.ensures.cases.0 c.bytes.ensures c.all_forms.ensures c.is_first.ensures ∙ (λ i. if c.if-is_first.true i then 1 else 0))

pub returns-else-is_first-clause-index : goal.returns-else-is_first-clause-index
returns-else-is_first-clause-index c = sym (formless_by _ _ _ _ _ _ c.in-Some.ensures.cases.0 c.bytes.ensures c.all_forms.ensures c.is_first.ensures ∙ (λ i. if c.if-is_first.false i then 1 else 0))
