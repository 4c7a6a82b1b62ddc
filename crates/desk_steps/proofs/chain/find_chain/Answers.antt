use Rattle.std.proofs.Common.{◌∙◌, ℕ, Err, sym, ap, refl, subst}
use Rattle.site_types.specs.Classes.{class_seen}
use Rattle.restore_engine.specs.Chains.{IsChain, chain_at}
use Rattle.restore_engine.specs.declared.chains.ChainFault.{ChainFault}
use Rattle.desk_steps.proofs.RestoredChains.{chain_asked_for, chain_refusal_gives, chain_refusal_over, chain_refusal_plain, chain_there, chain_whole, gives_chain}
use Rattle.desk_steps.proofs.chain.find_chain.Goals as goal

pub returns-in_default-answer : goal.returns-in_default-answer
returns-in_default-answer c = record {
  there = λ l is. tt;
  steps = λ l is. tt;
  asked = λ l is. tt;
  refused = chain_refusal_over c.args.request.now c.in-RestoreAt.client.now c.in-RestoreAt.policy.now c.in-RestoreAt.before (sym c.by_class.ensures ∙ ap class_seen c.in-RestoreAt.is) c.args.payload.now c.args.moment c.args.index.now _ c.in-Ok.decision refl c.in-Ok.ensures.decided c.in_default-answer.not-Done;
  plain = chain_refusal_plain c.args.request.now c.in-RestoreAt.client.now c.in-RestoreAt.policy.now c.in-RestoreAt.before (sym c.by_class.ensures ∙ ap class_seen c.in-RestoreAt.is) c.args.payload.now c.args.moment c.args.index.now _ c.in-Ok.decision refl c.in-Ok.ensures.decided c.in_default-answer.not-Done;
  unread = chain_refusal_gives c.args.request.now c.in-RestoreAt.client.now c.in-RestoreAt.policy.now c.in-RestoreAt.before (sym c.by_class.ensures ∙ ap class_seen c.in-RestoreAt.is) c.args.payload.now c.args.moment c.args.index.now _ c.in-Ok.decision refl c.in-Ok.ensures.decided c.in_default-answer.not-Done;
}

pub unreachable-requires-in-Err-NoImage : goal.unreachable-requires-in-Err-NoImage
unreachable-requires-in-Err-NoImage c =
    let whole = chain_whole c.args.request.now c.in-RestoreAt.client.now c.in-RestoreAt.policy.now c.in-RestoreAt.before (sym c.by_class.ensures ∙ ap class_seen c.in-RestoreAt.is) c.args.payload.now c.args.moment c.args.index.now _ c.in-Ok.decision refl c.in-Ok.ensures.decided _ c.in-Done.is in
    cc (sym whole.1 ∙ ap (λ (n : ℕ). chain_at c.in-RestoreAt.policy.now c.in-RestoreAt.client.now n c.args.index.now.catalogue) (sym c.unwrap_or-before.ensures) ∙ subst (λ (f : ChainFault). IsChain (Err f) (chain_at c.in-RestoreAt.policy.now c.in-RestoreAt.client.now c.unwrap_or-before.result c.args.index.now.catalogue)) c.in-Err-NoImage.field-0-is c.in-Err-NoImage.ensures)

pub unreachable-requires-in-Err-Lacks : goal.unreachable-requires-in-Err-Lacks
unreachable-requires-in-Err-Lacks c =
    let whole = chain_whole c.args.request.now c.in-RestoreAt.client.now c.in-RestoreAt.policy.now c.in-RestoreAt.before (sym c.by_class.ensures ∙ ap class_seen c.in-RestoreAt.is) c.args.payload.now c.args.moment c.args.index.now _ c.in-Ok.decision refl c.in-Ok.ensures.decided _ c.in-Done.is in
    cc (sym whole.1 ∙ ap (λ (n : ℕ). chain_at c.in-RestoreAt.policy.now c.in-RestoreAt.client.now n c.args.index.now.catalogue) (sym c.unwrap_or-before.ensures) ∙ subst (λ (f : ChainFault). IsChain (Err f) (chain_at c.in-RestoreAt.policy.now c.in-RestoreAt.client.now c.unwrap_or-before.result c.args.index.now.catalogue)) c.in-Err-Lacks.field-0-is c.in-Err-Lacks.ensures)

pub returns-clause-there : goal.returns-clause-there
returns-clause-there c l is =
    chain_there c.args.request.now c.in-RestoreAt.client.now c.in-RestoreAt.policy.now c.in-RestoreAt.before (sym c.by_class.ensures ∙ ap class_seen c.in-RestoreAt.is) c.args.payload.now c.args.moment c.args.index.now _ c.in-Ok.decision refl c.in-Ok.ensures.decided _ c.in-Done.is c.in-Ok-chain_at.ids
    (ap (λ (n : ℕ). chain_at c.in-RestoreAt.policy.now c.in-RestoreAt.client.now n c.args.index.now.catalogue) (sym c.unwrap_or-before.ensures) ∙ c.in-Ok-chain_at.ensures) l is

pub returns-clause-steps : goal.returns-clause-steps
returns-clause-steps c l is =
    gives_chain c.args.request.now c.in-RestoreAt.client.now c.in-RestoreAt.policy.now c.in-RestoreAt.before (sym c.by_class.ensures ∙ ap class_seen c.in-RestoreAt.is) c.args.payload.now c.args.moment c.args.index.now _ c.in-Ok.decision refl c.in-Ok.ensures.decided _ c.in-Done.is c.in-Ok-chain_at.ids
    (ap (λ (n : ℕ). chain_at c.in-RestoreAt.policy.now c.in-RestoreAt.client.now n c.args.index.now.catalogue) (sym c.unwrap_or-before.ensures) ∙ c.in-Ok-chain_at.ensures) l is c.has_files-files.result c.has_files-files.ensures

pub returns-clause-asked : goal.returns-clause-asked
returns-clause-asked c l is =
    chain_asked_for c.args.request.now c.in-RestoreAt.client.now c.in-RestoreAt.policy.now c.in-RestoreAt.before (sym c.by_class.ensures ∙ ap class_seen c.in-RestoreAt.is) c.args.payload.now c.args.moment c.args.index.now _ c.in-Ok.decision refl c.in-Ok.ensures.decided _ c.in-Done.is c.in-Ok-chain_at.ids
    (ap (λ (n : ℕ). chain_at c.in-RestoreAt.policy.now c.in-RestoreAt.client.now n c.args.index.now.catalogue) (sym c.unwrap_or-before.ensures) ∙ c.in-Ok-chain_at.ensures) l is c.has_files-files.result c.has_files-files.ensures
