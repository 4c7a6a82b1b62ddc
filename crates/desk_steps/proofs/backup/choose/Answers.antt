use Rattle.std.proofs.Common.{◌∙◌, ℕ, ap, length, refl}
use Rattle.desk_rules.specs.Contents.{content_bytes}
use Rattle.desk_steps.specs.Backups.{whole_of}
use Rattle.desk_steps.proofs.SealedSteps.{content_over, content_plain, policy_here, refusal_over, refusal_plain, seals_now}
use Rattle.desk_steps.proofs.backup.choose.Goals as goal

pub returns-in_default-change : goal.returns-in_default-change
returns-in_default-change c = record {
  seals = λ l is. tt;
  refused = λ l is. refusal_over c.args.index.now c.args.request.now c.args.payload.now _ c.args.moment c.in-Ok.decision c.requires.backup refl c.in-Ok.ensures.decided l is (λ line body done. c.in_default-change.not-SealNow body);
  plain = refusal_plain c.args.index.now c.args.request.now c.args.payload.now _ c.args.moment c.in-Ok.decision c.requires.backup refl c.in-Ok.ensures.decided (λ line body done. c.in_default-change.not-SealNow body);
}

pub returns-in_default-answer : goal.returns-in_default-answer
returns-in_default-answer c = record {
  seals = λ l is. tt;
  refused = λ l is. refusal_over c.args.index.now c.args.request.now c.args.payload.now _ c.args.moment c.in-Ok.decision c.requires.backup refl c.in-Ok.ensures.decided l is (λ line body done sealed. c.in_default-answer.not-Done line done);
  plain = refusal_plain c.args.index.now c.args.request.now c.args.payload.now _ c.args.moment c.in-Ok.decision c.requires.backup refl c.in-Ok.ensures.decided (λ line body done sealed. c.in_default-answer.not-Done line done);
}

pub seal_content-requires : goal.seal_content-requires
seal_content-requires c = policy_here c.args.index.now c.args.request.now c.args.payload.now _ c.args.moment c.in-Ok.decision c.requires.backup refl c.in-Ok.ensures.decided c.in-SealNow.body c.in-SealNow.is

pub returns-in-Err-clause-refused : goal.returns-in-Err-clause-refused
returns-in-Err-clause-refused c l is = content_over c.args.index.now c.args.request.now c.args.payload.now _ c.args.moment c.in-Ok.decision c.requires.backup refl c.in-Ok.ensures.decided c.in-SealNow.body c.in-SealNow.is c.in-Err.refusal c.in-Err.ensures.content l is

pub returns-in-Err-clause-plain : goal.returns-in-Err-clause-plain
returns-in-Err-clause-plain c = content_plain c.args.index.now c.args.request.now c.args.payload.now _ c.args.moment c.in-Ok.decision c.requires.backup refl c.in-Ok.ensures.decided c.in-SealNow.body c.in-SealNow.is c.in-Err.refusal c.in-Err.ensures.content

pub returns-clause-seals : goal.returns-clause-seals
returns-clause-seals c l is =
    let made = c.in-Ok-seal_content.content in
    seals_now c.args.index.now c.args.request.now c.args.payload.now _ c.args.moment c.in-Ok.decision c.requires.backup refl c.in-Ok.ensures.decided c.in-SealNow.body c.in-SealNow.is made c.in-Ok-seal_content.ensures.content (content_bytes made) c.in-Ok-seal_content.ensures.bytes c.whole_of-image.result
    (c.whole_of-image.ensures ∙ ap (λ (n : ℕ). whole_of c.in-SealNow.body n c.args.moment) (ap length c.bytes.ensures)) l is c.requires.moment c.in-Done.line c.in-Done.is
