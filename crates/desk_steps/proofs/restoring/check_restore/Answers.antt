use Rattle.std.proofs.Common.{refl}
use Rattle.desk_steps.proofs.RestoredImages.{gives_image, image_has, refusal_gives, refusal_over, refusal_plain}
use Rattle.desk_steps.proofs.restoring.check_restore.Goals as goal

pub returns-in_default-answer : goal.returns-in_default-answer
returns-in_default-answer c =
    let r = c.requires.restore in
    record {
      there = λ l id copy is restores. tt;
      steps = λ l id copy is restores. tt;
      refused = λ l is. refusal_over c.args.request.now r.0 r.1 r.2 c.args.payload.now c.args.moment c.args.index.now _ c.in-Ok.decision refl c.in-Ok.ensures.decided l is c.in_default-answer.not-Done;
      plain = refusal_plain c.args.request.now r.0 r.1 r.2 c.args.payload.now c.args.moment c.args.index.now _ c.in-Ok.decision refl c.in-Ok.ensures.decided c.in_default-answer.not-Done;
      unread = refusal_gives c.args.request.now r.0 r.1 r.2 c.args.payload.now c.args.moment c.args.index.now _ c.in-Ok.decision refl c.in-Ok.ensures.decided c.in_default-answer.not-Done;
    }

pub returns-clause-there : goal.returns-clause-there
returns-clause-there c l id copy is restores = image_has c.args.request.now id copy restores c.args.payload.now c.args.moment c.args.index.now _ c.in-Ok.decision refl c.in-Ok.ensures.decided l is c.in-Done.body c.in-Done.is

pub returns-clause-steps : goal.returns-clause-steps
returns-clause-steps c l id copy is restores = gives_image c.args.request.now id copy restores c.args.payload.now c.args.moment c.args.index.now _ c.in-Ok.decision refl c.in-Ok.ensures.decided l is c.in-Done.body c.in-Done.is
