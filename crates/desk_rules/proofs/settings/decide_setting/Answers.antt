use Rattle.desk_rules.proofs.Common.{[], Done, first_refusal, setting_refusals, SetsSite, seen}
use Rattle.desk_rules.proofs.SiteChangeLemmas.{made_decides, refused_decides}
use Rattle.desk_rules.proofs.settings.decide_setting.Goals as goal

pub returns-in-Ok : goal.returns-in-Ok
returns-in-Ok c =
    made_decides (first_refusal (setting_refusals c.args.request.now (seen c.args.site.now c.args.images.now))) (Done []) (SetsSite c.args.site.now c.args.request.now) _ c.in-Ok.ensures.passes.passed (cc (c.from_vec.ensures, c.new.ensures.items)) c.in-Ok.ensures.change

pub returns-in-Err : goal.returns-in-Err
returns-in-Err c =
    refused_decides (setting_refusals c.args.request.now (seen c.args.site.now c.args.images.now)) c.in-Err.refusal (Done []) (SetsSite c.args.site.now c.args.request.now) c.refused.result c.in-Err.ensures.passes c.refused.ensures.answer c.refused.ensures.change
