use Rattle.std.proofs.Common.{◌≡◌, List, None, Some, Err, refl, ap, subst, sym}
use Rattle.std.specs.List.{AllPass}
use Rattle.std.specs.Prelude.{IfErr, IfOk, map}
use Rattle.site_types.specs.Lines.{line_of}
use Rattle.site_types.specs.declared.request.Request.{Request}
use Rattle.pool_journal.specs.Entries.{IsStaged}
use Rattle.pool_journal.specs.declared.entry.Entry.TheVariants as entry
use Rattle.policy_book.specs.SiteFile.{site_requests}
use Rattle.desk_model.specs.Settings.{all_set, count_text, is_setting}
use Rattle.desk_index.specs.Changes.{AreRefused, AreSet}
use Rattle.desk_index.proofs.Loading.{always_loads, no_site, plain_site, ready_load, refused_all}
use Rattle.desk_index.proofs.OfRequests.{refusal_of}
use Rattle.desk_index.proofs.load.prepare_load.Goals as goal

pub returns-in_default-change : goal.returns-in_default-change
returns-in_default-change c = absurd (always_loads c.args.index.now.site c.args.index.now.catalogue c.args.request.now c.requires.file c.args.payload.now _ c.args.moment c.in-Ok.decision refl c.in-Ok.ensures.decided c.in_default-change.not-Load)

pub returns-in-Err-NotASite-clause-refused : goal.returns-in-Err-NotASite-clause-refused
returns-in-Err-NotASite-clause-refused c l known = no_site c.args.request.now c.requires.file c.args.payload.now c.args.moment l (c.in-Err-NotASite.ensures.refused (ap Err c.in-Err-NotASite.field-0-is))

pub returns-in-Err-NotASite-clause-plain : goal.returns-in-Err-NotASite-clause-plain
returns-in-Err-NotASite-clause-plain c = plain_site c.args.request.now c.requires.file c.args.payload.now (c.in-Err-NotASite.ensures.refused (ap Err c.in-Err-NotASite.field-0-is))

pub set_all-requires-clause-file : goal.set_all-requires-clause-file
set_all-requires-clause-file c = (c.args.payload.now, subst (λ (rs : List Request). site_requests c.args.payload.now ≡ Some rs) (sym c.deref.ensures.value) c.in-Ok-load.ensures.requests.1)

pub set_all-requires-clause-settings : goal.set_all-requires-clause-settings
set_all-requires-clause-settings c = subst (AllPass is_setting) (sym c.deref.ensures.value) c.in-Ok-load.ensures.changes

pub returns-in-Ok-load-clause-ready : goal.returns-in-Ok-load-clause-ready
returns-in-Ok-load-clause-ready c l known =
    ready_load c.args.request.now c.requires.file c.args.payload.now c.args.moment c.in-Ok-load.requests.items c.in-Ok-load.ensures.requests.0 c.in-Ok-load.ensures.requests.1 l known.follows.order c.in-Ok-load.ensures.formed c.in-Ok-load.ensures.changes c.set_all.new.index c.set_all.result
    (subst (λ (rs : List Request). IfOk c.set_all.result (λ r. IsStaged (entry.Settings (map line_of rs)) r.staged)) c.deref.ensures.value c.set_all.ensures.staged)
    (subst (λ (rs : List Request). IfOk c.set_all.result (λ r. r.body ≡ count_text rs)) c.deref.ensures.value c.set_all.ensures.body)
    (subst (λ (rs : List Request). IfOk c.set_all.result (λ _. AreSet l (all_set rs l.outline) c.set_all.new.index None)) c.deref.ensures.value (c.set_all.ensures.set l known))

pub returns-in-Ok-load-clause-refused : goal.returns-in-Ok-load-clause-refused
returns-in-Ok-load-clause-refused c l known =
    refused_all c.args.request.now c.requires.file c.args.payload.now c.args.moment c.in-Ok-load.requests.items c.in-Ok-load.ensures.requests.0 c.in-Ok-load.ensures.requests.1 l known.follows.order c.in-Ok-load.ensures.formed c.set_all.result c.set_all.ensures.plain
    (subst (λ (rs : List Request). IfErr c.set_all.result (AreRefused (all_set rs l.outline))) c.deref.ensures.value (c.set_all.ensures.refused l known))

pub returns-in-Ok-load-clause-plain : goal.returns-in-Ok-load-clause-plain
returns-in-Ok-load-clause-plain c = refusal_of c.args.request.now c.args.payload.now c.set_all.result c.set_all.ensures.plain
