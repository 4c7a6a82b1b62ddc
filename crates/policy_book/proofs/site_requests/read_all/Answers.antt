use Rattle.policy_book.proofs.Common.{◌≡◌, List, All, true, sym, subst, changes_site, requests_of}
use Rattle.std.specs.List.{AllPass}
use Rattle.std.proofs.lemmas.List.Elements.{All-push}
use Rattle.site_types.specs.Lines.{IsFormed}
use Rattle.site_types.specs.declared.request.Request.{Request}
use Rattle.policy_book.proofs.RequestLemmas.{requests_step}
use Rattle.policy_book.proofs.site_requests.read_all.Goals as goal

pub loop-line-preserved : goal.loop-line-preserved
loop-line-preserved c =
    let lines = c.args.lines.now in
    let requests = c.loop-line.requests.items in
    let request = c.in_ok-read_change.field-0 in (
      requests_step requests c.push.new.self.items lines c.loop-line.line-index c.line-item.result request (requests_of lines) c.loop-line-test.true c.line-item.is c.loop-line.invariant.0 c.in_ok-read_change.ensures.request c.in_ok-push.ensures.items,
      subst (All IsFormed) (sym {A = List Request} c.in_ok-push.ensures.items) (All-push IsFormed requests request c.loop-line.invariant.1 c.in_ok-read_change.ensures.formed),
      subst (AllPass changes_site) (sym {A = List Request} c.in_ok-push.ensures.items) (All-push (λ (r : Request). changes_site r ≡ true) requests request c.loop-line.invariant.2 c.in_ok-read_change.ensures.change),
    )
