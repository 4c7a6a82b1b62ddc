use Rattle.std.proofs.Common.{◌∙◌, sym, ap, subst}
use Rattle.desk_model.specs.declared.site.Site.{Site}
use Rattle.vault_ledger.specs.Storage.{Follows}
use Rattle.vault_ledger.proofs.FollowedSettings.{back_followed}
use Rattle.desk_index.proofs.load.put_back.Goals as goal

pub fit-requires : goal.fit-requires
fit-requires c =
    let there = c.requires.there in
    record { there = (there.0, there.1, ap (λ (s : Site). s.book) there.2, there.3) }

pub returns-clause-back : goal.returns-clause-back
returns-clause-back c l old is before_is catalogue_is copies_is have =
    let pools = c.fit.ensures.pools l is.follows.order (ap (λ (s : Site). s.book) (sym is.site ∙ sym before_is)) have in
    let copies = c.fit.ensures.copies ∙ copies_is in
    record {
      site = before_is ∙ is.site;
      listed = catalogue_is ∙ is.listed;
      follows = subst (Follows l) (λ i. record { pools = c.fit.new.self.pools; copies = sym copies i }) (back_followed l old.storage c.fit.new.self.pools is.follows pools);
    }
