-- The change of a site that a request asks for, which nothing refuses.
use Rattle.std.specs.Prelude.{◌≡◌}
use Rattle.site_types.specs.declared.request.Request.{Request}
use Rattle.policy_book.specs.Staged.{IsReady, staged_after}
use Rattle.desk_model.specs.declared.site.Site.{Site}
use Rattle.desk_model.specs.Settings.{site_after}
use Rattle.desk_rules.specs.declared.decision.SiteChange.{SiteChange}
use Rattle.desk_rules.specs.declared.decision.SiteChange.TheVariants.{Book, Zone}

-- the site that it makes of this one
abbrev pub site_made : SiteChange → Site → Site
site_made (Book change) site = record site { book = staged_after change site.book }
site_made (Zone zone) site = record site { zone = zone }

-- a change of the book stands where it says in this site's
abbrev pub CanBeMade : Site → SiteChange → Type 0
CanBeMade site (Book change) = IsReady site.book change
CanBeMade site (Zone zone) = Unit {0}

-- it is staged for this site, and makes of it what the request asks for
pub record IsSiteChange (site : Site) (request : Request) (change : SiteChange) : Type 0 where
  pub ready : CanBeMade site change
  pub made : site_made change site ≡ site_after request site
