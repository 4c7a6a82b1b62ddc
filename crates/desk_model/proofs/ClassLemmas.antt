-- The changes of the site.
use Rattle.desk_model.proofs.Common.{◌≡◌, false, refl, ◌&&◌, ◌||◌, is_some, Request, is_setting, zone_set}
use Rattle.site_types.specs.declared.request.Request.TheVariants as request
use Rattle.policy_book.specs.Requests.{is_of_book}

-- each is one of the book or of the zone, and no other request is either
pub of_book_or_zone : (r : Request) → is_setting r ≡ (is_of_book r || is_some (zone_set r))
of_book_or_zone request.Load = refl
of_book_or_zone _ = refl

-- none is both
pub not_both : (r : Request) → (is_some (zone_set r) && is_of_book r) ≡ false
not_both request.Load = refl
not_both _ = refl
