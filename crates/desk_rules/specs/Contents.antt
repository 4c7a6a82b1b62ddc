-- What a backup seals, and what refuses it there.
use Rattle.std.specs.Prelude.{◌≡◌, ◌⊎◌, ℕ, Bool, List, length, Option, Some, None, Result, Ok, Err, unwrap_or}
use Rattle.site_types.specs.declared.answer.Answer.{Answer}
use Rattle.site_types.specs.declared.answer.Answer.TheVariants.{OutOfMemory}
use Rattle.site_types.specs.declared.image.Base.{Base}
use Rattle.site_types.specs.declared.image.Base.TheVariants as base
use Rattle.site_types.specs.declared.image.ImageRecord.{ImageRecord}
use Rattle.policy_book.specs.Book.{Book, Policy, adhoc, policy_name}
use Rattle.policy_book.specs.Lists.{named}
use Rattle.image_catalogue.specs.Images.{used}
use Rattle.desk_model.specs.declared.site.Site.{Site}
use Rattle.desk_model.specs.Backups.{backup_unit, content_refusals, sealed_bytes, stream_break, unit_at}
use Rattle.desk_model.specs.Refusals.{first_refusal}
use Rattle.desk_rules.specs.declared.content.Content.{Content}
use Rattle.desk_rules.specs.declared.content.Content.TheVariants as content
use Rattle.desk_rules.specs.declared.decision.JobBody.{JobBody}
use Rattle.desk_rules.specs.declared.decision.JobBody.TheVariants.{Backup}

abbrev pub content_bytes : Content → List ℕ
content_bytes (content.Payload bytes) = bytes.now
content_bytes (content.Image bytes) = bytes.items

abbrev pub policy_in : JobBody → List ℕ
policy_in (Backup id policy schedule kind b lifecycle version length) = policy

abbrev pub base_in : JobBody → Base
base_in (Backup id policy schedule kind b lifecycle version length) = b

abbrev pub policy_of : List ℕ → Book → Policy
policy_of name book = unwrap_or (named policy_name name book.policies) adhoc

-- the time of a base, where there is one
abbrev pub base_time : Base → Option ℕ
base_time base.None = None
base_time (base.Time time) = Some time

-- nothing is shown that refuses, or this is the first that is, or there was no memory
abbrev pub IsShown : {A : Type 0} → List (Bool × Answer) → Result A Answer → Type 0
IsShown refusals (Ok value) = first_refusal refusals ≡ None
IsShown refusals (Err answer) = (answer ≡ OutOfMemory) ⊎ (first_refusal refusals ≡ Some answer)

-- what refuses the content of a backup under a policy and with a base
abbrev pub content_under : Policy → Base → List ℕ → Site → List ImageRecord → List (Bool × Answer)
content_under policy base payload site images =
    let unit = unit_at (backup_unit policy site.book) site.book in
    content_refusals (stream_break policy payload) unit (used unit.name images) (length (sealed_bytes policy (base_time base) payload))
