-- The class of a request: which of the rules of the desk it comes under, with what it asks for there.
use Rattle.std.specs.Prelude.{ℕ, Bool, true, false, List, Option, option_map}
use Rattle.site_types.specs.declared.class.ByClass.{ByClass}
use Rattle.site_types.specs.declared.class.ByClass.TheVariants as by
use Rattle.site_types.specs.declared.forms.Class.{Class}
use Rattle.site_types.specs.declared.forms.Class.TheVariants as tag
use Rattle.site_types.specs.declared.id.BackupId.{BackupId}
use Rattle.site_types.specs.declared.request.Request.{Request}
use Rattle.site_types.specs.declared.request.Request.TheVariants as request
use Rattle.site_types.specs.declared.schedule.Start.{Start}

-- a change of the site, the requests of a site file, a backup of the payload, a restore of an image, and one of a client under a policy as it was at a moment
pub data RequestClass : Type 0 where
  site_change : (request : Request) → RequestClass
  site_file : RequestClass
  backup : (client : List ℕ) (policy schedule : Option (List ℕ)) (start : Option Start) → RequestClass
  restore : (id : BackupId) (copy : Option ℕ) → RequestClass
  restore_at : (client policy : List ℕ) (before : Option ℕ) → RequestClass

abbrev pub class_of : Request → RequestClass
class_of (request.UnitAdd name capacity segment fragment slots high low) = site_change (request.UnitAdd name capacity segment fragment slots high low)
class_of (request.UnitChange name capacity slots high low) = site_change (request.UnitChange name capacity slots high low)
class_of (request.ClientAdd name) = site_change (request.ClientAdd name)
class_of (request.ClientRemove name) = site_change (request.ClientRemove name)
class_of (request.PolicyAdd policy policy_type lifecycle) = site_change (request.PolicyAdd policy policy_type lifecycle)
class_of (request.PolicyChange policy active lifecycle) = site_change (request.PolicyChange policy active lifecycle)
class_of (request.PolicyRemove policy) = site_change (request.PolicyRemove policy)
class_of (request.PolicyClientAdd policy client) = site_change (request.PolicyClientAdd policy client)
class_of (request.PolicyClientRemove policy client) = site_change (request.PolicyClientRemove policy client)
class_of (request.PolicySelect policy path) = site_change (request.PolicySelect policy path)
class_of (request.PolicyUnselect policy path) = site_change (request.PolicyUnselect policy path)
class_of (request.ScheduleAdd policy schedule kind frequency calendar windows) = site_change (request.ScheduleAdd policy schedule kind frequency calendar windows)
class_of (request.ScheduleChange policy schedule kind frequency calendar windows) = site_change (request.ScheduleChange policy schedule kind frequency calendar windows)
class_of (request.ScheduleRemove policy schedule) = site_change (request.ScheduleRemove policy schedule)
class_of (request.ZoneSet rule offset) = site_change (request.ZoneSet rule offset)
class_of request.Load = site_file
class_of (request.Backup client policy schedule start) = backup client policy schedule start
class_of (request.Restore id copy) = restore id copy
class_of (request.RestoreAt client policy before) = restore_at client policy before

abbrev pub is_site_change : RequestClass → Bool
is_site_change (site_change request) = true
is_site_change site_file = false
is_site_change (backup client policy schedule start) = false
is_site_change (restore id copy) = false
is_site_change (restore_at client policy before) = false

-- the requests whose line may name a payload
abbrev pub has_payload : RequestClass → Bool
has_payload (site_change request) = false
has_payload site_file = true
has_payload (backup client policy schedule start) = true
has_payload (restore id copy) = false
has_payload (restore_at client policy before) = false

-- the class alone
abbrev pub tag_of : RequestClass → Class
tag_of (site_change request) = tag.SiteChange
tag_of site_file = tag.SiteFile
tag_of (backup client policy schedule start) = tag.Backup
tag_of (restore id copy) = tag.Restore
tag_of (restore_at client policy before) = tag.Restore

-- what the code has of a class
abbrev pub class_seen : ByClass → RequestClass
class_seen (by.SiteChange request) = site_change request.now
class_seen by.SiteFile = site_file
class_seen (by.Backup client policy schedule start) = backup client.now (option_map (λ name. name.now) policy) (option_map (λ name. name.now) schedule) start
class_seen (by.Restore id copy) = restore id.now copy
class_seen (by.RestoreAt client policy before) = restore_at client.now policy.now before
