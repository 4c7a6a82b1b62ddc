-- What is seen of a state.
use Rattle.desk_rules.proofs.Common.{◌≡◌, ◌∙◌, List, [], ◌∷◌, ◌++◌, Option, None, Some, map, sym, ap, refl, ℕ, unwrap_or, codes, option_map_or, Answer, Done, Schedule, SealNow, ImageRecord, Request, State, entries, gone_client, gone_policy, removal_of, use_refusals, used_by, uses_of, Policy, adhoc, manual, Asked, backup_refusals, base_of, reference_of, client_refusals, latest_version, new_time, policy_asked, schedule_asked, first_refusal, backup_body, JobBody, Backup, Site, settled, backup_answer, blank, room_under, seen}
use Rattle.site_types.specs.Ids.{id_text}
use Rattle.site_types.specs.declared.id.BackupId.{BackupId}
use Rattle.image_catalogue.specs.Images.{first_of_client, first_under}
use Rattle.site_types.specs.declared.image.Base.{Base}

pub entries_seen : (images : List ImageRecord) → entries (map blank images) ≡ images
entries_seen [] = refl
entries_seen (i ∷ images) = ap (λ (is : List ImageRecord). i ∷ is) (entries_seen images)

pub client_use : (site : Site) (images : List ImageRecord) (request : Request) (name : List ℕ) (found : Option ImageRecord) → removal_of request ≡ Some (gone_client name) → found ≡ first_of_client name images → use_refusals request (seen site images) ≡ used_by name found None
client_use site images request name found is first =
    (λ j. option_map_or (λ removal. uses_of removal (seen site images)) (is j) [])
    ∙ ap (λ (is : List ImageRecord). used_by name (first_of_client name is) None) (entries_seen images)
    ∙ ap (λ (i : Option ImageRecord). used_by name i None) (sym first)

pub policy_use : (site : Site) (images : List ImageRecord) (request : Request) (name : List ℕ) (found : Option ImageRecord) → removal_of request ≡ Some (gone_policy name) → found ≡ first_under name images → use_refusals request (seen site images) ≡ used_by name found None
policy_use site images request name found is first =
    (λ j. option_map_or (λ removal. uses_of removal (seen site images)) (is j) [])
    ∙ ap (λ (is : List ImageRecord). used_by name (first_under name is) None) (entries_seen images)
    ∙ ap (λ (i : Option ImageRecord). used_by name i None) (sym first)

-- the refusals of a backup under its policy
pub backup_seen : (site : Site) (images : List ImageRecord) (asked : Asked) (policy : Policy) (moment : ℕ) → policy_asked asked (seen site images) ≡ Some policy
    → backup_refusals asked moment (seen site images) ≡ client_refusals asked (policy_asked asked (seen site images)) (seen site images) ++ room_under policy asked images moment (seen site images)
backup_seen site images asked policy moment found =
    let s = seen site images in
    ap (λ (p : Option Policy). client_refusals asked (policy_asked asked s) s ++ room_under (unwrap_or p adhoc) asked (entries s.images) moment s) found
    ∙ ap (λ (is : List ImageRecord). client_refusals asked (policy_asked asked s) s ++ room_under policy asked is moment s) (entries_seen images)

-- the body of a backup of so many bytes under a policy and a schedule
abbrev body_under : Asked → ℕ → ℕ → State → Policy → Schedule → JobBody
body_under asked size moment s policy schedule =
    Backup (record { client = asked.client; time = new_time asked.client moment s }) policy.name schedule.name schedule.kind (base_of (reference_of asked.client policy schedule s)) policy.lifecycle (latest_version policy.lifecycle s.site.book) size

-- a backup that nothing refuses
pub made_settles : (asked : Asked) (policy : Policy) (schedule : Schedule) (size moment : ℕ) (s : State) (id : BackupId) (base : Base) (answer : Answer) (body : JobBody)
    → policy_asked asked s ≡ Some policy
    → schedule_asked asked s ≡ Some schedule
    → first_refusal (backup_refusals asked moment s) ≡ None
    → id ≡ record { client = asked.client; time = new_time asked.client moment s }
    → base ≡ base_of (reference_of asked.client policy schedule s)
    → answer ≡ Done (id_text id ++ codes "\n")
    → body ≡ Backup id policy.name schedule.name schedule.kind base policy.lifecycle (latest_version policy.lifecycle s.site.book) size
    → record { answer = answer; change = SealNow body } ≡ settled (first_refusal (backup_refusals asked moment s)) (backup_answer asked moment s) (SealNow (backup_body asked size moment s))
made_settles asked policy schedule size moment s id base answer body found chosen none is base_is said made =
    let answered : answer ≡ backup_answer asked moment s = said ∙ ap (λ (i : BackupId). Done (id_text i ++ codes "\n")) is in
    let under : body_under asked size moment s policy schedule ≡ backup_body asked size moment s =
    λ j. body_under asked size moment s (unwrap_or (sym found j) adhoc) (unwrap_or (sym chosen j) manual) in
    let whole : body ≡ backup_body asked size moment s =
    made
    ∙ (λ j. Backup (is j) policy.name schedule.name schedule.kind (base_is j) policy.lifecycle (latest_version policy.lifecycle s.site.book) size)
    ∙ under in
    let decided : record { answer = answer; change = SealNow body } ≡ settled None (backup_answer asked moment s) (SealNow (backup_body asked size moment s)) =
    λ j. record { answer = answered j; change = SealNow (whole j) } in
    decided ∙ ap (λ (o : Option Answer). settled o (backup_answer asked moment s) (SealNow (backup_body asked size moment s))) (sym none)
