-- What is decided of what is seen is decided of every state that has that site and those images.
use Rattle.desk_rules.proofs.Common.{◌≡◌, ◌∙◌, ℕ, suc, Bool, true, false, cond, List, [], ◌∷◌, ◌++◌, length, map, Option, Some, None, Result, Ok, Err, sym, ap, refl, subst, arith, unwrap_or, option_map, find, Contains, IfOk, length-map, length-replicate, option_map_or, AllocError, RequestClass, site_change, site_file, backup, restore, restore_at, class_of, base_of, latest_version, manual, new_time, schedule_asked, Backup, JobBody, length_of, lengths, ◌+◌, ◌<◌, get_or, take, take_more, Answer, Done, ImageRecord, Request, adhoc, refusals_of, State, Image, entries, image_named, first_refusal, Asked, asked_of, backup_refusals, client_refusals, policy_asked, Removal, gone_client, gone_policy, is_of_client, is_under, removal_of, setting_refusals, use_refusals, used_by, uses_of, Change, Load, Nothing, SealNow, Decision, Decides, DecidesAs, IsChange, IsDecision, IsStateOf, SetsSite, backup_body, Site, settled, backup_answer, blank, room_under, seen}
use Rattle.site_types.specs.declared.id.BackupId.{BackupId}
use Rattle.site_types.specs.declared.schedule.Start.{Start}
use Rattle.image_catalogue.specs.Images.{first_of_client, first_under, record_named, same_id}
use Rattle.restore_engine.specs.Chains.{chain_at, reference}
use Rattle.desk_model.specs.Restores.{bytes_of, bytes_with, chain_asked, ids_of, restore_at_case, restore_at_refusals, restore_refusals, total}
use Rattle.desk_rules.proofs.RefusalLemmas.{answered}
use Rattle.desk_rules.proofs.SeenLemmas.{entries_seen}

-- What is settled is decided.
settled_as : (o : Option Answer) (answer : Answer) (change : Change) (IsMade : Change → Type 0) (d : Decision) → d ≡ settled o answer change → IsMade change → DecidesAs o answer IsMade d
settled_as (Some refusal) answer change IsMade d is made = (ap (λ (e : Decision). e.answer) is, ap (λ (e : Decision). e.change) is)
settled_as None answer change IsMade d is made = (ap (λ (e : Decision). e.answer) is, subst IsMade (sym (ap (λ (e : Decision). e.change) is)) made)

-- A state with this site and these images.
abbrev with_images : Site → List Image → State
with_images site images = record { site = site; images = images; stored = []; jobs = []; next_job = 1 }

length_seen : (images : List Image) → length images ≡ length (map blank (entries images))
length_seen images = sym (length-map (entries images) blank ∙ length-map images (λ i. i.entry))

-- Backups.

abbrev backup_settled : Asked → ℕ → ℕ → State → Decision
backup_settled asked size moment s = settled (first_refusal (backup_refusals asked moment s)) (backup_answer asked moment s) (SealNow (backup_body asked size moment s))

refusals_seen : (asked : Asked) (moment : ℕ) (site : Site) (images : List Image) (records : List ImageRecord) → entries images ≡ records → backup_refusals asked moment (with_images site images) ≡ backup_refusals asked moment (seen site records)
refusals_seen asked moment site images records are =
    let s = seen site records in
    let policy = policy_asked asked s in
    let number : length images ≡ length (map blank records) = length_seen images ∙ ap (λ (is : List ImageRecord). length (map blank is)) are in
    let clients : client_refusals asked policy (with_images site images) ≡ client_refusals asked policy s = rw number refl in
    λ j. clients j ++ room_under (unwrap_or policy adhoc) asked ((are ∙ sym (entries_seen records)) j) moment s

-- the body of a backup, whose base is one of these images
abbrev body_over : Asked → ℕ → ℕ → State → List ImageRecord → JobBody
body_over asked size moment s records =
    let policy = unwrap_or (policy_asked asked s) adhoc in
    let schedule = unwrap_or (schedule_asked asked s) manual in
    Backup (record { client = asked.client; time = new_time asked.client moment s }) policy.name schedule.name schedule.kind (base_of (reference policy.name asked.client schedule.kind records)) policy.lifecycle (latest_version policy.lifecycle s.site.book) size

settled_seen : (asked : Asked) (size moment : ℕ) (site : Site) (records : List ImageRecord) (s : State) → IsStateOf site records s → backup_settled asked size moment (seen site records) ≡ backup_settled asked size moment s
settled_seen asked size moment site records s is =
    sym ((λ j. backup_settled asked size moment (record s { site = is.site_is j; jobs = is.idle j }))
    ∙ (λ j. settled (first_refusal (refusals_seen asked moment site s.images records is.images_are j)) (backup_answer asked moment (seen site records)) (SealNow (body_over asked size moment (seen site records) ((is.images_are ∙ sym (entries_seen records)) j)))))

pub backup_decided : (site : Site) (records : List ImageRecord) (request : Request) (asked : Asked) (payload moment : ℕ) (client : List ℕ) (policy schedule : Option (List ℕ)) (start : Option Start) (result : Result Decision AllocError)
    → backup client policy schedule start ≡ class_of request
    → asked ≡ asked_of client policy schedule start
    → IfOk result (λ d. d ≡ backup_settled asked payload moment (seen site records))
    → (s : State) (bytes : List ℕ) → IsStateOf site records s → length bytes ≡ payload → IfOk result (IsDecision s request bytes moment)
backup_decided site records request asked payload moment client policy schedule start (Err e) is made settles s bytes state size = tt
backup_decided site records request asked payload moment client policy schedule start (Ok d) is made settles s bytes state size =
    let named = asked_of client policy schedule start in
    let same : d ≡ backup_settled named (length bytes) moment s = settles ∙ settled_seen asked payload moment site records s state ∙ (λ j. backup_settled (made j) (sym size j) moment s) in
    subst (λ (class : RequestClass). Decides s class bytes moment d) is
    (settled_as (first_refusal (backup_refusals named moment s)) (backup_answer named moment s) (SealNow (backup_body named (length bytes) moment s)) (IsChange s (backup client policy schedule start) bytes moment) d same refl)

-- Restores.

image_seen : (id : BackupId) (copy : Option ℕ) (i : Image) → i.entry.length ≡ length i.bytes → restore_refusals (Some i) id copy ≡ restore_refusals (Some (blank i.entry)) id copy
image_seen id None i sized = let number : length i.bytes ≡ length (blank i.entry).bytes = sym sized ∙ sym (length-replicate i.entry.length 0) in rw number refl
image_seen id (Some copy) i sized = let number : length i.bytes ≡ length (blank i.entry).bytes = sym sized ∙ sym (length-replicate i.entry.length 0) in rw number refl

first_seen : (id : BackupId) (copy : Option ℕ) (here : Bool) (i : Image) (image : Option Image) (found : Option ImageRecord) → i.entry.length ≡ length i.bytes → restore_refusals image id copy ≡ restore_refusals (option_map blank found) id copy
    → restore_refusals (cond here (Some i) image) id copy ≡ restore_refusals (option_map blank (cond here (Some i.entry) found)) id copy
first_seen id copy true i image found sized later = image_seen id copy i sized
first_seen id copy false i image found sized later = later

restores_seen : (id : BackupId) (copy : Option ℕ) (images : List Image) → ((i : Image) → Contains images i → i.entry.length ≡ length i.bytes) → restore_refusals (image_named id images) id copy ≡ restore_refusals (option_map blank (record_named id (entries images))) id copy
restores_seen id copy [] sized = refl
restores_seen id copy (i ∷ images) sized =
    first_seen id copy (same_id i.entry.id id) i (image_named id images) (record_named id (entries images)) (sized i (0, omega arith, refl))
    (restores_seen id copy images (λ x at. sized x (suc at.0, omega (arith, at.1), at.2)))

pub restore_decided : (site : Site) (records : List ImageRecord) (request : Request) (payload moment : ℕ) (id : BackupId) (copy : Option ℕ) (result : Result Decision AllocError)
    → restore id copy ≡ class_of request
    → IfOk result (λ d. d ≡ settled (first_refusal (restore_refusals (option_map blank (record_named id records)) id copy)) (Done []) Nothing)
    → (s : State) (bytes : List ℕ) → IsStateOf site records s → length bytes ≡ payload → IfOk result (IsDecision s request bytes moment)
restore_decided site records request payload moment id copy (Err e) is settles s bytes state size = tt
restore_decided site records request payload moment id copy (Ok d) is settles s bytes state size =
    let refusals = restores_seen id copy s.images state.sized ∙ ap (λ (rs : List ImageRecord). restore_refusals (option_map blank (record_named id rs)) id copy) state.images_are in
    subst (λ (class : RequestClass). Decides s class bytes moment d) is
    (settled_as (first_refusal (restore_refusals (image_named id s.images) id copy)) (Done []) Nothing (IsChange s (restore id copy) bytes moment) d
    (settles ∙ ap (λ (rs : List (Bool × Answer)). settled (first_refusal rs) (Done []) Nothing) (sym refusals)) refl)

-- Restores of a moment.

one_length : (id : BackupId) (images : List Image) → ((i : Image) → Contains images i → i.entry.length ≡ length i.bytes) → length (bytes_of (image_named id images)) ≡ length_of (record_named id (entries images))
one_length id [] sized = refl
one_length id (i ∷ images) sized = at (same_id i.entry.id id) (one_length id images (λ x among. sized x (suc among.0, omega (arith, among.1), among.2)))
  where
    at : (here : Bool) → length (bytes_of (image_named id images)) ≡ length_of (record_named id (entries images)) → length (bytes_of (cond here (Some i) (image_named id images))) ≡ length_of (cond here (Some i.entry) (record_named id (entries images)))
    at true later = sym (sized i (0, omega arith, refl))
    at false later = later

all_lengths : (images : List Image) → ((i : Image) → Contains images i → i.entry.length ≡ length i.bytes) → (ids : List BackupId) → total (bytes_with images ids) ≡ lengths (entries images) ids
all_lengths images sized [] = refl
all_lengths images sized (id ∷ ids) = λ j. one_length id images sized j + all_lengths images sized ids j

abbrev at_refusals : (client policy : List ℕ) → ℕ → Site → List ImageRecord → List (Bool × Answer)
at_refusals client policy before site records = restore_at_refusals client policy (chain_at policy client before records) (lengths records (ids_of (chain_at policy client before records))) (seen site records)

pub restore_at_decided : (site : Site) (records : List ImageRecord) (request : Request) (payload moment : ℕ) (client policy : List ℕ) (before : Option ℕ) (since : ℕ) (result : Result Decision AllocError)
    → restore_at client policy before ≡ class_of request
    → since ≡ unwrap_or before moment
    → IfOk result (λ d. d ≡ settled (first_refusal (at_refusals client policy since site records)) (Done []) Nothing)
    → (s : State) (bytes : List ℕ) → IsStateOf site records s → length bytes ≡ payload → IfOk result (IsDecision s request bytes moment)
restore_at_decided site records request payload moment client policy before since result is since_is settles s bytes state size = at result settles
  where
    refusals : (restore_at_case client policy (unwrap_or before moment) s).refusals ≡ at_refusals client policy (unwrap_or before moment) site records
    refusals =
        ap (λ (n : ℕ). restore_at_refusals client policy (chain_asked client policy (unwrap_or before moment) s) n s) (all_lengths s.images state.sized (ids_of (chain_asked client policy (unwrap_or before moment) s)))
        ∙ (λ j. at_refusals client policy (unwrap_or before moment) (state.site_is j) (state.images_are j))

    at : (r : Result Decision AllocError) → IfOk r (λ d. d ≡ settled (first_refusal (at_refusals client policy since site records)) (Done []) Nothing) → IfOk r (IsDecision s request bytes moment)
    at (Err e) so = tt
    at (Ok d) so =
        subst (λ (class : RequestClass). Decides s class bytes moment d) is
        (settled_as (first_refusal (restore_at_case client policy (unwrap_or before moment) s).refusals) (Done []) Nothing (IsChange s (restore_at client policy before) bytes moment) d
        (so ∙ ap (λ (n : ℕ). settled (first_refusal (at_refusals client policy n site records)) (Done []) Nothing) since_is ∙ ap (λ (rs : List (Bool × Answer)). settled (first_refusal rs) (Done []) Nothing) (sym refusals)) refl)

-- Changes of the site.

uses_seen : (removal : Removal) (site : Site) (records : List ImageRecord) (s : State) → IsStateOf site records s → uses_of removal s ≡ uses_of removal (seen site records)
uses_seen (gone_client name) site records s is = λ j. used_by name (first_of_client name ((is.images_are ∙ sym (entries_seen records)) j)) (find (is_of_client name) (is.idle j))
uses_seen (gone_policy name) site records s is = λ j. used_by name (first_under name ((is.images_are ∙ sym (entries_seen records)) j)) (find (is_under name) (is.idle j))

use_seen : (request : Request) (site : Site) (records : List ImageRecord) (s : State) → IsStateOf site records s → use_refusals request s ≡ use_refusals request (seen site records)
use_seen request site records s is = at (removal_of request)
  where
    at : (o : Option Removal) → option_map_or (λ removal. uses_of removal s) o [] ≡ option_map_or (λ removal. uses_of removal (seen site records)) o []
    at None = refl
    at (Some removal) = uses_seen removal site records s is

settings_seen : (request : Request) (site : Site) (records : List ImageRecord) (s : State) → IsStateOf site records s → setting_refusals request s ≡ setting_refusals request (seen site records)
settings_seen request site records s is = λ j. answered (refusals_of request (is.site_is j).book) ++ use_seen request site records s is j

pub setting_decided : (site : Site) (records : List ImageRecord) (request change : Request) (payload moment : ℕ) (result : Result Decision AllocError)
    → site_change change ≡ class_of request
    → IfOk result (DecidesAs (first_refusal (setting_refusals change (seen site records))) (Done []) (SetsSite site change))
    → (s : State) (bytes : List ℕ) → IsStateOf site records s → length bytes ≡ payload → IfOk result (IsDecision s request bytes moment)
setting_decided site records request change payload moment (Err e) is settles s bytes state size = tt
setting_decided site records request change payload moment (Ok d) is settles s bytes state size =
    let refusals : setting_refusals change (seen site records) ≡ setting_refusals change s = sym (settings_seen change site records s state) in
    let here : DecidesAs (first_refusal (setting_refusals change (seen site records))) (Done []) (SetsSite s.site change) d = subst (λ (x : Site). DecidesAs (first_refusal (setting_refusals change (seen site records))) (Done []) (SetsSite x change) d) (sym state.site_is) settles in
    subst (λ (class : RequestClass). Decides s class bytes moment d) is
    (subst (λ (rs : List (Bool × Answer)). DecidesAs (first_refusal rs) (Done []) (SetsSite s.site change) d) refusals here)

-- Site files.

pub file_decided : (request : Request) (payload moment : ℕ) (d : Decision) → site_file ≡ class_of request → d.answer ≡ Done [] → d.change ≡ Load → (s : State) (bytes : List ℕ) → length bytes ≡ payload → IsDecision s request bytes moment d
file_decided request payload moment d is answer change s bytes size = subst (λ (class : RequestClass). Decides s class bytes moment d) is (answer, change)

-- One image more.
lengths_push : (images : List ImageRecord) (ids : List BackupId) (id : BackupId) → lengths images (ids ++ id ∷ []) ≡ lengths images ids + length_of (record_named id images)
lengths_push images [] id = omega arith
lengths_push images (first ∷ ids) id = let later = lengths_push images ids id in omega (arith, later)

pub lengths_more : (images : List ImageRecord) (ids : List BackupId) (i total total' : ℕ) (id : BackupId) → i < length ids → id ≡ get_or ids i id → total ≡ lengths images (take i ids) → total' ≡ total + length_of (record_named id images) → total' ≡ lengths images (take (i + 1) ids)
lengths_more images ids i total total' id lt is so adds =
    let next : take i ids ++ id ∷ [] ≡ take (i + 1) ids = ap (λ (x : BackupId). take i ids ++ x ∷ []) is ∙ sym (take_more ids i id lt) in
    adds ∙ ap (λ (n : ℕ). n + length_of (record_named id images)) so ∙ sym (lengths_push images (take i ids) id) ∙ ap (lengths images) next
