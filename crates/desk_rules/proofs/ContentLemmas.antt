-- What a backup seals.
use Rattle.desk_rules.proofs.Common.{◌≡◌, ◌≤◌, ◌+◌, ◌∙◌, ◌⊎◌, ℕ, Bool, true, false, if◌then◌else◌, cond, List, [], ◌∷◌, ◌++◌, length, map, flat_map, Option, Some, None, Err, refl, sym, ap, arith, inl, inr, unwrap_or, nat_le, is_some, option_map, Answer, ImageRecord, Policy, adhoc, State, Site, Asked, backup_refusals, base_of, policy_asked, reference_of, schedule_asked, first_refusal, IsStateOf, JobBody, backup_body, Passes, Refusal, Answered, manual}
use Rattle.std.proofs.lemmas.List.{length-append}
use Rattle.std.specs.Prelude.{codes, nat_lt}
use Rattle.site_types.specs.declared.answer.Answer.TheVariants.{BadStream, OutOfMemory, TooMany, UnitFull}
use Rattle.site_types.specs.declared.unit.Unit.{Unit as StorageUnit}
use Rattle.site_types.specs.declared.image.Base.{Base}
use Rattle.policy_book.specs.Book.{policy_name}
use Rattle.policy_book.specs.Lists.{has, named}
use Rattle.image_kinds.specs.Images.{is_selected, item_made, made, selected}
use Rattle.image_kinds.specs.declared.entry.Entry.{Entry}
use Rattle.image_kinds.specs.declared.entry.Item.TheVariants.{Taken, Kept}
use Rattle.image_kinds.specs.Streams.{spelled_content, spelled_image, spelled_item, spelled_path, spelled_stream}
use Rattle.std.specs.Int.{to_be_bytes, w64}
use Rattle.image_catalogue.specs.Images.{used}
use Rattle.desk_model.specs.Backups.{backup_content, backup_unit, content_refusals, image_asked, sealed_bytes, stream_break, unit_at}
use Rattle.desk_model.specs.Pieces.{piece_count, piece_limit}
use Rattle.desk_model.proofs.NamedLemmas.{found_named}
use Rattle.desk_model.proofs.Passing.{all_passed, there_is}
use Rattle.desk_rules.specs.Contents.{base_in, base_time, content_under, policy_in, policy_of}

-- The policy of a backup that nothing refuses.

module _ (asked : Asked) (moment : ℕ) (s : State) (none : first_refusal (backup_refusals asked moment s) ≡ None) where
  abbrev policy : Policy
  policy = unwrap_or (policy_asked asked s) adhoc

  one : (p : Policy) × (policy_asked asked s ≡ Some p)
  one = there_is (policy_asked asked s) (all_passed (backup_refusals asked moment s) none).1.0

  policy_is : policy ≡ one.0
  policy_is = ap (λ (o : Option Policy). unwrap_or o adhoc) one.1

  policy_found : named policy_name policy.name s.site.book.policies ≡ Some policy
  policy_found =
      ap (λ (p : Policy). named policy_name p.name s.site.book.policies) policy_is
      ∙ ap (λ (n : List ℕ). named policy_name n s.site.book.policies) (found_named policy_name asked.policy s.site.book.policies one.0 one.1).0
      ∙ one.1 ∙ ap Some (sym policy_is)

  pub policy_known : has policy_name policy.name s.site.book.policies ≡ true
  policy_known = ap is_some policy_found

  pub policy_there : policy_of policy.name s.site.book ≡ policy
  policy_there = ap (λ (o : Option Policy). unwrap_or o adhoc) policy_found

base_back : (o : Option ℕ) → base_time (base_of o) ≡ o
base_back None = refl
base_back (Some time) = refl

abbrev content_with : List ℕ → Policy → List ℕ → Site → List ImageRecord → List (Bool × Answer)
content_with payload policy bytes here images =
    let unit = unit_at (backup_unit policy here.book) here.book in
    content_refusals (stream_break policy payload) unit (used unit.name images) (length bytes)

-- What refuses it, one after the other.

abbrev pub break_refusals : Policy → List ℕ → List (Bool × Answer)
break_refusals policy payload = (is_some (stream_break policy payload), BadStream (unwrap_or (stream_break policy payload) 0)) ∷ []

abbrev pub copy_refusals : StorageUnit → ℕ → ℕ → List (Bool × Answer)
copy_refusals unit held size =
    (nat_lt piece_limit (piece_count unit.segment size), TooMany (codes "pieces") (piece_count unit.segment size) piece_limit)
    ∷ (nat_lt unit.capacity (held + size), UnitFull unit.name held size unit.capacity)
    ∷ []

pub content_parts : (site : Site) (records : List ImageRecord) (name payload : List ℕ) (base : Base) (policy : Policy) (unit : StorageUnit) (held : ℕ) (bytes : List ℕ)
    → Some policy ≡ named policy_name name site.book.policies
    → unit ≡ unit_at (backup_unit policy site.book) site.book
    → held ≡ used unit.name records
    → bytes ≡ sealed_bytes policy (base_time base) payload
    → content_under (policy_of name site.book) base payload site records ≡ break_refusals policy payload ++ copy_refusals unit held (length bytes)
content_parts site records name payload base policy unit held bytes found unit_is held_is bytes_are =
    ap (λ (o : Option Policy). content_under (unwrap_or o adhoc) base payload site records) (sym found)
    ∙ (λ j. break_refusals policy payload ++ copy_refusals (sym unit_is j) (used (sym unit_is j).name records) (length (sym bytes_are j)))
    ∙ ap (λ (n : ℕ). break_refusals policy payload ++ copy_refusals unit n (length bytes)) (sym held_is)

-- what refuses its content under the policy and with the base of its body
module _ (site : Site) (records : List ImageRecord) (body : JobBody) (payload : List ℕ) (s : State) (asked : Asked) (size moment : ℕ) (state : IsStateOf site records s) (none : first_refusal (backup_refusals asked moment s) ≡ None) (body_is : body ≡ backup_body asked size moment s) where
  abbrev under : Policy
  under = policy_of (policy_in body) site.book

  policy_same : under ≡ unwrap_or (policy_asked asked s) adhoc
  policy_same = (λ j. policy_of (policy_in (body_is j)) (sym state.site_is j).book) ∙ policy_there asked moment s none

  time_same : base_time (base_in body) ≡ reference_of asked.client (unwrap_or (policy_asked asked s) adhoc) (unwrap_or (schedule_asked asked s) manual) s
  time_same = ap (λ (b : JobBody). base_time (base_in b)) body_is ∙ base_back _

  pub bytes_same : sealed_bytes under (base_time (base_in body)) payload ≡ (image_asked asked payload moment s).bytes
  bytes_same = λ j. sealed_bytes (policy_same j) (time_same j) payload

  pub content_same : content_under under (base_in body) payload site records ≡ backup_content asked payload moment s
  content_same = λ j. content_with payload (policy_same j) (bytes_same j) (sym state.site_is j) (sym state.images_are j)

-- a refusal of the rules, or its answer
pub shown_by : {A : Type 0} (refusals : List (Bool × Answer)) (r : Refusal) (answer : Answer) → r ≡ Answered answer → Passes {A = A} refusals (Err r) → (answer ≡ OutOfMemory) ⊎ (first_refusal refusals ≡ Some answer)
shown_by refusals r answer is passes = elim passes.refused [ inl lacks ↦ absurd (cc (sym is ∙ lacks)) | inr first ↦ inr (at (first_refusal refusals) (first ∙ ap Some is)) ]
  where
    at : (o : Option Answer) → option_map Answered o ≡ Some (Answered answer) → o ≡ Some answer
    at None is' = absurd (cc is')
    at (Some a) is' = cc is'

-- What is made of a stream is spelled in no more bytes than the stream.

kept_short : (e : Entry) → length (spelled_item (Kept e.path)) ≤ length (spelled_item (Taken e))
kept_short e = let long = length-append (spelled_path e.path) (to_be_bytes w64 e.time ++ spelled_content e.content) in omega (arith, long)

item_short : (reference : Option ℕ) (e : Entry) → length (spelled_item (item_made reference e)) ≤ length (spelled_item (Taken e))
item_short None e = omega arith
item_short (Some moment) e = at (nat_le moment e.time)
  where
    at : (b : Bool) → length (spelled_item (if b then Taken e else Kept e.path)) ≤ length (spelled_item (Taken e))
    at true = omega arith
    at false = kept_short e

items_short : (selections : List (List ℕ)) (reference : Option ℕ) (stream : List Entry) → length (flat_map spelled_item (made selections reference stream)) ≤ length (flat_map spelled_item (map Taken stream))
items_short selections reference [] = omega arith
items_short selections reference (e ∷ stream) = at (is_selected selections e.path) (items_short selections reference stream)
  where
    later : length (spelled_item (Taken e) ++ flat_map spelled_item (map Taken stream)) ≡ length (spelled_item (Taken e)) + length (flat_map spelled_item (map Taken stream))
    later = length-append (spelled_item (Taken e)) (flat_map spelled_item (map Taken stream))

    at : (b : Bool) → length (flat_map spelled_item (map (item_made reference) (selected selections stream))) ≤ length (flat_map spelled_item (map Taken stream))
        → length (flat_map spelled_item (map (item_made reference) (cond b (e ∷ selected selections stream) (selected selections stream)))) ≤ length (flat_map spelled_item (map Taken (e ∷ stream)))
    at true short =
        let front = length-append (spelled_item (item_made reference e)) (flat_map spelled_item (map (item_made reference) (selected selections stream))) in
        let item = item_short reference e in
        let all = later in
        omega (arith, front, item, short, all)
    at false short = let all = later in omega (arith, short, all)

pub made_short : (selections : List (List ℕ)) (reference : Option ℕ) (stream : List Entry) → length (spelled_image (made selections reference stream)) ≤ length (spelled_stream stream)
made_short selections reference stream =
    let short = items_short selections reference stream in
    let image = length-append (flat_map spelled_item (made selections reference stream)) (0 ∷ []) in
    let whole = length-append (flat_map spelled_item (map Taken stream)) (0 ∷ []) in
    omega (arith, short, image, whole)
