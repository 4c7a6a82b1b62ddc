-- The copies of images one after another, and their order by age.
use Rattle.std.proofs.Common.{◌≡◌, ℕ, List, [], ◌∷◌, map, Bool, false, cond, Option, Some, None, refl, sym, ◌∙◌}
use Rattle.std.specs.Prelude.{◌&&◌, not, filter}
use Rattle.std.specs.Option.{option_map_or}
use Rattle.std.specs.Cmp.{IsTotalOrder}
use Rattle.std.proofs.lemmas.Cmp.{nat_cmp_total, nat_list_cmp_total, then_total, on_total}
use Rattle.site_types.specs.declared.image.CopyRecord.{CopyRecord}
use Rattle.site_types.specs.declared.image.ImageRecord.{ImageRecord}
use Rattle.slp_tree.specs.Lifecycles.{Lifecycle}
use Rattle.slp_tree.specs.Trees.{Version}
use Rattle.retention_rules.specs.Eligible.{is_eligible, is_capacity_managed, version_of}
use Rattle.retention_rules.specs.Cleanup.{Kept, with_image, copies_of, by_age, goes_anyway, is_candidate, goes_under, is_candidate_under}

pub by_age_total : IsTotalOrder by_age
by_age_total =
    then_total (on_total (λ (k : Kept). k.image.id.time) nat_cmp_total)
    (then_total (on_total (λ (k : Kept). k.image.id.client) nat_list_cmp_total)
    (on_total (λ (k : Kept). k.copy.number) nat_cmp_total))

-- One image, whose copies are under its version.

module _ (image : ImageRecord) where
  agree : (P Q : Kept → Bool) → ((copy : CopyRecord) → P (with_image image copy) ≡ Q (with_image image copy)) → (cs : List CopyRecord) → filter P (map (with_image image) cs) ≡ filter Q (map (with_image image) cs)
  agree P Q same [] = refl
  agree P Q same (c ∷ cs) = λ j. cond (same c j) (with_image image c ∷ agree P Q same cs j) (agree P Q same cs j)

  none_pass : (P : Kept → Bool) → ((copy : CopyRecord) → P (with_image image copy) ≡ false) → (cs : List CopyRecord) → filter P (map (with_image image) cs) ≡ []
  none_pass P none [] = refl
  none_pass P none (c ∷ cs) = (λ j. cond (none c j) (with_image image c ∷ filter P (map (with_image image) cs)) (filter P (map (with_image image) cs))) ∙ none_pass P none cs

  module _ (lifecycles : List Lifecycle) (moment : ℕ) where
    abbrev may : Option Version → CopyRecord → Bool
    may o copy = option_map_or (λ (v : Version). is_eligible v image copy moment) o false

    abbrev managed : Option Version → CopyRecord → Bool
    managed o copy = option_map_or (λ (v : Version). is_capacity_managed v copy) o false

    pub none_go : version_of lifecycles image ≡ None → filter (goes_anyway lifecycles moment) (copies_of image) ≡ []
    none_go is = none_pass (goes_anyway lifecycles moment) (λ c j. may (is j) c && not (managed (is j) c)) image.copies

    pub no_candidates : version_of lifecycles image ≡ None → filter (is_candidate lifecycles moment) (copies_of image) ≡ []
    no_candidates is = none_pass (is_candidate lifecycles moment) (λ c j. may (is j) c && managed (is j) c) image.copies

    pub go_under : (version : Version) → version_of lifecycles image ≡ Some version → filter (goes_under version moment) (copies_of image) ≡ filter (goes_anyway lifecycles moment) (copies_of image)
    go_under version is = sym (agree (goes_anyway lifecycles moment) (goes_under version moment) (λ c j. may (is j) c && not (managed (is j) c)) image.copies)

    pub candidates_under : (version : Version) → version_of lifecycles image ≡ Some version → filter (is_candidate_under version moment) (copies_of image) ≡ filter (is_candidate lifecycles moment) (copies_of image)
    candidates_under version is = sym (agree (is_candidate lifecycles moment) (is_candidate_under version moment) (λ c j. may (is j) c && managed (is j) c) image.copies)
