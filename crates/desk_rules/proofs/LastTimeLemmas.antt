-- The last time of images: of one image more, and that it is no later than they are.
use Rattle.desk_rules.proofs.Common.{◌≡◌, ◌≤◌, ◌&&◌, ℕ, List, [], ◌∷◌, ◌++◌, map, max, Bool, true, false, cond, Option, Some, None, refl, sym, ◌∙◌, ap, arith, bytes_eq, append-nil, filter, IfSome, option_map_or, map-append, filter-append, ImageRecord, is_of, latest, last_time, AllInTime}
use Rattle.std.proofs.lemmas.Slice.Eq.{bytes_eq-Decides}
use Rattle.site_types.specs.Limits.{last_moment}

-- the greatest of some times, where one may have none so far
abbrev with_time : ℕ → Option ℕ → ℕ
with_time time last = option_map_or (max time) last time

swapped : (u t : ℕ) (last : Option ℕ) → max u (with_time t last) ≡ max t (with_time u last)
swapped u t None = omega arith
swapped u t (Some v) = omega arith

latest_push : (times : List ℕ) (t : ℕ) → latest (times ++ t ∷ []) ≡ Some (with_time t (latest times))
latest_push [] t = refl
latest_push (u ∷ times) t = ap (λ (last : Option ℕ). Some (with_time u last)) (latest_push times t) ∙ ap (λ (n : ℕ). Some n) (swapped u t (latest times))

abbrev time_of : ImageRecord → ℕ
time_of image = image.id.time

latest_one_more : (P : ImageRecord → Bool) (images : List ImageRecord) (image : ImageRecord) → latest (map time_of (filter P (images ++ image ∷ []))) ≡ cond (P image) (Some (with_time image.id.time (latest (map time_of (filter P images))))) (latest (map time_of (filter P images)))
latest_one_more P images image =
    ap (λ (l : List ImageRecord). latest (map time_of l)) (filter-append P images (image ∷ [])) ∙ at (P image)
  where
    at : (b : Bool) → latest (map time_of (filter P images ++ cond b (image ∷ []) [])) ≡ cond b (Some (with_time image.id.time (latest (map time_of (filter P images))))) (latest (map time_of (filter P images)))
    at true = ap latest (map-append time_of (filter P images) (image ∷ [])) ∙ latest_push (map time_of (filter P images)) image.id.time
    at false = ap (λ (l : List ImageRecord). latest (map time_of l)) (append-nil (filter P images))

chosen : (a b d : Bool) (x u y v : Option ℕ) → (a ≡ true → b ≡ true → d ≡ true → x ≡ u) → y ≡ v → cond (a && (b && d)) x y ≡ cond ((a && b) && d) u v
chosen true true true x u y v both same_other = both refl refl refl
chosen true true false x u y v both same_other = same_other
chosen true false d x u y v both same_other = same_other
chosen false b d x u y v both same_other = same_other

module _ (images : List ImageRecord) (image : ImageRecord) (policy client schedule : List ℕ) where
  -- where the image is of these names the time is the later of the two, and else what it was
  pub last_time_one_more : (p c s : List ℕ) (old new : Option ℕ) (time : ℕ) → p ≡ image.policy → c ≡ image.id.client → s ≡ image.schedule → time ≡ with_time image.id.time (last_time images p c s) → old ≡ last_time images policy client schedule → new ≡ cond (bytes_eq p policy && (bytes_eq c client && bytes_eq s schedule)) (Some time) old → new ≡ last_time (images ++ image ∷ []) policy client schedule
  last_time_one_more p c s old new time by_policy by_client by_schedule time_is old_is new_is =
      let before : Option ℕ = last_time images policy client schedule in
      let later : Option ℕ = Some (with_time image.id.time before) in
      new_is
      ∙ chosen (bytes_eq p policy) (bytes_eq c client) (bytes_eq s schedule) (Some time) later old before
      (λ same_policy same_client same_schedule. ap (λ (n : ℕ). Some n) (time_is ∙ λ j. with_time image.id.time (last_time images ((bytes_eq-Decides p policy).0 same_policy j) ((bytes_eq-Decides c client).0 same_client j) ((bytes_eq-Decides s schedule).0 same_schedule j))))
      old_is
      ∙ (λ j. cond {A = Option ℕ} (bytes_eq (by_policy j) policy && bytes_eq (by_client j) client && bytes_eq (by_schedule j) schedule) later before)
      ∙ sym (latest_one_more (is_of policy client schedule) images image)

-- a last time is that of an image
pub latest_in_time : (P : ImageRecord → Bool) (images : List ImageRecord) → AllInTime images → IfSome (latest (map time_of (filter P images))) (λ t. t ≤ last_moment)
latest_in_time P [] each = tt
latest_in_time P (image ∷ images) each = at (P image) (latest_in_time P images each.1)
  where
    first : (last : Option ℕ) → IfSome last (λ t. t ≤ last_moment) → with_time image.id.time last ≤ last_moment
    first None later = each.0
    first (Some t) later = omega (arith, each.0, later)

    at : (b : Bool) → IfSome (latest (map time_of (filter P images))) (λ t. t ≤ last_moment) → IfSome (latest (map time_of (cond b (image ∷ filter P images) (filter P images)))) (λ t. t ≤ last_moment)
    at true later = first (latest (map time_of (filter P images))) later
    at false later = later
