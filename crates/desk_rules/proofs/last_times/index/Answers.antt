use Rattle.desk_rules.proofs.Common.{◌≡◌, ◌+◌, ◌∷◌, [], ◌++◌, ◌∙◌, ap, sym, take, max, List, Option, ℕ, option_map_or, take_more, ImageRecord, last_time}
use Rattle.desk_rules.specs.declared.last_times.Key.{Key}
use Rattle.desk_rules.proofs.LastTimeLemmas.{last_time_one_more}
use Rattle.desk_rules.proofs.last_times.index.Goals as goal

abbrev key : List ℕ → List ℕ → List ℕ → Key
key policy client schedule = record {
  policy = record { ref_ptr = (0, 0); now = policy };
  client = record { ref_ptr = (0, 0); now = client };
  schedule = record { ref_ptr = (0, 0); now = schedule };
}

pub loop-image-preserved : goal.loop-image-preserved
loop-image-preserved c = λ policy client schedule.
    let images : List ImageRecord = take c.loop-image.image-index c.args.images.now in
    let image : ImageRecord = c.image-item.result in
    let grown : take (c.loop-image.image-index + 1) c.args.images.now ≡ images ++ image ∷ [] =
    take_more c.args.images.now c.loop-image.image-index image c.loop-image-test.true ∙ ap (λ (i : ImageRecord). images ++ i ∷ []) (sym c.image-item.is) in
    last_time_one_more images image policy client schedule _ _ _ _ _ _ c.key_of-key.ensures.policy c.key_of-key.ensures.client c.key_of-key.ensures.schedule
    (c.later-time.ensures ∙ ap (λ (last : Option ℕ). option_map_or (max image.id.time) last image.id.time) (c.copied.ensures ∙ c.get.ensures.value ∙ c.loop-image.invariant c.key_of-key.result.policy.now c.key_of-key.result.client.now c.key_of-key.result.schedule.now))
    (c.loop-image.invariant policy client schedule) (c.in_ok-insert.ensures.updates.0 (key policy client schedule))
    ∙ ap (λ (l : List ImageRecord). last_time l policy client schedule) (sym grown)
