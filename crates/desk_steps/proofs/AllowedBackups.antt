-- A backup that the rules allow is of an image that fits.
use Rattle.desk_model.proofs.Common.{◌≡◌, ◌≤◌, ◌<◌, ℕ, Bool, true, false, List, length, refl, arith, None, is_some, not, ◌&&◌, ◌||◌, nat_le, nat_lt, nat_tests, last_moment, has, policy_name, client_limit, State, first_refusal, has_image, Asked, backup_refusals, image_asked, image_limit, takes_all, is_known, Sound, IsBase, piece_limit}
use Rattle.std.proofs.lemmas.Bool.{not_from_false}
use Rattle.site_types.specs.declared.image.Base.{Base}
use Rattle.site_types.specs.declared.image.Base.TheVariants as base
use Rattle.pool_journal.specs.declared.entry.WholeImage.{WholeImage}
use Rattle.slp_tree.specs.Lifecycles.{version_named}
use Rattle.desk_model.specs.Backups.{backup_content}
use Rattle.desk_model.proofs.SoundSteps.{content_fits}
use Rattle.desk_rules.specs.Decisions.{backup_body}
use Rattle.vault_ledger.specs.Fitting.{client_fits, image_fits, is_base_below, whole_pieces}
use Rattle.desk_steps.specs.Backups.{whole_of}

client_there : (known takes : Bool) (count : ℕ) → (known ≡ false → (takes ≡ true) × (count < client_limit)) → (known || (takes && nat_lt count client_limit)) ≡ true
client_there true takes count room = refl
client_there false takes count room =
    let some = room refl in
    let few : nat_lt count client_limit ≡ true = let lt = some.1 in grind (arith, nat_tests, lt) in
    λ i. some.0 i && few i

-- a base from 1 on and below a time
below_base : (b : Base) (time : ℕ) → IsBase b time → is_base_below b time ≡ true
below_base base.None time is = refl
below_base (base.Time moment) time is =
    let from : nat_le 1 moment ≡ true = let low = is.0 in grind (arith, nat_tests, low) in
    let to : nat_lt moment time ≡ true = let high = is.1 in grind (arith, nat_tests, high) in
    λ i. from i && to i

module _ (s : State) (sound : Sound s) (asked : Asked) (payload : List ℕ) (size moment : ℕ) where
  abbrev w : WholeImage
  w = whole_of (backup_body asked size moment s) (length (image_asked asked payload moment s).bytes) moment

  pub allowed_fits : moment ≤ last_moment → first_refusal (backup_refusals asked moment s) ≡ None → first_refusal (backup_content asked payload moment s) ≡ None → image_fits s w ≡ true
  allowed_fits early none none_content =
      let fits = content_fits s sound asked payload moment early none none_content in
      let count = fits.room in
      let time = fits.time in
      let room : nat_lt (length s.images) image_limit ≡ true = grind (arith, nat_tests, count) in
      let from : nat_le 1 w.id.time ≡ true = let low = time.0 in grind (arith, nat_tests, low) in
      let to : nat_le w.id.time last_moment ≡ true = let high = time.1 in grind (arith, nat_tests, high) in
      let completed : nat_le moment last_moment ≡ true = grind (arith, nat_tests, early) in
      let fresh : not (has_image w.id s.images) ≡ true = not_from_false (has_image w.id s.images) fits.fresh in
      let policy : has policy_name w.policy s.site.book.policies ≡ true = fits.policy in
      let version : is_some (version_named w.lifecycle w.version s.site.book.lifecycles) ≡ true = fits.version in
      let client : client_fits s w ≡ true = client_there (is_known w.id.client s.site.book) (takes_all w.policy) (length s.site.book.clients) fits.client in
      let below : is_base_below w.base w.id.time ≡ true = below_base w.base w.id.time fits.base in
      let few : nat_le (whole_pieces s w) piece_limit ≡ true = let low = fits.few in grind (arith, nat_tests, low) in
      λ i. room i && fresh i && policy i && version i && client i && from i && to i && below i && completed i && few i
