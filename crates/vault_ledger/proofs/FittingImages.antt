-- An image that fits an outline.
use Rattle.desk_model.proofs.Common.{◌≡◌, ◌<◌, ◌∙◌, ℕ, Bool, true, false, List, length, refl, sym, ap, subst, arith, is_some, not, ◌&&◌, ◌||◌, nat_le, nat_lt, false≢true, and_parts, nat_tests, length-map, last_moment, has, policy_name, client_limit, State, Image, Stored, entries, has_image, image_limit, takes_all, is_known, sealed, Sound, IsBase, record_named}
use Rattle.std.proofs.lemmas.Bool.{not-true}
use Rattle.site_types.specs.declared.image.Base.{Base}
use Rattle.site_types.specs.declared.image.Base.TheVariants as base
use Rattle.site_types.specs.declared.image.ImageRecord.{ImageRecord}
use Rattle.pool_journal.specs.declared.entry.WholeImage.{WholeImage}
use Rattle.slp_tree.specs.Lifecycles.{version_named}
use Rattle.desk_model.proofs.ImageLists.{has_entry}
use Rattle.desk_model.specs.Pieces.{piece_limit}
use Rattle.desk_model.proofs.SealSound.{Fits, seal_sound}
use Rattle.vault_ledger.specs.Fitting.{client_fits, image_fits, is_base_below, whole_entry, whole_image, whole_pieces, whole_unit}

is_base : (b : Base) (time : ℕ) → is_base_below b time ≡ true → IsBase b time
is_base base.None time below = tt
is_base (base.Time moment) time below =
    let parts = and_parts (nat_le 1 moment) (nat_lt moment time) below in
    let from = parts.0 in
    let to = parts.1 in
    (grind (arith, nat_tests, from), grind (arith, nat_tests, to))

room_for : (known takes : Bool) (count : ℕ) → (known || (takes && nat_lt count client_limit)) ≡ true → known ≡ false → (takes ≡ true) × (count < client_limit)
room_for true takes count fits unknown = absurd (false≢true (sym unknown))
room_for false true count fits unknown = (refl, grind (arith, nat_tests, fits))
room_for false false count fits unknown = absurd (false≢true fits)

-- an image that an opening takes is one that fits
pub fits_by : (s : State) (w : WholeImage) → image_fits s w ≡ true → Fits s (whole_entry s.site.book w) w.completed
fits_by s w fits =
    let k = and_parts _ (nat_le (whole_pieces s w) piece_limit) fits in
    let h = and_parts _ (nat_le w.completed last_moment) k.0 in
    let g = and_parts _ (is_base_below w.base w.id.time) h.0 in
    let f = and_parts _ (nat_le w.id.time last_moment) g.0 in
    let e = and_parts _ (nat_le 1 w.id.time) f.0 in
    let d = and_parts _ (client_fits s w) e.0 in
    let c = and_parts _ (is_some (version_named w.lifecycle w.version s.site.book.lifecycles)) d.0 in
    let b = and_parts _ (has policy_name w.policy s.site.book.policies) c.0 in
    let a = and_parts (nat_lt (length s.images) image_limit) (not (has_image w.id s.images)) b.0 in
    let room : nat_lt (length s.images) image_limit ≡ true = a.0 in
    let from : nat_le 1 w.id.time ≡ true = e.1 in
    let to : nat_le w.id.time last_moment ≡ true = f.1 in
    let late : nat_le w.completed last_moment ≡ true = h.1 in
    let few : nat_le (whole_pieces s w) piece_limit ≡ true = k.1 in
    record {
      room = grind (arith, nat_tests, room);
      fresh = not-true (has_image w.id s.images) a.1;
      policy = b.1;
      version = c.1;
      client = room_for (is_known w.id.client s.site.book) (takes_all w.policy) (length s.site.book.clients) d.1;
      time = (grind (arith, nat_tests, from), grind (arith, nat_tests, to));
      base = is_base w.base w.id.time g.1;
      completed = grind (arith, nat_tests, late);
      few = grind (arith, nat_tests, few);
    }

-- and it leaves a state sound, with bytes of its length
pub whole_sound : (s : State) → Sound s → (w : WholeImage) (bytes : List ℕ) → w.length ≡ length bytes → image_fits s w ≡ true → Sound (sealed (whole_image s w bytes) (whole_unit s w) s)
whole_sound s sound w bytes long fits =
    subst (λ (n : ℕ). Sound (sealed (whole_image s (record w { length = n }) bytes) (whole_unit s w) s)) (sym long)
    (seal_sound s sound w.id w.policy w.schedule w.kind w.base w.lifecycle w.version w.completed bytes
    (subst (λ (n : ℕ). Fits s (whole_entry s.site.book (record w { length = n })) w.completed) long (fits_by s w fits)))

-- whether it fits is seen of the site and of what the catalogue has of the images
pub fits_same : (s : State) (images : List Image) (stored : List Stored) (w : WholeImage) → entries images ≡ entries s.images → image_fits (record s { images = images; stored = stored }) w ≡ image_fits s w
fits_same s images stored w listed =
    λ i. nat_lt (count i) image_limit && not (there i)
    && has policy_name w.policy s.site.book.policies && is_some (version_named w.lifecycle w.version s.site.book.lifecycles)
    && client_fits s w
    && nat_le 1 w.id.time && nat_le w.id.time last_moment && is_base_below w.base w.id.time && nat_le w.completed last_moment && nat_le (whole_pieces s w) piece_limit
  where
    count : length images ≡ length s.images
    count = sym (length-map images (λ (i : Image). i.entry)) ∙ ap (λ (l : List ImageRecord). length l) listed ∙ length-map s.images (λ (i : Image). i.entry)

    there : has_image w.id images ≡ has_image w.id s.images
    there = sym (has_entry w.id images) ∙ ap (λ (l : List ImageRecord). is_some (record_named w.id l)) listed ∙ has_entry w.id s.images
