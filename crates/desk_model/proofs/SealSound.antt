-- An image that fits keeps a state sound.
use Rattle.desk_model.proofs.Common.{◌≡◌, ◌≤◌, ◌<◌, ◌+◌, ◌∙◌, ℕ, zero, suc, max, Bool, true, false, List, length, refl, sym, ap, subst, arith, Option, Some, None, is_some, unwrap_or, if◌then◌else◌, option_map, slice_get, Contains, option_map_or, bytes_eq, false≢true, bytes_eq-Decides, last_moment, BackupId, CopyRecord, Operation, StorageUnit, Client, named, has, put, Book, unit_name, client_name, policy_name, client_limit, disk0, last_of, AreById, record_named, piece_count, piece_limit, pieces, State, Image, Stored, entries, has_image, with_stored, image_limit, takes_all, is_known, operations_in, unit_at, sealed_entry, sealed, has_copy, Sound, IsSoundImage, IsSoundCopy, IsSoundSet, IsSoundBook, IsBase, has_version, text_is}
use Rattle.site_types.specs.declared.image.Base.{Base}
use Rattle.site_types.specs.declared.image.Kind.{Kind}
use Rattle.site_types.specs.declared.image.Expiry.TheVariants as expiry
use Rattle.site_types.specs.declared.image.ImageRecord.{ImageRecord}
use Rattle.desk_model.specs.Backups.{unit_of}
use Rattle.desk_model.proofs.NamedLemmas.{has-put, has-new, length-put, length-replaced, some_named, found_named}
use Rattle.desk_model.proofs.PieceLemmas.{pieces_sized, each_piece, distinct_all}
use Rattle.desk_model.proofs.StoredLemmas.{set_name, more_in, stored_length, stored_places, each_stored, stored_grows, stored_there}
use Rattle.desk_model.proofs.ImageLists.{entries-with, length-image, has_entry, each-with, ids_with}
use Rattle.desk_model.proofs.RuleLemmas.{rules_hold, AreSealed, are_sealed, needs_complete}
use Rattle.desk_model.proofs.Staying.{book_with, same_units, set_stays, image_stays}
use Rattle.desk_model.proofs.SiteSound.{last_put, clients_put}

-- An image that isn't there and for which there is room, under a policy and a version of a lifecycle that are there; its client is there, or its policy takes every client and there is room for one more; its moments are within their limits, and so is the number of its pieces.
pub record Fits (s : State) (entry : ImageRecord) (moment : ℕ) : Type 0 where
  pub room : length s.images < image_limit
  pub fresh : has_image entry.id s.images ≡ false
  pub policy : has policy_name entry.policy s.site.book.policies ≡ true
  pub version : has_version entry.lifecycle entry.version s.site.book ≡ true
  pub client : is_known entry.id.client s.site.book ≡ false → (takes_all entry.policy ≡ true) × (length s.site.book.clients < client_limit)
  pub time : (1 ≤ entry.id.time) × (entry.id.time ≤ last_moment)
  pub base : IsBase entry.base entry.id.time
  pub completed : moment ≤ last_moment
  pub few : piece_count (unit_at (unit_of (operations_in entry.lifecycle entry.version s.site.book)) s.site.book).segment entry.length ≤ piece_limit

-- no last id time is above the last moment
pub last_low : (book : Book) → ((c : Client) → Contains book.clients c → c.last ≤ last_moment) → (name : List ℕ) → last_of name book ≤ last_moment
last_low book each name = at (named client_name name book.clients) (λ c is. each c (found_named client_name name book.clients c is).1)
  where
    at : (o : Option Client) → ((c : Client) → o ≡ Some c → c.last ≤ last_moment) → option_map_or (λ (c : Client). c.last) o 0 ≤ last_moment
    at None low = omega arith
    at (Some c) low = low c refl

module _ (s : State) (sound : Sound s) (id : BackupId) (policy schedule : List ℕ) (kind : Kind) (base : Base) (lifecycle : List ℕ) (version moment : ℕ) (bytes : List ℕ) where
  abbrev old : Book
  old = s.site.book

  abbrev image : Image
  image = record { entry = sealed_entry old id policy schedule kind base lifecycle version moment (length bytes); bytes = bytes }

  abbrev os : List Operation
  os = operations_in lifecycle version old

  abbrev unit : List ℕ
  unit = unit_of os

  abbrev client : Client
  client = record { name = id.client; last = max (last_of id.client old) id.time }

  abbrev clients : List Client
  clients = put client_name client old.clients

  abbrev new : Book
  new = book_with old old.units clients old.policies

  abbrev more : List (List ℕ)
  more = pieces (unit_at unit old).segment bytes

  abbrev stored : List Stored
  stored = with_stored unit more s.stored

  module _ (fits : Fits s image.entry moment) where
    parts : AreSealed old.units os
    parts = are_sealed old.units os (rules_hold old sound.site.lifecycles lifecycle version fits.version)

    -- the unit to which it goes
    target : (u : StorageUnit) × (named unit_name unit old.units ≡ Some u)
    target = some_named unit_name unit old.units parts.there

    target_found : (target.0.name ≡ unit) × Contains old.units target.0
    target_found = found_named unit_name unit old.units target.0 target.1

    some_segment : 1 ≤ (unit_at unit old).segment
    some_segment =
        let sized = (sound.site.units target.0 target_found.1).segment.0 in
        subst (λ (u : StorageUnit). 1 ≤ u.segment) (sym (ap (λ (o : Option StorageUnit). unwrap_or o disk0) target.1)) (omega (arith, sized))

    own_set : option_map set_name (slice_get s.stored target.0.number) ≡ Some unit
    own_set = sound.own_sets target.0 target_found.1 ∙ ap (λ (n : List ℕ). Some n) target_found.0

    copy_sound : IsSoundCopy new stored image (record { number = 1; unit = unit; completed = moment; expiry = expiry.Rule })
    copy_sound = record {
      number = omega arith;
      complete = parts.first;
      unit = parts.unit;
      moment = fits.completed;
      expiry = tt;
      pieces = λ piece among. stored_there unit more s.stored target.0.number own_set piece among;
      few = fits.few;
    }

    in_time : id.time ≤ last_of id.client new
    in_time =
        subst (λ (k : ℕ). id.time ≤ k) (sym (last_put client id.client old.clients old ∙ (λ i. if (bytes_eq-Decides id.client id.client).1 refl i then client.last else last_of id.client old))) (omega arith)

    image_sound : IsSoundImage new stored image
    image_sound = record {
      client = has-new client_name client old.clients;
      last = in_time;
      policy = fits.policy;
      version = fits.version;
      states = parts.long;
      first = parts.first;
      sources = parts.sources;
      cancelled = λ o other waiting. parts.cancelled other;
      copies = only;
      rising = λ i j d below lt. absurd (omega arith);
      primary = refl;
      needed = λ o is. subst (λ (k : ℕ). has_copy (k + 1) (Some image) ≡ true) (sym (parts.only o (needs_complete os image.entry.states o is))) refl;
      size = refl;
      time = fits.time;
      base = fits.base;
    }
      where
        only : (c : CopyRecord) → Contains image.entry.copies c → IsSoundCopy new stored image c
        only c (zero, lt, is) = subst (IsSoundCopy new stored image) is copy_sound
        only c (suc k, lt, is) = absurd (omega arith)

    last_rises : (other : List ℕ) → last_of other old ≤ last_of other new
    last_rises other = subst (λ (k : ℕ). last_of other old ≤ k) (sym (last_put client other old.clients old)) (at (bytes_eq id.client other) refl)
      where
        at : (b : Bool) → bytes_eq id.client other ≡ b → last_of other old ≤ (if b then client.last else last_of other old)
        at true same =
            let is : last_of other old ≡ last_of id.client old = ap (λ (n : List ℕ). last_of n old) (sym (text_is id.client other same)) in
            omega (arith, is)
        at false differs = omega arith

    set_grows : (set : Stored) → set.unit ≡ unit → IsSoundSet new set → IsSoundSet new (more_in set more)
    set_grows set is kept = record {
      unit = kept.unit;
      distinct = distinct_all set.pieces more kept.distinct;
      sized = each_piece (λ (p : List ℕ). (1 ≤ length p) × (length p ≤ (unit_at set.unit new).segment)) set.pieces more kept.sized
          (λ p among. subst (λ (name : List ℕ). (1 ≤ length p) × (length p ≤ (unit_at name new).segment)) (sym is) (pieces_sized (unit_at unit old).segment bytes some_segment p among));
    }

    site_sound : IsSoundBook new
    site_sound =
        let low = last_low old sound.site.last id.client in
        let early = fits.time.1 in
        clients_put old client sound.site (omega (arith, low, early)) (at (is_known id.client old) refl)
      where
        at : (b : Bool) → is_known id.client old ≡ b → length clients ≤ client_limit
        at true known =
            let long = length-replaced client_name client old.clients sound.site.ordered.clients known in
            let few = sound.site.few_clients in
            omega (arith, long, few)
        at false unknown =
            let long = length-put client_name client old.clients in
            let room = (fits.client unknown).1 in
            omega (arith, long, room)

    pub seal_sound : Sound (sealed image unit s)
    seal_sound = record {
      ids = subst AreById (sym (entries-with image s.images)) (ids_with image.entry (entries s.images) (none_there (record_named id (entries s.images)) (has_entry id s.images ∙ fits.fresh)) sound.ids);
      images = each-with (IsSoundImage new stored) image s.images image_sound (λ other among.
          let kept = sound.images other among in
          image_stays old old.units clients old.policies (same_units old clients old.policies) s.stored stored other sound.site
          (record { client = has-put client_name client other.entry.id.client old.clients kept.client; last = last_rises other.entry.id.client; policy = kept.policy; pieces = stored_grows unit more s.stored }) kept);
      few_images = let long = length-image image s.images in let room = fits.room in omega (arith, long, room);
      own_sets = λ u among. stored_places unit more s.stored u.number ∙ sound.own_sets u among;
      no_others = stored_length unit more s.stored ∙ sound.no_others;
      sets = each_stored unit more (IsSoundSet new) s.stored set_grows (λ set among. set_stays old old.units clients old.policies (same_units old clients old.policies) set (sound.sets set among));
      site = site_sound;
      no_jobs = sound.no_jobs;
      next_job = sound.next_job;
    }
      where
        none_there : (o : Option ImageRecord) → is_some o ≡ false → o ≡ None
        none_there None is = refl
        none_there (Some i) is = absurd (false≢true (sym is))
