-- What a change of the site leaves sound.
use Rattle.desk_model.proofs.Common.{◌≡◌, ◌≤◌, ◌-◌, ℕ, true, List, length, refl, sym, subst, arith, Option, Some, None, option_map, slice_get, Contains, StorageUnit, CopyRecord, Operation, Client, has, Policy, Book, unit_name, policy_name, last_of, piece_count, piece_limit, pieces, State, Image, Stored, is_known, unit_at, Sound, IsSoundBook, IsSoundLifecycle, IsSoundPolicy, IsSoundSet, IsSoundImage, IsSoundCopy, stored_on, operations_kept}
use Rattle.schedule_windows.specs.Zones.{ZoneOf}
use Rattle.slp_tree.specs.Lifecycles.{Lifecycle}
use Rattle.desk_model.specs.declared.site.Site.{Site}
use Rattle.desk_model.proofs.RuleLemmas.{unit_there, all_known, rules_kept, rules_hold}

-- a site with other units, clients and policies
abbrev pub book_with : Book → List StorageUnit → List Client → List Policy → Book
book_with book units clients policies = record { units = units; clients = clients; lifecycles = book.lifecycles; policies = policies }

-- the units that were there still are, with their segments
abbrev pub UnitsStay : Book → Book → Type 0
UnitsStay old new = (name : List ℕ) → has unit_name name old.units ≡ true → (has unit_name name new.units ≡ true) × ((unit_at name new).segment ≡ (unit_at name old).segment)

-- an image's client and policy are still there, and so is what is stored
pub record Stays (old new : Book) (stored stored' : List Stored) (image : Image) : Type 0 where
  pub client : is_known image.entry.id.client new ≡ true
  pub last : last_of image.entry.id.client old ≤ last_of image.entry.id.client new
  pub policy : has policy_name image.entry.policy new.policies ≡ true
  pub pieces : (unit piece : List ℕ) → Contains (stored_on unit stored) piece → Contains (stored_on unit stored') piece

module _ (book : Book) (units : List StorageUnit) (clients : List Client) (policies : List Policy) (stay : UnitsStay book (book_with book units clients policies)) where
  abbrev after : Book
  after = book_with book units clients policies

  pub lifecycle_stays : (l : Lifecycle) → IsSoundLifecycle book l → IsSoundLifecycle after l
  lifecycle_stays l sound = record { some = sound.some; rules = λ v among. rules_kept book.units units (λ name there. (stay name there).0) v.operations (sound.rules v among); few = sound.few }

  pub set_stays : (set : Stored) → IsSoundSet book set → IsSoundSet after set
  set_stays set sound = record {
    unit = (stay set.unit sound.unit).0;
    distinct = sound.distinct;
    sized = λ piece among. subst (λ (size : ℕ). (1 ≤ length piece) × (length piece ≤ size)) (sym (stay set.unit sound.unit).1) (sound.sized piece among);
  }

  module _ (stored stored' : List Stored) (image : Image) (site : IsSoundBook book) (stays : Stays book after stored stored' image) (sound : IsSoundImage book stored image) where
    -- the unit of a copy is there
    copy_unit : (copy : CopyRecord) → IsSoundCopy book stored image copy → has unit_name copy.unit book.units ≡ true
    copy_unit copy kept = at (slice_get (operations_kept book image) (copy.number - 1)) refl kept.unit
      where
        at : (o : Option Operation) → slice_get (operations_kept book image) (copy.number - 1) ≡ o → option_map (λ (operation : Operation). operation.unit) o ≡ Some copy.unit → has unit_name copy.unit book.units ≡ true
        at None is none = absurd (cc none)
        at (Some operation) is some =
            let unit_is : operation.unit ≡ copy.unit = cc some in
            subst (λ (name : List ℕ). has unit_name name book.units ≡ true) unit_is
            (unit_there book.units (operations_kept book image) (all_known book.units (operations_kept book image) (rules_hold book site.lifecycles image.entry.lifecycle image.entry.version sound.version)) (copy.number - 1) operation is)

    copy_stays : (copy : CopyRecord) → IsSoundCopy book stored image copy → IsSoundCopy after stored' image copy
    copy_stays copy kept = record {
      number = kept.number;
      complete = kept.complete;
      unit = kept.unit;
      moment = kept.moment;
      expiry = kept.expiry;
      pieces = λ piece among. stays.pieces copy.unit piece (kept.pieces piece (subst (λ (size : ℕ). Contains (pieces size image.bytes) piece) (stay copy.unit (copy_unit copy kept)).1 among));
      few = subst (λ (size : ℕ). piece_count size (length image.bytes) ≤ piece_limit) (sym (stay copy.unit (copy_unit copy kept)).1) kept.few;
    }

    pub image_stays : IsSoundImage after stored' image
    image_stays = record {
      client = stays.client;
      last = let low = sound.last in let rises = stays.last in omega (arith, low, rises);
      policy = stays.policy;
      version = sound.version;
      states = sound.states;
      first = sound.first;
      sources = sound.sources;
      cancelled = sound.cancelled;
      copies = λ copy among. copy_stays copy (sound.copies copy among);
      rising = sound.rising;
      primary = sound.primary;
      needed = sound.needed;
      size = sound.size;
      time = sound.time;
      base = sound.base;
    }

-- a policy whose lists' clients are still there
pub policy_stays : (book : Book) (units : List StorageUnit) (clients : List Client) (policies : List Policy) (p : Policy) → ((client : List ℕ) → Contains p.clients client → is_known client book ≡ true → is_known client (book_with book units clients policies) ≡ true) → IsSoundPolicy book p → IsSoundPolicy (book_with book units clients policies) p
policy_stays book units clients policies p stay sound = record {
  lifecycle = sound.lifecycle;
  clients = λ client among. stay client among (sound.clients client among);
  kinds = sound.kinds;
  ordered = sound.ordered;
  few_clients = sound.few_clients;
  few_selections = sound.few_selections;
  few_schedules = sound.few_schedules;
}

-- the units are as they were
pub same_units : (book : Book) (clients : List Client) (policies : List Policy) → UnitsStay book (book_with book book.units clients policies)
same_units book clients policies name there = (there, refl)

-- a state with another site
abbrev pub resited : State → Site → List Stored → State
resited s site stored = record s { site = site; stored = stored }

-- a change of clients and policies alone
module _ (s : State) (sound : Sound s) (clients : List Client) (policies : List Policy) (zone : ZoneOf) where
  abbrev old : Book
  old = s.site.book

  abbrev new : Book
  new = book_with old old.units clients policies

  pub lists_changed : IsSoundBook new → ((image : Image) → Contains s.images image → Stays old new s.stored s.stored image) → Sound (resited s (record { book = new; zone = zone }) s.stored)
  lists_changed site stays = record {
    ids = sound.ids;
    images = λ image among. image_stays old old.units clients policies (same_units old clients policies) s.stored s.stored image sound.site (stays image among) (sound.images image among);
    few_images = sound.few_images;
    own_sets = sound.own_sets;
    no_others = sound.no_others;
    sets = λ set among. set_stays old old.units clients policies (same_units old clients policies) set (sound.sets set among);
    site = site;
    no_jobs = sound.no_jobs;
    next_job = sound.next_job;
  }
