-- Each change of the site keeps a state sound.
use Rattle.desk_model.proofs.Common.{◌≡◌, ◌≤◌, ◌<◌, ◌∙◌, ℕ, suc, Bool, true, false, List, [], ◌∷◌, ◌++◌, length, refl, sym, ap, subst, arith, ⊎_elim, Option, Some, None, is_some, unwrap_or, not, ◌&&◌, nat_le, if◌then◌else◌, Contains, option_map_or, bytes_eq, false≢true, not-false, nat_tests, length_push, bytes_eq-Decides, are_marks, segment_key, fragment_key, slots_key, capacity_key, high_key, last_moment, StorageUnit, Client, AreByName, named, has, put, without, changed, itself, Policy, Book, unit_name, client_name, policy_name, schedule_name, unit_limit, client_limit, policy_limit, listed_limit, selection_limit, schedule_limit, disk0, unit_of, unit_added, unit_with, unit_changed, client_added, lister, client_removed, last_of, has_lifecycle, policy_added, with_policy, policy_with, policy_removed, clients_of, with_listed, without_listed, selections_of, with_path, without_path, schedules_of, is_full, breaks_rule_8, with_schedule, without_schedule, rising_put, rising_without, named-put, text_is, first_of_client, first_under, State, Image, Stored, entries, is_known, Sound, IsSoundUnit, IsSoundPolicy, IsSoundBook, IsSoundSet, IsNumberOf, HasSet, stored_on}
use Rattle.std.proofs.lemmas.List.Elements.{Contains-push_cases}
use Rattle.site_types.specs.Keys.{Key}
use Rattle.site_types.specs.declared.schedule.Schedule.{Schedule}
use Rattle.policy_book.specs.declared.units.NewUnit.{NewUnit}
use Rattle.policy_book.specs.declared.units.UnitChange.{UnitChange}
use Rattle.desk_model.proofs.NamedLemmas.{named-changed, has-put, has-new, has-without, has-changed, named-without, has-contained, named-contained, length-put, length-added, length-replaced, length-without, length-changed, rising-changed, each-put, each-changed, each-changed-named, each-without, some_named}
use Rattle.desk_model.proofs.StoredLemmas.{stored_pushed, places_pushed, place_pushed}
use Rattle.desk_model.proofs.Passing.{none_passes, mapped_in}
use Rattle.desk_model.proofs.Staying.{book_with, UnitsStay, same_units, lifecycle_stays, policy_stays, set_stays, image_stays, resited, lists_changed}
use Rattle.desk_model.proofs.Asking.{IsGiven, AddsUnit, ChangesUnit}

-- Clients.

-- the last id time of a client once one was put in
pub last_put : (new : Client) (other : List ℕ) (clients : List Client) (book : Book) → last_of other (record book { clients = put client_name new clients }) ≡ (if bytes_eq new.name other then new.last else last_of other (record book { clients = clients }))
last_put new other clients book = ap (λ (o : Option Client). option_map_or (λ c. c.last) o 0) (named-put client_name new other clients) ∙ at (bytes_eq new.name other)
  where
    at : (b : Bool) → option_map_or (λ (c : Client). c.last) (if b then Some new else named client_name other clients) 0 ≡ (if b then new.last else option_map_or (λ (c : Client). c.last) (named client_name other clients) 0)
    at true = refl
    at false = refl

pub clients_put : (book : Book) (new : Client) → IsSoundBook book → new.last ≤ last_moment → length (put client_name new book.clients) ≤ client_limit → IsSoundBook (book_with book book.units (put client_name new book.clients) book.policies)
clients_put book new site low few =
    let clients = put client_name new book.clients in
    record {
      ordered = record { units = site.ordered.units; few = site.ordered.few; clients = rising_put client_name book.clients new site.ordered.clients; policies = site.ordered.policies };
      by_name = site.by_name;
      few_clients = few;
      few_lifecycles = site.few_lifecycles;
      few_policies = site.few_policies;
      units = site.units;
      lifecycles = λ l among. lifecycle_stays book book.units clients book.policies (same_units book clients book.policies) l (site.lifecycles l among);
      policies = λ p among. policy_stays book book.units clients book.policies p (λ client there known. has-put client_name new client book.clients known) (site.policies p among);
      last = each-put client_name (λ (c : Client). c.last ≤ last_moment) new book.clients low site.last;
    }

module _ (s : State) (sound : Sound s) where
  abbrev book : Book
  book = s.site.book

  abbrev Is : Book → List Stored → Type 0
  Is new stored = Sound (resited s (record { book = new; zone = s.site.zone }) stored)

  pub client_is_added : (name : List ℕ) → nat_le client_limit (length book.clients) ≡ false → has client_name name book.clients ≡ false → Is (client_added name book) s.stored
  client_is_added name room fresh =
      let new : Client = record { name = name; last = 0 } in
      let more = length-put client_name new book.clients in
      lists_changed s sound (put client_name new book.clients) book.policies s.site.zone
      (clients_put book new sound.site (omega arith) (grind (arith, nat_tests, room, more)))
      (λ image among.
      let kept = sound.images image among in
      record {
        client = has-put client_name new image.entry.id.client book.clients kept.client;
        last = subst (λ (k : ℕ). last_of image.entry.id.client book ≤ k) (sym (last_put new image.entry.id.client book.clients book)) (at new image.entry.id.client (bytes_eq name image.entry.id.client) refl kept.client);
        policy = kept.policy;
        pieces = λ unit piece there. there;
      })
    where
      at : (new : Client) (client : List ℕ) (b : Bool) → bytes_eq name client ≡ b → is_known client book ≡ true → last_of client book ≤ (if b then new.last else last_of client book)
      at new client true same known = absurd (false≢true (sym fresh ∙ ap (λ (n : List ℕ). is_known n book) (text_is name client same) ∙ known))
      at new client false differs known = omega arith

  -- a client that no policy lists and that has no image
  pub client_is_removed : (name : List ℕ) → is_some (lister name book.policies) ≡ false → is_some (first_of_client name (entries s.images)) ≡ false → Is (client_removed name book) s.stored
  client_is_removed name unlisted unused =
      let site = sound.site in
      let clients = without client_name name book.clients in
      let fewer = length-without client_name name book.clients in
      let few = site.few_clients in
      lists_changed s sound clients book.policies s.site.zone
      (record {
        ordered = record { units = site.ordered.units; few = site.ordered.few; clients = rising_without client_name book.clients name site.ordered.clients; policies = site.ordered.policies };
        by_name = site.by_name;
        few_clients = omega (arith, few, fewer);
        few_lifecycles = site.few_lifecycles;
        few_policies = site.few_policies;
        units = site.units;
        lifecycles = λ l among. lifecycle_stays book book.units clients book.policies (same_units book clients book.policies) l (site.lifecycles l among);
        policies = λ p among. policy_stays book book.units clients book.policies p (λ client there known. has-without client_name name client book.clients (other_listed p among client there) known) (site.policies p among);
        last = each-without client_name (λ (c : Client). c.last ≤ last_moment) name book.clients site.last;
      })
      (λ image among.
      let kept = sound.images image among in
      let differs = other_client image among in
      record {
        client = has-without client_name name image.entry.id.client book.clients differs kept.client;
        last = subst (λ (k : ℕ). last_of image.entry.id.client book ≤ k) (sym (same_last image.entry.id.client differs)) (omega arith);
        policy = kept.policy;
        pieces = λ unit piece there. there;
      })
    where
      turned : (a b : List ℕ) → bytes_eq a b ≡ false → bytes_eq b a ≡ false
      turned a b differs = at (bytes_eq b a) refl
        where
          at : (c : Bool) → bytes_eq b a ≡ c → c ≡ false
          at true same = absurd (false≢true (sym differs ∙ (bytes_eq-Decides a b).1 (sym (text_is b a same))))
          at false is = refl

      other_client : (image : Image) → Contains s.images image → bytes_eq name image.entry.id.client ≡ false
      other_client image among = turned image.entry.id.client name (none_passes (λ i. bytes_eq i.id.client name) (entries s.images) unused image.entry (mapped_in (λ i. i.entry) s.images image among))

      other_listed : (p : Policy) → Contains book.policies p → (client : List ℕ) → Contains p.clients client → bytes_eq name client ≡ false
      other_listed p among client there = at (bytes_eq name client) refl
        where
          lists : has itself name p.clients ≡ false
          lists = none_passes (λ q. has itself name q.clients) book.policies unlisted p among

          at : (b : Bool) → bytes_eq name client ≡ b → b ≡ false
          at true same = absurd (false≢true (sym lists ∙ ap (λ (n : List ℕ). has itself n p.clients) (text_is name client same) ∙ has-contained itself p.clients client (sound.site.policies p among).ordered.clients there))
          at false is = refl

      same_last : (client : List ℕ) → bytes_eq name client ≡ false → last_of client (client_removed name book) ≡ last_of client book
      same_last client differs = ap (λ (o : Option Client). option_map_or (λ c. c.last) o 0) (named-without client_name name client book.clients ∙ (λ i. if differs i then None else named client_name client book.clients))

  -- Policies.

  pub policies_changed : (policies : List Policy) → AreByName policy_name policies → length policies ≤ policy_limit → ((p : Policy) → Contains policies p → IsSoundPolicy book p) → ((image : Image) → Contains s.images image → has policy_name image.entry.policy policies ≡ true) → Is (record book { policies = policies }) s.stored
  policies_changed policies rising few each there =
      let site = sound.site in
      lists_changed s sound book.clients policies s.site.zone
      (record {
        ordered = record { units = site.ordered.units; few = site.ordered.few; clients = site.ordered.clients; policies = rising };
        by_name = site.by_name;
        few_clients = site.few_clients;
        few_lifecycles = site.few_lifecycles;
        few_policies = few;
        units = site.units;
        lifecycles = λ l among. lifecycle_stays book book.units book.clients policies (same_units book book.clients policies) l (site.lifecycles l among);
        policies = λ p among. policy_stays book book.units book.clients policies p (λ client listed known. known) (each p among);
        last = site.last;
      })
      (λ image among. record { client = (sound.images image among).client; last = omega arith; policy = there image among; pieces = λ unit piece kept. kept })

  pub policy_is_added : (name : List ℕ) (files : Bool) (lifecycle : List ℕ) → nat_le policy_limit (length book.policies) ≡ false → not (has_lifecycle lifecycle book) ≡ false → Is (policy_added name files lifecycle book) s.stored
  policy_is_added name files lifecycle room there =
      let new : Policy = record { name = name; files = files; active = true; lifecycle = lifecycle; clients = []; selections = []; schedules = [] } in
      let more = length-put policy_name new book.policies in
      policies_changed (put policy_name new book.policies) (rising_put policy_name book.policies new sound.site.ordered.policies) (grind (arith, nat_tests, room, more))
      (each-put policy_name (IsSoundPolicy book) new book.policies (empty new there refl refl refl refl) sound.site.policies)
      (λ image among. has-put policy_name new image.entry.policy book.policies (sound.images image among).policy)
    where
      empty : (p : Policy) → not (has_lifecycle lifecycle book) ≡ false → p.lifecycle ≡ lifecycle → p.clients ≡ [] → p.selections ≡ [] → p.schedules ≡ [] → IsSoundPolicy book p
      empty p some l c t h = record {
        lifecycle = ap (λ (n : List ℕ). has_lifecycle n book) l ∙ not-false (has_lifecycle lifecycle book) some;
        clients = λ client listed. absurd (nothing_in client (subst (λ (xs : List (List ℕ)). Contains xs client) c listed));
        kinds = λ raw schedule listed. absurd (nothing_in schedule (subst (λ (xs : List Schedule). Contains xs schedule) h listed));
        ordered = record { clients = λ i j d below lt. absurd (let none = ap length c in omega (arith, none)); schedules = λ i j d below lt. absurd (let none = ap length h in omega (arith, none)) };
        few_clients = let none = ap length c in omega (arith, none);
        few_selections = let none = ap length t in omega (arith, none);
        few_schedules = let none = ap length h in omega (arith, none);
      }
        where
          nothing_in : {A : Type 0} (x : A) → Contains [] x → ⊥
          nothing_in x (k, lt, is) = absurd (omega arith)

  pub policy_is_removed : (name : List ℕ) → is_some (first_under name (entries s.images)) ≡ false → Is (policy_removed name book) s.stored
  policy_is_removed name unused =
      let fewer = length-without policy_name name book.policies in
      let few = sound.site.few_policies in
      policies_changed (without policy_name name book.policies) (rising_without policy_name book.policies name sound.site.ordered.policies) (omega (arith, few, fewer))
      (each-without policy_name (IsSoundPolicy book) name book.policies sound.site.policies)
      (λ image among. has-without policy_name name image.entry.policy book.policies (other_policy image among) (sound.images image among).policy)
    where
      other_policy : (image : Image) → Contains s.images image → bytes_eq name image.entry.policy ≡ false
      other_policy image among = at (bytes_eq name image.entry.policy) refl
        where
          under : bytes_eq image.entry.policy name ≡ false
          under = none_passes (λ i. bytes_eq i.policy name) (entries s.images) unused image.entry (mapped_in (λ i. i.entry) s.images image among)

          at : (b : Bool) → bytes_eq name image.entry.policy ≡ b → b ≡ false
          at true same = absurd (false≢true (sym under ∙ (bytes_eq-Decides image.entry.policy name).1 (sym (text_is name image.entry.policy same))))
          at false is = refl

  -- one policy is changed, and keeps its name
  module _ (name : List ℕ) where
    -- the policy of the name
    pub policy_is : (p : Policy) → Contains book.policies p → p.name ≡ name → named policy_name name book.policies ≡ Some p
    policy_is p among same = subst (λ (n : List ℕ). named policy_name n book.policies ≡ Some p) same (named-contained policy_name book.policies p sound.site.ordered.policies among)

    pub policy_is_changed : (change : Policy → Policy) → ((p : Policy) → (change p).name ≡ p.name) → ((p : Policy) → Contains book.policies p → p.name ≡ name → IsSoundPolicy book (change p)) → Is (with_policy name change book) s.stored
    policy_is_changed change keeps each =
        let few = sound.site.few_policies in
        let long = length-changed policy_name name change book.policies in
        policies_changed (changed policy_name name change book.policies) (rising-changed policy_name name change keeps book.policies sound.site.ordered.policies) (omega (arith, few, long))
        (each-changed-named policy_name (IsSoundPolicy book) name change book.policies each sound.site.policies)
        (λ image among. has-changed policy_name name change keeps image.entry.policy book.policies ∙ (sound.images image among).policy)

    pub policy_is_set : (active : Option Bool) (lifecycle : Option (List ℕ)) → option_map_or (λ l. not (has_lifecycle l book)) lifecycle false ≡ false → Is (with_policy name (policy_with active lifecycle) book) s.stored
    policy_is_set active lifecycle there = policy_is_changed (policy_with active lifecycle) (λ p. refl) (λ p among same.
        let kept = sound.site.policies p among in
        record { lifecycle = at lifecycle there p kept.lifecycle; clients = kept.clients; kinds = kept.kinds; ordered = record { clients = kept.ordered.clients; schedules = kept.ordered.schedules }; few_clients = kept.few_clients; few_selections = kept.few_selections; few_schedules = kept.few_schedules })
      where
        at : (o : Option (List ℕ)) → option_map_or (λ l. not (has_lifecycle l book)) o false ≡ false → (p : Policy) → has_lifecycle p.lifecycle book ≡ true → has_lifecycle (unwrap_or o p.lifecycle) book ≡ true
        at None is p old = old
        at (Some l) is p old = not-false (has_lifecycle l book) is

    pub client_is_listed : (client : List ℕ) → nat_le listed_limit (length (clients_of name book)) ≡ false → not (has client_name client book.clients) ≡ false → Is (with_policy name (with_listed client) book) s.stored
    client_is_listed client room known = policy_is_changed (with_listed client) (λ p. refl) (λ p among same.
        let kept = sound.site.policies p among in
        let count : length (clients_of name book) ≡ length p.clients = ap (λ (o : Option Policy). length (option_map_or (λ q. q.clients) o [])) (policy_is p among same) in
        let more = length-put itself client p.clients in
        record {
          lifecycle = kept.lifecycle;
          clients = each-put itself (λ c. is_known c book ≡ true) client p.clients (not-false (has client_name client book.clients) known) kept.clients;
          kinds = kept.kinds;
          ordered = record { clients = rising_put itself p.clients client kept.ordered.clients; schedules = kept.ordered.schedules };
          few_clients = grind (arith, nat_tests, room, count, more);
          few_selections = kept.few_selections;
          few_schedules = kept.few_schedules;
        })

    pub client_is_unlisted : (client : List ℕ) → Is (with_policy name (without_listed client) book) s.stored
    client_is_unlisted client = policy_is_changed (without_listed client) (λ p. refl) (λ p among same.
        let kept = sound.site.policies p among in
        let few = kept.few_clients in
        let fewer = length-without itself client p.clients in
        record {
          lifecycle = kept.lifecycle;
          clients = each-without itself (λ c. is_known c book ≡ true) client p.clients kept.clients;
          kinds = kept.kinds;
          ordered = record { clients = rising_without itself p.clients client kept.ordered.clients; schedules = kept.ordered.schedules };
          few_clients = omega (arith, few, fewer);
          few_selections = kept.few_selections;
          few_schedules = kept.few_schedules;
        })

    -- other selections of a policy, no more than there may be
    selected : (change : List (List ℕ) → List (List ℕ)) → ((p : Policy) → Contains book.policies p → p.name ≡ name → length (change p.selections) ≤ selection_limit) → Is (with_policy name (λ p. record p { selections = change p.selections }) book) s.stored
    selected change few = policy_is_changed (λ p. record p { selections = change p.selections }) (λ p. refl) (λ p among same.
        let kept = sound.site.policies p among in
        record { lifecycle = kept.lifecycle; clients = kept.clients; kinds = kept.kinds; ordered = record { clients = kept.ordered.clients; schedules = kept.ordered.schedules }; few_clients = kept.few_clients; few_selections = few p among same; few_schedules = kept.few_schedules })

    pub path_is_selected : (path : List ℕ) → nat_le selection_limit (length (selections_of name book)) ≡ false → Is (with_policy name (with_path path) book) s.stored
    path_is_selected path room = selected (λ paths. paths ++ path ∷ []) (λ p among same.
        let count : length (selections_of name book) ≡ length p.selections = ap (λ (o : Option Policy). length (option_map_or (λ q. q.selections) o [])) (policy_is p among same) in
        let more = length_push p.selections path in
        grind (arith, nat_tests, room, count, more))

    pub path_is_unselected : (path : List ℕ) → Is (with_policy name (without_path path) book) s.stored
    path_is_unselected path = selected (without itself path) (λ p among same.
        let few = (sound.site.policies p among).few_selections in
        let fewer = length-without itself path p.selections in
        omega (arith, few, fewer))

    -- other schedules of a policy, by name and no more than there may be, and full ones where it takes bytes as they come
    scheduled : (change : List Schedule → List Schedule)
        → ((p : Policy) → Contains book.policies p → p.name ≡ name → AreByName schedule_name (change p.schedules) × (length (change p.schedules) ≤ schedule_limit) × (p.files ≡ false → (schedule : Schedule) → Contains (change p.schedules) schedule → is_full schedule.kind ≡ true))
        → Is (with_policy name (λ p. record p { schedules = change p.schedules }) book) s.stored
    scheduled change good = policy_is_changed (λ p. record p { schedules = change p.schedules }) (λ p. refl) (λ p among same.
        let kept = sound.site.policies p among in
        let is = good p among same in
        record { lifecycle = kept.lifecycle; clients = kept.clients; kinds = is.2; ordered = record { clients = kept.ordered.clients; schedules = is.0 }; few_clients = kept.few_clients; few_selections = kept.few_selections; few_schedules = is.1 })

    -- a schedule is put in, under the rule on kinds
    kinds_kept : (schedule : Schedule) (p : Policy) → Contains book.policies p → p.name ≡ name → breaks_rule_8 name schedule.kind book ≡ false → p.files ≡ false → (other : Schedule) → Contains (put schedule_name schedule p.schedules) other → is_full other.kind ≡ true
    kinds_kept schedule p among same rule raw =
        let here : (not p.files && not (is_full schedule.kind)) ≡ false = sym (ap (λ (o : Option Policy). option_map_or (λ q. not q.files && not (is_full schedule.kind)) o false) (policy_is p among same)) ∙ rule in
        each-put schedule_name (λ (other : Schedule). is_full other.kind ≡ true) schedule p.schedules (at p.files (is_full schedule.kind) raw here) ((sound.site.policies p among).kinds raw)
      where
        at : (files full : Bool) → files ≡ false → (not files && not full) ≡ false → full ≡ true
        at true full raw is = absurd (false≢true (sym raw))
        at false full raw is = not-false full is

    pub schedule_is_added : (schedule : Schedule) → nat_le schedule_limit (length (schedules_of name book)) ≡ false → breaks_rule_8 name schedule.kind book ≡ false → Is (with_policy name (with_schedule schedule) book) s.stored
    schedule_is_added schedule room rule = scheduled (put schedule_name schedule) (λ p among same.
        let count : length (schedules_of name book) ≡ length p.schedules = ap (λ (o : Option Policy). length (option_map_or (λ q. q.schedules) o [])) (policy_is p among same) in
        let more = length-put schedule_name schedule p.schedules in
        (rising_put schedule_name p.schedules schedule (sound.site.policies p among).ordered.schedules, grind (arith, nat_tests, room, count, more), kinds_kept schedule p among same rule))

    pub schedule_is_changed : (schedule : Schedule) → not (has schedule_name schedule.name (schedules_of name book)) ≡ false → breaks_rule_8 name schedule.kind book ≡ false → Is (with_policy name (with_schedule schedule) book) s.stored
    schedule_is_changed schedule there rule = scheduled (put schedule_name schedule) (λ p among same.
        let kept = sound.site.policies p among in
        let is : has schedule_name schedule.name p.schedules ≡ true = sym (ap (λ (o : Option Policy). has schedule_name schedule.name (option_map_or (λ q. q.schedules) o [])) (policy_is p among same)) ∙ not-false (has schedule_name schedule.name (schedules_of name book)) there in
        let long = length-replaced schedule_name schedule p.schedules kept.ordered.schedules is in
        let few = kept.few_schedules in
        (rising_put schedule_name p.schedules schedule kept.ordered.schedules, omega (arith, few, long), kinds_kept schedule p among same rule))

    pub schedule_is_removed : (schedule : List ℕ) → Is (with_policy name (without_schedule schedule) book) s.stored
    schedule_is_removed schedule = scheduled (without schedule_name schedule) (λ p among same.
        let kept = sound.site.policies p among in
        let few = kept.few_schedules in
        let fewer = length-without schedule_name schedule p.schedules in
        (rising_without schedule_name p.schedules schedule kept.ordered.schedules, omega (arith, few, fewer), λ raw. each-without schedule_name (λ (other : Schedule). is_full other.kind ≡ true) schedule p.schedules (kept.kinds raw)))

  -- Units.

  -- other units that are sound, of which those that were there have their segments
  units_changed : (units : List StorageUnit) (stored : List Stored) → UnitsStay book (book_with book units book.clients book.policies) → AreByName unit_name units → length units ≤ unit_limit → ((u : StorageUnit) → Contains units u → IsSoundUnit u)
      → ((unit piece : List ℕ) → Contains (stored_on unit s.stored) piece → Contains (stored_on unit stored) piece) → ((u : StorageUnit) → Contains units u → HasSet stored u) → length stored ≡ length units → ((set : Stored) → Contains stored set → IsSoundSet (book_with book units book.clients book.policies) set) → Is (record book { units = units }) stored
  units_changed units stored stay rising few each grows own count sets =
      let site = sound.site in
      let after_site : IsSoundBook (book_with book units book.clients book.policies) = record {
        ordered = record { units = rising; few = few; clients = site.ordered.clients; policies = site.ordered.policies };
        by_name = site.by_name;
        few_clients = site.few_clients;
        few_lifecycles = site.few_lifecycles;
        few_policies = site.few_policies;
        units = each;
        lifecycles = λ l among. lifecycle_stays book units book.clients book.policies stay l (site.lifecycles l among);
        policies = λ p among. policy_stays book units book.clients book.policies p (λ client listed known. known) (site.policies p among);
        last = site.last;
      } in
      record {
        ids = sound.ids;
        images = λ image among.
            let kept = sound.images image among in
            image_stays book units book.clients book.policies stay s.stored stored image site (record { client = kept.client; last = omega arith; policy = kept.policy; pieces = grows }) kept;
        few_images = sound.few_images;
        own_sets = own;
        no_others = count;
        sets = sets;
        site = after_site;
        no_jobs = sound.no_jobs;
        next_job = sound.next_job;
      }

  pub unit_is_added : (name : List ℕ) (u : NewUnit) → AddsUnit u → nat_le unit_limit (length book.units) ≡ false → has unit_name name book.units ≡ false → Is (unit_added name u book) (s.stored ++ record { unit = name; pieces = [] } ∷ [])
  unit_is_added name u asks room fresh =
      let new = unit_of name (length book.units) u in
      let units = put unit_name new book.units in
      let set : Stored = record { unit = name; pieces = [] } in
      let long : length units ≡ suc (length book.units) = length-added unit_name new book.units fresh in
      let count = sound.no_others in
      let more = length_push s.stored set in
      units_changed units (s.stored ++ set ∷ []) stay (rising_put unit_name book.units new sound.site.ordered.units) (grind (arith, nat_tests, room, long))
      (each-put unit_name IsSoundUnit new book.units (added_sound u asks) sound.site.units)
      (stored_pushed s.stored set)
      (each-put unit_name (HasSet (s.stored ++ set ∷ [])) new book.units (place_pushed s.stored set (length book.units) (sym count)) (λ v among. places_pushed s.stored set v.number v.name (sound.own_sets v among)))
      (omega (arith, long, count, more))
      (λ other among. ⊎_elim
      (λ before. set_stays book units book.clients book.policies stay other (sound.sets other before))
      (λ is. subst (IsSoundSet (book_with book units book.clients book.policies)) is (record { unit = has-new unit_name new book.units; distinct = λ i j d below lt. absurd (omega arith); sized = λ piece (k, lt, here). absurd (omega arith) }))
      (Contains-push_cases s.stored set other among))
    where
      given : (key : Key) (o : Option ℕ) (default : ℕ) → IsGiven key o → IsNumberOf key default → IsNumberOf key (unwrap_or o default)
      given key None default is good = good
      given key (Some n) default is good = is

      added_sound : (u : NewUnit) → AddsUnit u → IsSoundUnit (unit_of name (length book.units) u)
      added_sound u asks = record {
        capacity = asks.capacity;
        segment = given segment_key u.segment 131072 asks.segment (omega arith, omega arith);
        fragment = given fragment_key u.fragment 4096 asks.fragment (omega arith, omega arith);
        slots = given slots_key u.slots 8388608 asks.slots (omega arith, omega arith);
        high = given high_key u.high 98 asks.high (omega arith, omega arith);
        low = asks.low;
      }

      stay : UnitsStay book (book_with book (put unit_name (unit_of name (length book.units) u) book.units) book.clients book.policies)
      stay other there = (has-put unit_name (unit_of name (length book.units) u) other book.units there, ap (λ (o : Option StorageUnit). (unwrap_or o disk0).segment) (named-put unit_name (unit_of name (length book.units) u) other book.units) ∙ at (bytes_eq name other) refl)
        where
          at : (b : Bool) → bytes_eq name other ≡ b → (unwrap_or (if b then Some (unit_of name (length book.units) u) else named unit_name other book.units) disk0).segment ≡ (unwrap_or (named unit_name other book.units) disk0).segment
          at true same = absurd (false≢true (sym fresh ∙ ap (λ (n : List ℕ). has unit_name n book.units) (text_is name other same) ∙ there))
          at false differs = refl

  pub unit_is_changed : (name : List ℕ) (c : UnitChange) → ChangesUnit c → Is (unit_changed name c book) s.stored
  unit_is_changed name c asks =
      let units = changed unit_name name (unit_with c) book.units in
      let long = length-changed unit_name name (unit_with c) book.units in
      let few = sound.site.ordered.few in
      let count = sound.no_others in
      units_changed units s.stored stay (rising-changed unit_name name (unit_with c) (λ u. refl) book.units sound.site.ordered.units) (omega (arith, few, long))
      (each-changed unit_name IsSoundUnit name (unit_with c) changed_sound book.units sound.site.units)
      (λ unit piece there. there)
      (each-changed unit_name (HasSet s.stored) name (unit_with c) (λ u own. own) book.units sound.own_sets)
      (omega (arith, count, long))
      (λ set among. set_stays book units book.clients book.policies stay set (sound.sets set among))
    where
      given : (key : Key) (o : Option ℕ) (old : ℕ) → IsGiven key o → IsNumberOf key old → IsNumberOf key (unwrap_or o old)
      given key None old is good = good
      given key (Some n) old is good = is

      marks : (high low : Option ℕ) → are_marks high low ≡ true → (u : StorageUnit) → u.low < u.high → unwrap_or low u.low < unwrap_or high u.high
      marks None None both u below = below
      marks None (Some low) both u below = absurd (false≢true both)
      marks (Some high) None both u below = absurd (false≢true both)
      marks (Some high) (Some low) both u below = grind (arith, nat_tests, both)

      changed_sound : (u : StorageUnit) → IsSoundUnit u → IsSoundUnit (unit_with c u)
      changed_sound u kept = record {
        capacity = given capacity_key c.capacity u.capacity asks.capacity kept.capacity;
        segment = kept.segment;
        fragment = kept.fragment;
        slots = given slots_key c.slots u.slots asks.slots kept.slots;
        high = given high_key c.high u.high asks.high kept.high;
        low = marks c.high c.low asks.marks u kept.low;
      }

      stay : UnitsStay book (book_with book (changed unit_name name (unit_with c) book.units) book.clients book.policies)
      stay other there =
          let one = some_named unit_name other book.units there in (
            has-changed unit_name name (unit_with c) (λ u. refl) other book.units ∙ there,
            ap (λ (o : Option StorageUnit). (unwrap_or o disk0).segment) (named-changed unit_name name (unit_with c) (λ u. refl) other book.units one.0 one.1) ∙ at (bytes_eq one.0.name name) one.0 ∙ ap (λ (o : Option StorageUnit). (unwrap_or o disk0).segment) (sym one.1),
          )
        where
          at : (b : Bool) (u : StorageUnit) → (if b then unit_with c u else u).segment ≡ u.segment
          at true u = refl
          at false u = refl
