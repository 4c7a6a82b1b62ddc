-- The law of chains: a chain of a client's backups gives the selected part of its last stream.
use Rattle.image_kinds.proofs.Common.{◌≡◌, ℕ, ◌+◌, suc, true, List, [], ◌∷◌, ◌++◌, take, drop, Option, Some, None, refl, sym, ap, subst, ◌∙◌, arith, inl, inr, ◌⊎◌, map, nat_le, Contains, Result, Ok, Err, IfOk, cond-true, cond-false, cases_Bool, leb-false, Entry, Item, Taken, Kept, AllByRecursion, filter_map, map-append, drop_more, rise_behind, path_of, taken_of, IsStream, selected, item_made, made, taken_in, last_taken, last_image, tree, Backup, images_behind, chain_of, last_stream, KeepsOld, AllKeepOld, AreBackups}
use Rattle.std.proofs.lemmas.List.{take-append-drop}
use Rattle.image_kinds.proofs.Orders.{made_is, path_made}
use Rattle.image_kinds.proofs.Trees.{paths, taken_here}

-- an element stands between those before it and those behind it
stands : (xs : List Entry) (e : Entry) (at : Contains xs e) → xs ≡ take at.0 xs ++ e ∷ drop (at.0 + 1) xs
stands xs e at = sym (take-append-drop at.0 xs) ∙ ap (λ (w : List Entry). take at.0 xs ++ w) (drop_more xs at.0 e at.1 ∙ ap (λ (y : Entry). y ∷ drop (at.0 + 1) xs) at.2)

-- what an image took of a selected entry's path
made_takes : (selections : List (List ℕ)) (reference : Option ℕ) (stream : List Entry) (e : Entry) → IsStream stream → Contains (selected selections stream) e → taken_in e.path (made selections reference stream) ≡ taken_of (item_made reference e)
made_takes selections reference stream e is at =
    let part = selected selections stream in
    let front = map (item_made reference) (take at.0 part) in
    let back = map (item_made reference) (drop (at.0 + 1) part) in
    let x = item_made reference e in
    let parts : made selections reference stream ≡ front ++ x ∷ back = ap (map (item_made reference)) (stands part e at) ∙ map-append (item_made reference) (take at.0 part) (e ∷ drop (at.0 + 1) part) in
    let rising : rise_behind [] (paths (front ++ x ∷ back)) ≡ true = rw (← parts) (made_is selections reference stream is).rising in
    subst (λ (p : List ℕ). taken_in p (made selections reference stream) ≡ taken_of x) (path_made reference e) (rw parts (taken_here [] front x back rising))

-- what some images, made behind a stream, have of an entry: the entry itself, or nothing where it stands in that stream too
abbrev Found : List (List ℕ) → List Entry → List (List Item) → Entry → Type 0
Found selections before images e = (last_taken e.path images ≡ Some e) ⊎ ((last_taken e.path images ≡ None) × Contains (selected selections before) e)

-- an image behind another stream took the entry, or it stands in that stream
took_or_old : (selections : List (List ℕ)) (before b : Backup) (e : Entry) → IsStream b.stream → KeepsOld selections before b → Contains (selected selections b.stream) e
    → (taken_in e.path (made selections (Some before.moment) b.stream) ≡ Some e) ⊎ ((taken_in e.path (made selections (Some before.moment) b.stream) ≡ None) × Contains (selected selections before.stream) e)
took_or_old selections before b e is old at =
    let takes = made_takes selections (Some before.moment) b.stream e is at in
    elim (cases_Bool (nat_le before.moment e.time)) [
      | inl later ↦ inl (takes ∙ ap taken_of (cond-true (nat_le before.moment e.time) (Taken e) (Kept e.path) later))
      | inr sooner ↦ inr (takes ∙ ap taken_of (cond-false (nat_le before.moment e.time) (Taken e) (Kept e.path) sooner), old e at (leb-false before.moment e.time sooner))
    ]

behind_finds : (selections : List (List ℕ)) (before b : Backup) (later : List Backup) → AllByRecursion (λ x. IsStream x.stream) (b ∷ later) → AllKeepOld selections before (b ∷ later) → (e : Entry) → Contains (selected selections (last_stream (b ∷ later))) e
    → Found selections before.stream (images_behind selections (Some before.moment) (b ∷ later)) e
behind_finds selections before b [] streams old e at = took_or_old selections before b e streams.0 old.0 at
behind_finds selections before b (next ∷ later) streams old e at =
    elim (behind_finds selections b next later streams.1 old.1 e at) [
      | inl found ↦ inl (rw found refl)
      | inr missing ↦ rw missing.0 (took_or_old selections before b e streams.0 old.0 missing.1)
    ]

chain_finds : (selections : List (List ℕ)) (b : Backup) (later : List Backup) → AreBackups selections (b ∷ later) → (e : Entry) → Contains (selected selections (last_stream (b ∷ later))) e → last_taken e.path (chain_of selections (b ∷ later)) ≡ Some e
chain_finds selections b [] are e at = made_takes selections None b.stream e are.streams.0 at
chain_finds selections b (next ∷ later) are e at =
    elim (behind_finds selections b next later are.streams.1 are.dated e at) [
      | inl found ↦ rw found refl
      | inr missing ↦ rw missing.0 (made_takes selections None b.stream e are.streams.0 missing.1)
    ]

-- the last image is made of the last stream, with some reference
last_made : (selections : List (List ℕ)) (reference : Option ℕ) (b : Backup) (later : List Backup) → (r : Option ℕ) × (last_image (images_behind selections reference (b ∷ later)) ≡ made selections r (last_stream (b ∷ later)))
last_made selections reference b [] = (reference, refl)
last_made selections reference b (next ∷ later) = last_made selections (Some b.moment) next later

-- where each entry is found, the entries are
all_found : (reference : Option ℕ) (images : List (List Item)) (entries : List Entry) → ((e : Entry) → Contains entries e → last_taken e.path images ≡ Some e) → filter_map (λ i. last_taken (path_of i) images) (map (item_made reference) entries) ≡ entries
all_found reference images [] found = refl
all_found reference images (x ∷ entries) found =
    rw (path_made reference x, found x (0, omega arith, refl)) (ap (λ (es : List Entry). x ∷ es) (all_found reference images entries (λ e at. found e (suc at.0, omega (arith, at.1), at.2))))

pub chain_gives : (selections : List (List ℕ)) (backups : List Backup) → AreBackups selections backups → tree (chain_of selections backups) ≡ selected selections (last_stream backups)
chain_gives selections [] are = refl
chain_gives selections (b ∷ later) are =
    let last = last_made selections None b later in
    rw last.1 (all_found last.0 (chain_of selections (b ∷ later)) (selected selections (last_stream (b ∷ later))) (chain_finds selections b later are))

pub law_of_chains : {E : Type 0} (images : List (List Item)) (result : Result (List Entry) E) → IfOk result (λ t. t ≡ tree images) → (selections : List (List ℕ)) (backups : List Backup) → images ≡ chain_of selections backups → AreBackups selections backups → IfOk result (λ t. t ≡ selected selections (last_stream backups))
law_of_chains images (Ok t) is selections backups chain are = is ∙ ap tree chain ∙ chain_gives selections backups are
law_of_chains images (Err e) is selections backups chain are = tt
