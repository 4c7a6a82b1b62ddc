-- The order of paths, and lists of them that rise.
use Rattle.image_kinds.proofs.Common.{◌≡◌, ℕ, Bool, true, List, [], ◌∷◌, Option, Some, None, Ordering, refl, ap, ◌∙◌, map, filter, nat_le, nat_cmp, is_lt, Less, Equal, Greater, AllByRecursion, and_parts, and_from, cond_both, nat_list_cmp_total, Entry, Taken, Kept, is_path, is_before, follows, rise_behind, path_of, IsEntry, IsItem, IsStream, IsImage, is_selected, selected, item_made, made}
use Rattle.std.specs.Cmp.Lexicographic.{slice_cmp}
use Rattle.image_kinds.specs.declared.format.Format.TheVariants as format

pub less_is : (o : Ordering) → is_lt o ≡ true → o ≡ Less
less_is Less e = refl
less_is Equal e = absurd cc
less_is Greater e = absurd cc

pub before_before : (a b c : List ℕ) → is_before a b ≡ true → is_before b c ≡ true → is_before a c ≡ true
before_before a b c first second = ap is_lt (nat_list_cmp_total.trans a b c (less_is (slice_cmp nat_cmp a b) first) (less_is (slice_cmp nat_cmp b c) second))

-- paths that rise behind one rise behind what stands before it
pub rise_sooner : (a b : List ℕ) (paths : List (List ℕ)) → is_before a b ≡ true → rise_behind b paths ≡ true → rise_behind a paths ≡ true
rise_sooner a b [] before rising = refl
rise_sooner a b (p ∷ paths) before rising =
    let parts = and_parts (follows b p) (rise_behind p paths) rising in
    let path = and_parts (is_path p) (is_before b p) parts.0 in
    and_from (follows a p) (rise_behind p paths) (and_from (is_path p) (is_before a p) path.0 (before_before a b p before path.1)) parts.1

pub path_made : (reference : Option ℕ) (e : Entry) → path_of (item_made reference e) ≡ e.path
path_made None e = refl
path_made (Some r) e = cond_both (nat_le r e.time) (Taken e) (Kept e.path) (λ i. path_of i ≡ e.path) (λ taken. refl) (λ kept. refl)

-- ---- the selected part of a stream, and the image that is made of it

-- the paths of a stream's entries rise behind a last one
abbrev pub Rises : List ℕ → List Entry → Type 0
Rises last entries = rise_behind last (map path_of (map Taken entries)) ≡ true

pub filter_rises : (p : Entry → Bool) (last : List ℕ) (entries : List Entry) → Rises last entries → Rises last (filter p entries)
filter_rises p last [] rising = refl
filter_rises p last (e ∷ entries) rising =
    let parts = and_parts (follows last e.path) (rise_behind e.path (map path_of (map Taken entries))) rising in
    let path = and_parts (is_path e.path) (is_before last e.path) parts.0 in
    let rest = filter_rises p e.path entries parts.1 in
    cond_both (p e) (e ∷ filter p entries) (filter p entries) (Rises last)
    (λ picked. and_from (follows last e.path) (rise_behind e.path (map path_of (map Taken (filter p entries)))) parts.0 rest)
    (λ left. rise_sooner last e.path (map path_of (map Taken (filter p entries))) path.1 rest)

pub made_paths : (reference : Option ℕ) (entries : List Entry) → map path_of (map (item_made reference) entries) ≡ map path_of (map Taken entries)
made_paths reference [] = refl
made_paths reference (e ∷ entries) = rw (path_made reference e, made_paths reference entries) refl

item_fits : (reference : Option ℕ) (e : Entry) → IsEntry e → IsItem format.Image (item_made reference e)
item_fits None e fits = fits
item_fits (Some r) e fits = cond_both (nat_le r e.time) (Taken e) (Kept e.path) (IsItem format.Image) (λ taken. fits) (λ kept. refl)

pub filter_each : (p : Entry → Bool) (entries : List Entry) → AllByRecursion (IsItem format.Stream) (map Taken entries) → AllByRecursion (IsItem format.Stream) (map Taken (filter p entries))
filter_each p [] each = tt
filter_each p (e ∷ entries) each =
    let rest = filter_each p entries each.1 in
    cond_both (p e) (e ∷ filter p entries) (filter p entries) (λ (es : List Entry). AllByRecursion (IsItem format.Stream) (map Taken es)) (λ picked. (each.0, rest)) (λ left. rest)

each_made : (reference : Option ℕ) (entries : List Entry) → AllByRecursion (IsItem format.Stream) (map Taken entries) → AllByRecursion (IsItem format.Image) (map (item_made reference) entries)
each_made reference [] each = tt
each_made reference (e ∷ entries) each = (item_fits reference e each.0, each_made reference entries each.1)

pub selected_is : (selections : List (List ℕ)) (stream : List Entry) → IsStream stream → IsStream (selected selections stream)
selected_is selections stream is = record {
  rising = filter_rises (λ e. is_selected selections e.path) [] stream is.rising;
  each = filter_each (λ e. is_selected selections e.path) stream is.each;
}

pub made_is : (selections : List (List ℕ)) (reference : Option ℕ) (stream : List Entry) → IsStream stream → IsImage (made selections reference stream)
made_is selections reference stream is =
    let part = selected_is selections stream is in
    record {
      rising = ap (rise_behind []) (made_paths reference (selected selections stream)) ∙ part.rising;
      each = each_made reference (selected selections stream) part.each;
    }
