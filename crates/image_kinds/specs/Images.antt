-- The image that is made of a client's stream.
use Rattle.std.specs.Prelude.{ℕ, Bool, ◌&&◌, ◌||◌, nat_le, nat_eq, if◌then◌else◌, List, length, drop, map, filter, codes, Option, Some, None, bytes_eq}
use Rattle.std.specs.List.{list_any, starts_with}
use Rattle.image_kinds.specs.Paths.{begins_with_slash}
use Rattle.image_kinds.specs.Streams.{Entry, Item, Taken, Kept}

-- a selection is followed in a path by a slash: the path begins with it, and its next byte is a slash
abbrev pub is_above : List ℕ → List ℕ → Bool
is_above selection path = starts_with nat_eq path selection && begins_with_slash (drop (length selection) path)

-- a selection selects a path: it is `/`, or equals the path, or is followed in it by a slash
abbrev pub selects : List ℕ → List ℕ → Bool
selects selection path = bytes_eq selection (codes "/") || bytes_eq selection path || is_above selection path

abbrev pub is_selected : List (List ℕ) → List ℕ → Bool
is_selected selections path = list_any (λ selection. selects selection path) selections

-- the selected part of a stream
abbrev pub selected : List (List ℕ) → List Entry → List Entry
selected selections stream = filter (λ e. is_selected selections e.path) stream

-- an entry's time and content are taken where there is no reference, or where it was changed at or after it
abbrev pub item_made : Option ℕ → Entry → Item
item_made None e = Taken e
item_made (Some reference) e = if nat_le reference e.time then Taken e else Kept e.path

-- the image names every selected path of the stream
abbrev pub made : List (List ℕ) → Option ℕ → List Entry → List Item
made selections reference stream = map (item_made reference) (selected selections stream)
